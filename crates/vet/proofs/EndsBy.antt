-- Where the ways through a conditional end, as code works it out; and how large what they come to can be. Assumes nothing.
use Prim.Native.Nat.{ℕ, ◌≤◌}
use mathlib.Core.Path.{◌≡◌, refl}
use Rattle.rules.specs.declared.ArgumentPosition.{ArgumentPosition}
use Rattle.vet_rules.proofs.Sizes.{EndsSized, meeting_sized}
use Rattle.vet_rules.specs.Ways.{Way, fails, on_ends, meeting}
use Rattle.vet_rules.specs.declared.Ends.{Ends}
use Rattle.vet_rules.specs.declared.Ends.TheVariants.{Nowhere, Equal, Unequal}
use Rattle.vet.specs.Counting.{EndsIn}

-- ways that do not end at one argument
pub parted : (e : Ends) (p : ℕ) → ((n : ArgumentPosition) (s : ℕ) → e ≡ Equal n s → ⊥) → (on : ℕ → ℕ → Way) → on_ends p e on ≡ fails 11 p
parted Nowhere p o on = refl
parted (Equal n s) p o on = absurd (o n s refl)
parted Unequal p o on = refl

-- how large the ends are, once there is a way
module _ (count most : ℕ) where
  pub sized_in : (e : Ends) → EndsSized count most e → EndsIn count most e
  sized_in Nowhere h = absurd h
  sized_in (Equal n s) h = h
  sized_in Unequal h = tt

  pub meet_sized : (e : Ends) (n s : ℕ) → EndsIn count most e → n ≤ count → s ≤ most
      → EndsSized count most (meeting e n s)
  unfolding meeting
  meet_sized Nowhere n s i h k = (h, k)
  meet_sized (Equal a b) n s i h k = meeting_sized count most (Equal a b) n s i k
  meet_sized Unequal n s i h k = tt
