-- What holds of every clause of a conditional holds of the one that is picked. Assumes nothing.
use Prim.Native.Nat.{ℕ, zero, suc, ◌<◌}
use mathlib.Core.Path.{◌≡◌, refl}
use mathlib.Core.Bool.{true, false}
use native.Mathlib.Omega.{arith}
use lib.IntN.{ℤ, pos, negsuc}
use Rattle.rules.specs.Run.{fallback_of, clause_at, pick_number, pick_integer}
use Rattle.rules.specs.Text.{Sequence, end, Clauses, none, clause}
use Rattle.vet_rules.specs.Ways.{has_fallback}

abbrev pub Each : (Sequence → Type 0) → Clauses → Type 0
Each P none = Unit {0}
Each P (clause colon x more) = P x × Each P more

pub each_on : (P Q : Sequence → Type 0) → ((x : Sequence) → P x → Q x) → (cs : Clauses) → Each P cs → Each Q cs
each_on P Q f none a = tt
each_on P Q f (clause colon x more) a = (f x a.0, each_on P Q f more a.1)

unfoldable pub clauses_in : Clauses → ℕ
clauses_in none = 0
clauses_in (clause colon x more) = suc (clauses_in more)

module _ (P : Sequence → Type 0) where
  pub each_at : (cs : Clauses) → Each P cs → (n : ℕ) (otherwise : Sequence) → P otherwise → P (clause_at cs n otherwise)
  unfolding clause_at
  each_at none a n y h = h
  each_at (clause colon x more) a zero y h = a.0
  each_at (clause colon x more) a (suc n) y h = each_at more a.1 n y h

  -- where there is one of that number
  pub each_within : (cs : Clauses) → Each P cs → (n : ℕ) (otherwise : Sequence) → n < clauses_in cs
      → P (clause_at cs n otherwise)
  unfolding clause_at clauses_in
  each_within none a n y h = absurd (omega arith)
  each_within (clause colon x more) a zero y h = a.0
  each_within (clause colon x more) a (suc n) y h = each_within more a.1 n y (omega arith)

  -- the clause after a last `~:;`, or else nothing
  pub each_fallback : (cs : Clauses) → Each P cs → (has_fallback cs ≡ false → P end) → P (fallback_of cs)
  unfolding fallback_of has_fallback
  each_fallback none a h = h refl
  each_fallback (clause true x none) a h = a.0
  each_fallback (clause false x none) a h = h refl
  each_fallback (clause colon x (clause colon₂ y more)) a h = each_fallback (clause colon₂ y more) a.1 h

  module _ (cs : Clauses) (a : Each P cs) (h : has_fallback cs ≡ false → P end) where
    pub each_number : (n : ℕ) → P (pick_number cs n)
    each_number n = each_at cs a n (fallback_of cs) (each_fallback cs a h)

    pub each_integer : (z : ℤ) → P (pick_integer cs z)
    each_integer (pos n) = each_number n
    each_integer (negsuc n) = each_fallback cs a h
