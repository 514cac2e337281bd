-- The turns of the loop that writes digits in groups. Assumes nothing.
use mathlib.Core.Path.{◌≡◌, refl}
use mathlib.Core.Bool.{true, false, cond}
use mathlib.Core.List.{List, ◌∷◌}
use Prim.Native.Nat.{ℕ, ◌+◌, ◌-◌, ◌≤◌, ◌<◌}
use native.Mathlib.Numerals.{add-one}
use native.Mathlib.Omega.{arith}
use lib.ListN.{length, drop, get_or, set, length-set, length-drop, drop_of_length-le}
use lib.Seq.{drop-cons}
use Rattle.rules.specs.Number.{splits, grouped}
use Rattle.rules.proofs.Groups.{grouped_none}
use Rattle.rules.proofs.Writing.{Writing, write_none, write_room, write_one, write_all_lem}

-- what is to come after digit i: a separator or none, and the digits from there on
abbrev after : ℕ → ℕ → List ℕ → ℕ → List ℕ
after w c ds i =
    cond (splits w (length ds - (i + 1))) (c ∷ grouped w c (drop (i + 1) ds)) (grouped w c (drop (i + 1) ds))

opens : (w c : ℕ) (ds : List ℕ) (i : ℕ) → i < length ds
    → grouped w c (drop i ds) ≡ get_or ds i 0 ∷ after w c ds i
unfolding grouped
opens w c ds i h = rw (drop-cons ds i 0 h, length-drop, add-one, grouped)

-- i digits are written, to the place `to`
pub record Grouping (w c : ℕ) (ds : List ℕ) (size : ℕ) (out : List ℕ) (i to : ℕ) : Type 0 where
  pub ahead : Writing (grouped w c ds) out to (grouped w c (drop i ds))
  pub same : length out ≡ size
  pub inside : i ≤ length ds

pub group_none : (w c : ℕ) (ds out : List ℕ) → length out ≡ length (grouped w c ds)
    → Grouping w c ds (length out) out 0 0
group_none w c ds out e = record { ahead = write_none (grouped w c ds) out e; same = refl; inside = omega arith }

module _ {w c : ℕ} {ds : List ℕ} {size : ℕ} {out : List ℕ} {i to : ℕ} (g : Grouping w c ds size out i to) where
  pub group_all : length ds ≤ i → out ≡ grouped w c ds
  group_all h = write_all_lem (rw (drop_of_length-le ds {i = i} h, grouped_none) at g.ahead)

-- one turn, by whether a separator follows
module _ {w c : ℕ} {ds : List ℕ} {size : ℕ} {out : List ℕ} {i to : ℕ} (g : Grouping w c ds size out i to)
    (h : i < length ds) where
  pub digit_room : to < length out
  digit_room = write_room _ _ (rw (opens w c ds i h) at g.ahead)

  digit : Writing (grouped w c ds) (set out to (get_or ds i 0)) (to + 1) (after w c ds i)
  digit = write_one _ _ (rw (opens w c ds i h) at g.ahead)

  pub group_plain : splits w (length ds - (i + 1)) ≡ false
      → Grouping w c ds size (set out to (get_or ds i 0)) (i + 1) (to + 1)
  group_plain e = record { ahead = rw e at digit; same = simp length-set g.same; inside = omega arith }

  parted : splits w (length ds - (i + 1)) ≡ true
      → Writing (grouped w c ds) (set out to (get_or ds i 0)) (to + 1) (c ∷ grouped w c (drop (i + 1) ds))
  parted e = rw e at digit

  pub comma_room : splits w (length ds - (i + 1)) ≡ true → to + 1 < length (set out to (get_or ds i 0))
  comma_room e = write_room _ _ (parted e)

  pub group_split : splits w (length ds - (i + 1)) ≡ true
      → Grouping w c ds size (set (set out to (get_or ds i 0)) (to + 1) c) (i + 1) (to + 1 + 1)
  group_split e = record { ahead = write_one _ _ (parted e); same = simp length-set g.same; inside = omega arith }
