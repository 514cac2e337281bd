-- A number that is written whole, and a part of it by way of a local array. Assumes nothing.
use mathlib.Core.Path.{◌≡◌, sym, ap}
use mathlib.Core.Logic.{◌≢◌}
use mathlib.Core.List.{List, [], ◌∷◌, ◌++◌, append-nil}
use Prim.Native.Nat.{ℕ, suc, ◌-◌, ◌≤◌}
use native.Mathlib.Nat.{not-suc-le-zero}
use native.Mathlib.Decide.{ℕ_discrete as dec_eq}
use native.Mathlib.Omega.{arith}
use borrow.Author.Tests.{eq-eqb, ne_eqb}
use borrow.Rule.Slice.PartMut.{put_mid}
use lib.ListN.{length, take, drop, set, drop_of_length-le}
use lib.Seq.{take_at, take_all}
use Rattle.rules.specs.Number.{digits_of, grouped}
use Rattle.rules.proofs.Groups.{grouped_most}
use Rattle.pieces.specs.Bytes.{digits_in, signed, figure_of, GoodFigure}
use Rattle.pieces.specs.declared.Figure.{Figure}

module _ (x : Figure) where
  pub ungrouped : x.width ≡ 0 → digits_in x ≡ digits_of x.base x.magnitude
  unfolding digits_in
  ungrouped e = rw (eq-eqb x.width 0 e)

  pub in_groups : x.width ≢ 0 → digits_in x ≡ grouped x.width x.comma (digits_of x.base x.magnitude)
  unfolding digits_in
  in_groups e = rw (ne_eqb x.width 0 e)

  pub unsigned : x.sign ≡ 0 → figure_of x ≡ digits_in x
  unfolding figure_of signed
  unsigned e = rw (eq-eqb x.sign 0 e)

  pub with_sign : x.sign ≢ 0 → figure_of x ≡ x.sign ∷ digits_in x
  unfolding figure_of signed
  with_sign e = rw (ne_eqb x.sign 0 e)

-- a number's text is at most 128 bytes long
pub digits_most : (x : Figure) → GoodFigure x → length (digits_in x) ≤ 127
digits_most x g =
    elim (dec_eq x.width 0) [
      | yes e ↦ omega (arith, ap length (ungrouped x e), g.digits)
      | no e ↦
          let ds = digits_of x.base x.magnitude in
          omega (arith, ap length (in_groups x e), grouped_most x.width x.comma ds (omega (arith, e)), g.digits)
    ]

pub figure_most : (x : Figure) → GoodFigure x → length (figure_of x) ≤ 128
figure_most x g =
    elim (dec_eq x.sign 0) [
      | yes e ↦ omega (arith, ap length (unsigned x e), digits_most x g)
      | no e ↦ omega (arith, ap length (with_sign x e), digits_most x g)
    ]

-- a byte and then a text, in a buffer that has room for just that
pub sign_put : (d : List ℕ) (s : ℕ) (text : List ℕ) → length d ≡ suc (length text) → {y : List ℕ} → y ≡ text
    → put_mid 1 (length (set d 0 s) - 1) (set d 0 s) y ≡ s ∷ text
sign_put [] s text h e = absurd (not-suc-le-zero {n = length text} (omega arith))
sign_put (x ∷ d) s text h {y} e =
    let m : suc (length d) - 1 ≡ length d = omega arith in
    ap (λ (t : List ℕ). s ∷ t) (rw (m, drop_of_length-le d {i = length d} (omega arith), append-nil y) e)

pub sign_room : (d : List ℕ) (s : ℕ) (text : List ℕ) → length d ≡ suc (length text)
    → length (take (length (set d 0 s) - 1) (drop 1 (set d 0 s))) ≡ length text
sign_room [] s text h = absurd (not-suc-le-zero {n = length text} (omega arith))
sign_room (x ∷ d) s text h =
    let m : suc (length d) - 1 ≡ length d = omega arith in
    rw (m, take_all (length d) d (omega arith)) (omega arith)

-- what was written into the front of an array is read back
pub read_back : (k : ℕ) (y r text : List ℕ) → y ≡ text → k ≡ length text → take k (y ++ r) ≡ text
read_back k y r text e h = rw e (take_at text r k (sym h))
