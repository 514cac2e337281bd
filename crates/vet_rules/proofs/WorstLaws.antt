-- The greatest length of a piece as code works it out: step by step, by the kind of the argument. Assumes nothing.
use Prim.Native.Nat.{ℕ, suc, ◌+◌, ◌*◌, ◌-◌, ◌/◌, ◌≤◌, ◌<◌}
use mathlib.Core.Path.{◌≡◌, refl, sym, ap, ap₂, ◌∙◌}
use mathlib.Core.Logic.{inl, inr}
use mathlib.Core.Bool.{Bool, true, false}
use mathlib.Core.List.{◌++◌}
use native.Mathlib.Omega.{arith}
use lib.ListN.{length}
use borrow.Author.Tests.{lt-ltb, le-ltb}
use Rattle.rules.specs.Number.{digits_of, magnitude_of, sign_of}
use Rattle.rules.specs.Piece.{or_else, digits_in}
use Rattle.rules.specs.declared.Form.TheVariants.{Object, Numeral}
use Rattle.rules.specs.declared.Settings.{Settings}
use Rattle.rules.proofs.Groups.{grouped_size_lem}
use Rattle.vet_rules.specs.Worst.{larger, round_up, top_of, greatest, spans_of, least_integer, worst, least_digits}
use Rattle.vet_rules.proofs.Lengths.{left_length}
use Rattle.vet_rules.proofs.Padding.{larger_one, larger_left, larger_right}

-- what padding brings a text to at the most, from the two sides of its test
module _ (w p m lo hi : ℕ) {less short room : ℕ} (e : less ≡ w - 1 - (hi + m)) (f : short ≡ round_up p less) (g : room ≡ w - (lo + m)) where
  tested : (round_up p (w - 1 - (hi + m)) ≡ short) × (w - (lo + m) ≡ room)
  tested = (ap (round_up p) (sym e) ∙ sym f, sym g)

  pub top_yes : short < room → top_of w p m lo hi ≡ w + p - 1
  unfolding top_of
  top_yes h = rw (tested.0, tested.1, lt-ltb short room h)

  pub top_no : room ≤ short → top_of w p m lo hi ≡ 0
  unfolding top_of
  top_no h = rw (tested.0, tested.1, le-ltb short room h)

-- the greatest padded length, from the padded longest text and that
pub greatest_is : (w p m lo hi : ℕ) {less up top : ℕ} → less ≡ w - (hi + m) → up ≡ round_up p less → top ≡ top_of w p m lo hi
    → larger (hi + (m + up)) top ≡ greatest w p m lo hi
unfolding greatest
greatest_is w p m lo hi e f g = ap₂ larger (ap (λ (x : ℕ). hi + (m + x)) (f ∙ ap (round_up p) e)) g

pub larger_zero : (a : ℕ) → larger a 0 ≡ a
larger_zero a = elim (larger_one a 0) [ inl e ↦ e | inr e ↦ omega (arith, larger_left a 0) ]

-- `~a` and `~s`, by kinds
module _ (longest : ℕ) (q colon atsign : Bool) (s : Settings) where
  abbrev over : ℕ → ℕ → ℕ
  over lo hi = greatest (or_else s.first 0) (or_else s.second 1) (or_else s.third 0) lo hi

  pub worst_boolean : worst longest (Object q) colon atsign s 0 ≡ over 2 2
  unfolding worst spans_of
  worst_boolean = larger_zero (over 2 2)

  pub worst_integer : worst longest (Object q) colon atsign s 1 ≡ over 1 20
  unfolding worst spans_of
  worst_integer = larger_zero (over 1 20)

  pub worst_character : q ≡ false → worst longest (Object q) colon atsign s 2 ≡ over 1 1
  unfolding worst spans_of
  worst_character e = rw e (larger_zero (over 1 1))

  pub worst_name : q ≡ true → worst longest (Object q) colon atsign s 2 ≡ larger (over 3 9) (over 11 11)
  unfolding worst spans_of
  worst_name e = rw e (ap (larger (over 3 9)) (larger_zero (over 11 11)))

  pub worst_string : q ≡ false → worst longest (Object q) colon atsign s 3 ≡ over 0 longest
  unfolding worst spans_of
  worst_string e = rw e (larger_zero (over 0 longest))

  pub worst_quoted : q ≡ true → worst longest (Object q) colon atsign s 3 ≡ over 2 (2 * longest + 2)
  unfolding worst spans_of
  worst_quoted e = rw e (larger_zero (over 2 (2 * longest + 2)))

-- `~d ~x ~o ~b`: the sign and the digits of 2 ^ 63, with the separators of their groups, or minwidth
module _ (longest base : ℕ) (atsign : Bool) (s : Settings) (kind : ℕ) where
  widened : (w n : ℕ) → w - n + n ≡ larger w n
  widened w n = elim (larger_one w n) [ inl e ↦ omega (arith, larger_right w n) | inr e ↦ omega (arith, larger_left w n) ]

  by_digits : (colon : Bool) (n : ℕ) → length (digits_in colon s (digits_of base (magnitude_of least_integer))) ≡ n
      → worst longest (Numeral base) colon atsign s kind ≡ larger (or_else s.first 0) (suc n)
  unfolding worst
  by_digits colon n e =
      let text = sign_of atsign least_integer ++ digits_in colon s (digits_of base (magnitude_of least_integer)) in
      left_length (or_else s.first 0) (or_else s.second 32) text
      ∙ widened (or_else s.first 0) (length text)
      ∙ ap (λ (x : ℕ). larger (or_else s.first 0) (suc x)) e

  pub worst_numeral_lem : worst longest (Numeral base) false atsign s kind ≡ larger (or_else s.first 0) (suc (least_digits base))
  worst_numeral_lem = by_digits false (least_digits base) refl

  pub worst_grouped_lem : 0 < or_else s.fourth 3
      → worst longest (Numeral base) true atsign s kind
      ≡ larger (or_else s.first 0) (suc (least_digits base + (least_digits base - 1) / or_else s.fourth 3))
  worst_grouped_lem h =
      by_digits true (least_digits base + (least_digits base - 1) / or_else s.fourth 3)
      (grouped_size_lem (or_else s.fourth 3) (or_else s.third 44) (digits_of base 9223372036854775808) h)
