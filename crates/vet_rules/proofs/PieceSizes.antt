-- The greatest lengths of the texts that directives write: at most 16,385 bytes. Assumes nothing.
use Prim.Native.Nat.{ℕ, zero, suc, ◌+◌, ◌-◌, ◌≤◌}
use mathlib.Core.Logic.{inl, inr}
use mathlib.Core.Bool.{Bool, true, false, cond}
use mathlib.Core.List.{◌++◌}
use native.Mathlib.Omega.{arith}
use lib.Dec.{ltb}
use lib.ListN.{length}
use Rattle.rules.specs.Number.{digits_of, magnitude_of, sign_of}
use Rattle.rules.specs.Piece.{or_else, digits_in, numeral_of}
use Rattle.rules.specs.declared.Settings.{Settings}
use Rattle.rules.proofs.Digits.{count_word}
use Rattle.rules.proofs.Groups.{grouped_most}
use Rattle.vet_rules.specs.Worst.{most_piece, larger, round_up, padded_size, top_of, greatest, spans_of, greatest_over, least_integer}
use Rattle.vet_rules.proofs.Lengths.{left_length}
use Rattle.vet_rules.proofs.Padding.{larger_one, up_near}

pub larger_most : (a b c : ℕ) → a ≤ c → b ≤ c → larger a b ≤ c
larger_most a b c h k = elim (larger_one a b) [ inl e ↦ omega arith | inr e ↦ omega arith ]

-- padded texts
module _ (w p m : ℕ) (hw : w ≤ 4096) (hp : 1 ≤ p) (kp : p ≤ 4096) (hm : m ≤ 4096) where
  padded_most : (n : ℕ) → n ≤ 8194 → padded_size w p m n ≤ most_piece
  padded_most n h = omega (arith, up_near p hp (w - (n + m)))

  top_most : (lo hi : ℕ) → top_of w p m lo hi ≤ most_piece
  unfolding top_of
  top_most lo hi = pick (ltb (round_up p (w - 1 - (hi + m))) (w - (lo + m)))
    where
      pick : (b : Bool) → cond b (w + p - 1) 0 ≤ most_piece
      pick true = omega arith
      pick false = omega arith

  greatest_most : (lo hi : ℕ) → hi ≤ 8194 → greatest w p m lo hi ≤ most_piece
  unfolding greatest
  greatest_most lo hi h =
      larger_most (padded_size w p m hi) (top_of w p m lo hi) most_piece (padded_most hi h) (top_most lo hi)

  pub over_most : (longest : ℕ) (q : Bool) (k : ℕ) → longest ≤ 4096 → greatest_over w p m (spans_of longest q k) ≤ most_piece
  unfolding spans_of
  over_most longest q zero h = larger_most _ 0 most_piece (greatest_most _ _ (omega arith)) (omega arith)
  over_most longest q (suc zero) h = larger_most _ 0 most_piece (greatest_most _ _ (omega arith)) (omega arith)
  over_most longest false (suc (suc zero)) h = larger_most _ 0 most_piece (greatest_most _ _ (omega arith)) (omega arith)
  over_most longest true (suc (suc zero)) h =
      larger_most _ _ most_piece (greatest_most _ _ (omega arith))
      (larger_most _ 0 most_piece (greatest_most _ _ (omega arith)) (omega arith))
  over_most longest false (suc (suc (suc zero))) h =
      larger_most _ 0 most_piece (greatest_most _ _ (omega arith)) (omega arith)
  over_most longest true (suc (suc (suc zero))) h =
      larger_most _ 0 most_piece (greatest_most _ _ (omega arith)) (omega arith)
  over_most longest q (suc (suc (suc (suc zero)))) h = omega arith
  over_most longest q (suc (suc (suc (suc (suc k))))) h = omega arith

-- numerals: 64 digits, 63 separators and a sign
module _ (base : ℕ) (s : Settings) (hb : 2 ≤ base) (hw : 1 ≤ or_else s.fourth 3) where
  digits_most : (colon : Bool) → length (digits_in colon s (digits_of base (magnitude_of least_integer))) ≤ 127
  digits_most true =
      let ds = digits_of base (magnitude_of least_integer) in
      omega (
        arith,
        grouped_most (or_else s.fourth 3) (or_else s.third 44) ds hw,
        count_word base (magnitude_of least_integer) hb (omega arith),
      )
  digits_most false = omega (arith, count_word base (magnitude_of least_integer) hb (omega arith))

  pub numeral_most_lem : (colon atsign : Bool) → or_else s.first 0 ≤ 4096 → length (numeral_of base colon atsign s least_integer) ≤ 4096
  numeral_most_lem colon atsign h =
      let ds = digits_in colon s (digits_of base (magnitude_of least_integer)) in
      omega (
        arith,
        left_length (or_else s.first 0) (or_else s.second 32) (sign_of atsign least_integer ++ ds),
        digits_most colon,
      )

pub glyph_most : (colon atsign : Bool) → cond atsign 11 (cond colon 2 1) ≤ most_piece
glyph_most colon true = omega arith
glyph_most true false = omega arith
glyph_most false false = omega arith

pub plural_most : (atsign : Bool) → cond atsign 3 1 ≤ most_piece
plural_most true = omega arith
plural_most false = omega arith

pub fold_most : (atsign : Bool) → cond atsign 1 0 ≤ most_piece
fold_most true = omega arith
fold_most false = omega arith
