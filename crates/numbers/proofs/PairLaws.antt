-- Decimal digits that are filled in two at a time. Assumes nothing.
use mathlib.Core.Path.{◌≡◌, refl, ap, ◌∙◌}
use mathlib.Core.List.{List, ◌++◌}
use Prim.Native.Nat.{ℕ, ◌+◌, ◌-◌, ◌/◌, ◌%◌, ◌≤◌, ◌<◌}
use native.Mathlib.Decide.{dec_lt}
use native.Mathlib.Omega.{arith}
use borrow.Author.Tests.{lt-ltb}
use lib.ListN.{length, drop, set}
use Rattle.rules.specs.Number.{digit_byte, digits_of}
use Rattle.rules.proofs.Digits.{count_below}
use Rattle.numbers.specs.Pairs.{pair_at}
use Rattle.numbers.proofs.Filling.{Filling, fill_some, fill_open, fill_below, fill_more, fill_last, fill_same}

-- the byte of a digit below ten
pub digit_byte_lem : (d : ℕ) → d < 10 → 48 + d ≡ digit_byte d
digit_byte_lem d h = rw (lt-ltb d 10 h)

ten : 2 ≤ 10
ten = omega arith

module _ {text out : List ℕ} {end rest : ℕ} (f : Filling 10 text out end rest) where
  -- more than two digits are left, and the last two go in, at i and i + 1
  pub fill_pair : {after : List ℕ} (i pair : ℕ) → after ≡ pair_at out i pair → end ≡ i + 2 → 1 ≤ i → pair ≡ rest % 100
      → Filling 10 text after i (rest / 100)
  fill_pair i pair a p h e =
      let u : pair % 10 ≡ rest % 10 = omega arith in
      let g = fill_more ten f (i + 1) (digit_byte (pair % 10)) (omega arith) (fill_open ten f (omega arith)) (ap digit_byte u) in
      let q : rest / 10 / 10 ≡ rest / 100 = omega arith in
      let t : pair / 10 ≡ rest / 10 % 10 = omega (arith, q) in
      rw a
      (rw q at (fill_more ten g i (digit_byte (pair / 10)) (omega arith) (fill_open ten g (omega arith)) (ap digit_byte t)))

-- x where there are more than k digits, and else y
pub record Chosen (k end x y chosen : ℕ) : Type 0 where
  pub is : k < end → chosen ≡ x
  pub again : end ≤ k → chosen ≡ y

module _ {k end x y chosen : ℕ} where
  pub chosen_first : k < end → chosen ≡ x → Chosen k end x y chosen
  chosen_first h e = record { is = λ h2. e; again = λ h2. absurd (omega arith) }

  pub chosen_again : end ≤ k → chosen ≡ y → Chosen k end x y chosen
  chosen_again h e = record { is = λ h2. absurd (omega arith); again = λ h2. e }

-- four digits, from the right, of a number that may have fewer: then the first one again
pub record Firsts (n end last second third fourth : ℕ) : Type 0 where
  pub ones : last ≡ n % 10
  pub tens : Chosen 1 end (n / 10 % 10) last second
  pub hundreds : Chosen 2 end (n / 100 % 10) second third
  pub thousands : Chosen 3 end (n / 1000) third fourth

module _ {n end last second third fourth : ℕ} (four : n < 10000) (f : Firsts n end last second third fourth) where
  module _ (out : List ℕ) (h : length (digits_of 10 n) ≡ end) (room : end ≤ length out) where
    start : Filling 10 (digits_of 10 n ++ drop end out) out end n
    start = record { whole = refl; left = h; inside = room }

    first_some : 1 ≤ end
    first_some = fill_some ten start

    -- what the four stores make of the buffer
    abbrev after : List ℕ
    after = set (set (set (set out (end - 1) (48 + last)) (end - 2) (48 + second)) (end - 3) (48 + third)) 0 (48 + fourth)

    one_digit : end ≡ 1 → after ≡ digits_of 10 n ++ drop end out
    one_digit z =
        let small : n < 10 = fill_below ten start 1 (omega arith) in
        let l : last ≡ n = omega (arith, f.ones) in
        let s : second ≡ n = f.tens.again (omega arith) ∙ l in
        let t : third ≡ n = f.hundreds.again (omega arith) ∙ s in
        let u : fourth ≡ n = f.thousands.again (omega arith) ∙ t in
        let i : end - 1 ≡ 0 = omega arith in
        let j : end - 2 ≡ 0 = omega arith in
        let k : end - 3 ≡ 0 = omega arith in
        let x : ℕ = digit_byte n in
        let g = fill_same ten (fill_same ten (fill_same ten start 0 x (omega arith)) 0 x (omega arith)) 0 x (omega arith) in
        rw (u, t, s, l, i, j, k, digit_byte_lem n small) (fill_last ten g x small refl)

    two_digits : end ≡ 2 → after ≡ digits_of 10 n ++ drop end out
    two_digits z =
        let small : n < 100 = fill_below ten start 2 (omega arith) in
        let s : second ≡ n / 10 = omega (arith, f.tens.is (omega arith)) in
        let t : third ≡ n / 10 = f.hundreds.again (omega arith) ∙ s in
        let u : fourth ≡ n / 10 = f.thousands.again (omega arith) ∙ t in
        let i : end - 1 ≡ 1 = omega arith in
        let j : end - 2 ≡ 0 = omega arith in
        let k : end - 3 ≡ 0 = omega arith in
        let x : ℕ = digit_byte (n / 10) in
        let g = fill_more ten start 1 (digit_byte (n % 10)) z (fill_open ten start (omega arith)) refl in
        let g2 = fill_same ten (fill_same ten g 0 x (omega arith)) 0 x (omega arith) in
        rw (u, t, s, f.ones, i, j, k, digit_byte_lem (n % 10) (omega arith), digit_byte_lem (n / 10) (omega arith))
        (fill_last ten g2 x (omega arith) refl)

    three_digits : end ≡ 3 → after ≡ digits_of 10 n ++ drop end out
    three_digits z =
        let small : n < 1000 = fill_below ten start 3 (omega arith) in
        let s : second ≡ n / 10 % 10 = f.tens.is (omega arith) in
        let t : third ≡ n / 10 / 10 = omega (arith, f.hundreds.is (omega arith)) in
        let u : fourth ≡ n / 10 / 10 = f.thousands.again (omega arith) ∙ t in
        let i : end - 1 ≡ 2 = omega arith in
        let j : end - 2 ≡ 1 = omega arith in
        let k : end - 3 ≡ 0 = omega arith in
        let x : ℕ = digit_byte (n / 10 / 10) in
        let g = fill_more ten start 2 (digit_byte (n % 10)) z (fill_open ten start (omega arith)) refl in
        let g2 = fill_more ten g 1 (digit_byte (n / 10 % 10)) refl (fill_open ten g (omega arith)) refl in
        let g3 = fill_same ten g2 0 x (omega arith) in
        rw (u, t, s, f.ones, i, j, k, digit_byte_lem (n % 10) (omega arith), digit_byte_lem (n / 10 % 10) (omega arith), digit_byte_lem (n / 10 / 10) (omega arith))
        (fill_last ten g3 x (omega arith) refl)

    four_digits : end ≡ 4 → after ≡ digits_of 10 n ++ drop end out
    four_digits z =
        let s : second ≡ n / 10 % 10 = f.tens.is (omega arith) in
        let q : n / 10 / 10 ≡ n / 100 = omega arith in
        let t : third ≡ n / 10 / 10 % 10 = rw q (f.hundreds.is (omega arith)) in
        let u : fourth ≡ n / 10 / 10 / 10 = omega (arith, f.thousands.is (omega arith)) in
        let i : end - 1 ≡ 3 = omega arith in
        let j : end - 2 ≡ 2 = omega arith in
        let k : end - 3 ≡ 1 = omega arith in
        let g = fill_more ten start 3 (digit_byte (n % 10)) z (fill_open ten start (omega arith)) refl in
        let g2 = fill_more ten g 2 (digit_byte (n / 10 % 10)) refl (fill_open ten g (omega arith)) refl in
        let g3 = fill_more ten g2 1 (digit_byte (n / 10 / 10 % 10)) refl (fill_open ten g2 (omega arith)) refl in
        rw (u, t, s, f.ones, i, j, k, digit_byte_lem (n % 10) (omega arith), digit_byte_lem (n / 10 % 10) (omega arith), digit_byte_lem (n / 10 / 10 % 10) (omega arith), digit_byte_lem (n / 10 / 10 / 10) (omega arith))
        (fill_last ten g3 (digit_byte (n / 10 / 10 / 10)) (omega arith) refl)

    pub first_written : after ≡ digits_of 10 n ++ drop end out
    first_written =
        let most = count_below 4 10 n ten (omega arith) four in
        elim (dec_lt 1 end) [
          | no a ↦ one_digit (omega (arith, first_some))
          | yes a ↦ elim (dec_lt 2 end) [
            | no b ↦ two_digits (omega arith)
            | yes b ↦ elim (dec_lt 3 end) [ no c ↦ three_digits (omega arith) | yes c ↦ four_digits (omega (arith, most)) ]
          ]
        ]
