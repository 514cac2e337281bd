-- Digits of c bits each: how many there are is read off the top set bit. Over any c. Assumes nothing.
use mathlib.Core.Path.{◌≡◌, refl, sym, subst, ◌∙◌}
use Prim.Native.Nat.{ℕ, zero, suc, ◌+◌, ◌-◌, ◌/◌, ◌^◌, ◌≤◌, ◌<◌}
use native.Mathlib.Nat.{lt_of_lt_of_le, le_trans, div-eq_of_lt, add-div_right, le-div_iff_mul-le}
use native.Mathlib.Decide.{dec_lt}
use native.Mathlib.Omega.{arith}
use lib.Count.{count_leading_zeros, leading_top}
use lib.ListN.{length}
use lib.Pow.{pow_pos, pow_mono, pow-add, shr_lt}
use Rattle.rules.specs.Number.{digits_of}
use Rattle.rules.proofs.Digits.{count_one, count_more}
use Rattle.numbers.specs.Counts.{top_count}

two_up : (c : ℕ) → 1 ≤ c → 2 ≤ 2 ^ c
two_up c h = pow_mono {i = 1} {j = c} h

one : (c j n : ℕ) → j < c → n < 2 ^ suc j → length (digits_of (2 ^ c) n) ≡ j / c + 1
one c j n h high = count_one (2 ^ c) n (lt_of_lt_of_le high (pow_mono h)) ∙ rw (div-eq_of_lt h)

-- without its last digit the top set bit of n is c bits lower
lower : (c j n : ℕ) → c ≤ j → 2 ^ j ≤ n → 2 ^ (j - c) ≤ n / 2 ^ c
lower c j n h low =
    let e : j - c + c ≡ j = omega arith in
    (le-div_iff_mul-le {k = 2 ^ c} {x = 2 ^ (j - c)} {y = n} (pow_pos c)).1 (rw (← pow-add 2 (j - c) c, e) low)

below : (c j n : ℕ) → c ≤ j → n < 2 ^ suc j → n / 2 ^ c < 2 ^ suc (j - c)
below c j n h high =
    let e : suc (j - c) + c ≡ suc j = omega arith in
    shr_lt (suc (j - c)) c (rw e high)

fewer : (c j : ℕ) → 1 ≤ c → c ≤ j → j / c ≡ (j - c) / c + 1
fewer c j hc h =
    let e : j - c + c ≡ j = omega arith in
    subst (λ (m : ℕ). m / c ≡ (j - c) / c + 1) e (add-div_right (j - c) hc)

-- where the top set bit of n is bit j, there are j / c + 1 digits; k only bounds the recursion
top_bit : (k c j n : ℕ) → j ≤ k → 1 ≤ c → 2 ^ j ≤ n → n < 2 ^ suc j → length (digits_of (2 ^ c) n) ≡ j / c + 1
top_bit zero c j n hk hc low high = one c j n (omega arith) high
top_bit (suc k) c j n hk hc low high =
    elim (dec_lt j c) [
      | yes h ↦ one c j n h high
      | no h ↦
          let g : c ≤ j = omega arith in
          count_more (2 ^ c) n (two_up c hc) (le_trans (pow_mono g) low)
          ∙ rw (top_bit k c (j - c) (n / 2 ^ c) (omega arith) hc (lower c j n g low) (below c j n g high), fewer c j hc g)
    ]

pub zeros_most : (n : ℕ) → 1 ≤ n → n < 2 ^ 64 → count_leading_zeros 64 n ≤ 63
zeros_most n some f = let t = leading_top 64 n some f in omega (arith, t.1)

-- what is read where there is a set bit
pub read_some : (c n : ℕ) → 1 ≤ n → (63 - count_leading_zeros 64 n) / c + 1 ≡ top_count c n
read_some c zero some = absurd (omega arith)
read_some c (suc n) some = refl

some_count : (c n : ℕ) → 1 ≤ c → 1 ≤ n → n < 2 ^ 64
    → (63 - count_leading_zeros 64 n) / c + 1 ≡ length (digits_of (2 ^ c) n)
some_count c n hc some f =
    let t = leading_top 64 n some f in
    let j = t.0 in
    let s : 63 - count_leading_zeros 64 n ≡ j = omega (arith, t.1) in
    rw s (sym (top_bit j c j n (omega arith) hc t.2 t.3))

-- for every magnitude the count that is read is that of the digits; zero has one
pub top_count_lem : (c n : ℕ) → 1 ≤ c → n < 2 ^ 64 → top_count c n ≡ length (digits_of (2 ^ c) n)
top_count_lem c zero hc f = sym (count_one (2 ^ c) 0 (pow_pos c))
top_count_lem c (suc n) hc f = some_count c (suc n) hc (omega arith) f
