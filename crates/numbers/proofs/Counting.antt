-- How many digits a number has: over any base, by powers of it; and the turns of the count in base ten. Assumes nothing.
use mathlib.Core.Path.{◌≡◌, refl}
use Prim.Native.Nat.{ℕ, ◌+◌, ◌-◌, ◌*◌, ◌^◌, ◌≤◌, ◌<◌}
use native.Mathlib.Decide.{dec_lt}
use native.Mathlib.Nat.{pow-le-pow_right}
use native.Mathlib.Omega.{arith}
use borrow.Author.Tests.{lt-ltb, le-ltb, le-leb, lt-leb}
use lib.Dec.{leb, ltb}
use lib.ListN.{length}
use lib.Pow.{pow-add}
use Rattle.std.specs.Int.{from_bool}
use Rattle.rules.specs.Number.{digits_of}
use Rattle.rules.proofs.Digits.{count_pos, count_below, count_above}
use Rattle.numbers.specs.Counts.{Counting}

-- a number reaches a power of the base just where it has more digits
pub reaches_more : (k b n : ℕ) → 2 ≤ b → 1 ≤ k → leb (b ^ k) n ≡ ltb k (length (digits_of b n))
reaches_more k b n hb hk =
    elim (dec_lt n (b ^ k)) [
      | yes h ↦ rw (lt-leb (b ^ k) n h, le-ltb k (length (digits_of b n)) (count_below k b n hb hk h))
      | no h ↦ rw (le-leb (b ^ k) n (omega arith), lt-ltb k (length (digits_of b n)) (count_above k b n hb (omega arith)))
    ]

-- how far a count goes past k, where it goes at most three past it
pub three_more : (k count : ℕ) → k ≤ count → count ≤ k + 3
    → k + from_bool (ltb k count) + from_bool (ltb (k + 1) count) + from_bool (ltb (k + 2) count) ≡ count
three_more k count low high =
    elim (dec_lt k count) [
      | no h ↦ rw (le-ltb k count (omega arith), le-ltb (k + 1) count (omega arith), le-ltb (k + 2) count (omega arith)) (omega arith)
      | yes h ↦ elim (dec_lt (k + 1) count) [
        | no h2 ↦ rw (lt-ltb k count h, le-ltb (k + 1) count (omega arith), le-ltb (k + 2) count (omega arith)) (omega arith)
        | yes h2 ↦ elim (dec_lt (k + 2) count) [
          | no h3 ↦ rw (lt-ltb k count h, lt-ltb (k + 1) count h2, le-ltb (k + 2) count (omega arith)) (omega arith)
          | yes h3 ↦ rw (lt-ltb k count h, lt-ltb (k + 1) count h2, lt-ltb (k + 2) count h3) (omega arith)
        ]
      ]
    ]

pub counting_none : (n : ℕ) → Counting n 1 1
counting_none n =
    record { is = refl; reached = count_pos 10 n (omega arith); fours = refl; small = omega arith }

module _ {n power count : ℕ} (g : Counting n power count) where
  -- the next power but k
  pub next_power : (k : ℕ) → power * 10 ^ k ≡ 10 ^ (count - 1 + k)
  next_power k = rw (g.is, pow-add 10 (count - 1) k)

  power_most : (k : ℕ) → count ≤ k + 1 → power ≤ 10 ^ k
  power_most k h = rw g.is (pow-le-pow_right (omega arith) {i = count - 1} {j = k} (omega arith))

  -- so the last products fit
  pub last_fits : power * 1000 < 2 ^ 64
  last_fits = omega (arith, power_most 16 g.small)

  pub counting_more : count < 17 → power * 10000 ≤ n → Counting n (power * 10000) (count + 4)
  counting_more h reach =
      let e : count + 4 - 1 ≡ count - 1 + 4 = omega (arith, g.fours) in
      let p : power * 10000 ≡ 10 ^ (count - 1 + 4) = next_power 4 in
      let above : count - 1 + 4 < length (digits_of 10 n) = count_above (count - 1 + 4) 10 n (omega arith) (rw p at reach) in
      record {
        is = rw e p;
        reached = omega arith;
        fours = omega (arith, g.fours);
        small = omega (arith, g.fours);
      }

  -- the digits that the turns have left
  pub counting_all : n < power * 10000 → {a b c : ℕ}
      → a ≡ from_bool (leb (power * 10) n)
      → b ≡ from_bool (leb (power * 100) n)
      → c ≡ from_bool (leb (power * 1000) n)
      → count + a + b + c ≡ length (digits_of 10 n)
  counting_all h {a} {b} {c} ea eb ec =
      let most : length (digits_of 10 n) ≤ count + 3 = omega (arith, count_below (count - 1 + 4) 10 n (omega arith) (omega arith) (rw (next_power 4) at h), g.fours) in
      let step : (k : ℕ) → 1 ≤ k → leb (power * 10 ^ k) n ≡ ltb (count - 1 + k) (length (digits_of 10 n)) = λ k hk. rw (next_power k) (reaches_more (count - 1 + k) 10 n (omega arith) (omega arith)) in
      let i : count - 1 + 1 ≡ count = omega (arith, g.fours) in
      let j : count - 1 + 2 ≡ count + 1 = omega (arith, g.fours) in
      let k : count - 1 + 3 ≡ count + 2 = omega (arith, g.fours) in
      rw (ea, eb, ec, step 1 (omega arith), step 2 (omega arith), step 3 (omega arith), i, j, k)
      (three_more count (length (digits_of 10 n)) g.reached most)

  -- there are at most 20 digits, so 17 are enough to stop at
  pub counting_long : n < 2 ^ 64 → 17 ≤ count → n < power * 10000
  counting_long f h =
      let z : count ≡ 17 = omega (arith, g.small) in
      let e : power ≡ 10000000000000000 = rw z at g.is in
      omega (arith, f)
