-- How many digits a number has: read off its top set bit, or by powers of ten. Assumes nothing: these are definitions.
use Rattle.std.specs.Prelude.{◌≡◌, ℕ, zero, suc, ◌+◌, ◌-◌, ◌/◌, ◌%◌, ◌^◌, ◌≤◌, length}
use Rattle.std.specs.Int.Count.{count_leading_zeros}
use Rattle.rules.specs.Number.{digits_of}

-- of c bits each, in 64 bits: zero has no set bit, and one digit
abbrev pub top_count : ℕ → ℕ → ℕ
top_count c zero = 1
top_count c (suc n) = (63 - count_leading_zeros 64 (suc n)) / c + 1

-- n has no fewer than `count` decimal digits, and `power` is the least number of so many; they are counted by fours
pub record Counting (n power count : ℕ) : Type 0 where
  pub is : power ≡ 10 ^ (count - 1)
  pub reached : count ≤ length (digits_of 10 n)
  pub fours : count % 4 ≡ 1
  pub small : count ≤ 17
