-- How many digits the code of a character without a name of its own has. Assumes nothing.
use Prim.Native.Nat.{ℕ, ◌/◌, ◌≤◌, ◌<◌}
use mathlib.Core.Path.{◌≡◌}
use native.Mathlib.Omega.{arith}
use lib.ListN.{length}
use Rattle.rules.specs.Number.{digits_of}
use Rattle.rules.proofs.Digits.{count_one, count_more}

pub one_digit : (c : ℕ) → c < 16 → length (digits_of 16 c) ≡ 1
one_digit c h = omega (arith, count_one 16 c h)

pub two_digits : (c : ℕ) → 16 ≤ c → c < 32 → length (digits_of 16 c) ≡ 2
two_digits c h k = omega (arith, count_more 16 c (omega arith) h, count_one 16 (c / 16) (omega arith))
