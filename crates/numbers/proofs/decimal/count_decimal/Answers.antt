-- `numbers::decimal::count_decimal` meets its contract: four digits in a turn, and then up to three. Assumes nothing.
use mathlib.Core.Path.{◌≡◌}
use Prim.Native.Nat.{ℕ, ◌≤◌, ◌<◌, ◌^◌}
use native.Mathlib.Omega.{arith}
use lib.ListN.{length}
use Rattle.rules.specs.Number.{digits_of}
use Rattle.rules.proofs.Digits.{count_pos, count_decimal_lem}
use Rattle.numbers.proofs.Counting.{counting_none, counting_more}
use Rattle.numbers.proofs.decimal.count_decimal.Goals as goal
use Rattle.numbers.proofs.decimal.count_decimal.Goals.{then-loop-count-test+else-power-n, else-loop-count-test}

within : (n : ℕ) {r : ℕ} → n < 2 ^ 64 → r ≡ length (digits_of 10 n) → (1 ≤ r) × (r ≤ 20)
within n f e = (omega (arith, count_pos 10 n (omega arith)), omega (arith, count_decimal_lem n f))

pub count_last-requires-clause-counting : goal.count_last-requires-clause-counting
count_last-requires-clause-counting c = counting_none c.args.n

pub returns-then-n-lt10000-clause-within : goal.returns-then-n-lt10000-clause-within
returns-then-n-lt10000-clause-within c =
    within c.args.n c.ranges.n.fits c.count_last.ensures

pub loop-count-init : goal.loop-count-init
loop-count-init c = counting_more (counting_none c.args.n) (omega arith) (omega arith)

pub loop-count-preserved : goal.loop-count-preserved
loop-count-preserved c = counting_more c.loop-count.invariant c.loop-count-test.true (omega arith)

pub returns-clause-within : goal.returns-clause-within
returns-clause-within c =
    within c.args.n c.ranges.n.fits c.count_last-2.ensures
