-- `numbers::decimal::count_last` meets its contract: each power that is reached is one digit more. Assumes nothing.
use native.Mathlib.Omega.{arith}
use Rattle.numbers.proofs.Counting.{last_fits, counting_all}
use Rattle.numbers.proofs.decimal.count_last.Goals as goal

pub overflow_mul-power : goal.overflow_mul-power
overflow_mul-power c = omega (arith, last_fits c.requires.counting)

pub overflow_mul-power-2 : goal.overflow_mul-power-2
overflow_mul-power-2 c = omega (arith, last_fits c.requires.counting)

pub overflow_mul-power-3 : goal.overflow_mul-power-3
overflow_mul-power-3 c = omega (arith, last_fits c.requires.counting)

pub returns : goal.returns
returns c = counting_all c.requires.counting c.requires.n_bound c.from.ensures c.from-2.ensures c.from-3.ensures
