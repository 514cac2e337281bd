-- `numbers::decimal::fill_decimal` meets its contract: two pairs in a turn, and then the first digits. Assumes nothing.
use mathlib.Core.Path.{◌≡◌}
use Prim.Native.Nat.{◌-◌, ◌/◌, ◌%◌}
use native.Mathlib.Omega.{arith}
use Rattle.numbers.proofs.Filling.{fill_below}
use Rattle.numbers.proofs.PairLaws.{fill_pair}
use Rattle.numbers.proofs.decimal.fill_decimal.Goals as goal

pub loop-end-preserved : goal.loop-end-preserved
loop-end-preserved c =
    let more = c.loop-end-test.true in
    let rest = c.loop-end.rest in
    let g = fill_pair c.loop-end.invariant (c.loop-end.end - 2) (rest % 10000 % 100) c.put_pair.ensures (omega (arith, more)) (omega (arith, more)) (omega arith) in
    let q : rest / 100 / 100 ≡ rest / 10000 = omega arith in
    let high : rest % 10000 / 100 ≡ rest / 100 % 100 = omega (arith, q) in
    rw q at (fill_pair g (c.loop-end.end - 4) (rest % 10000 / 100) c.put_pair-in-loop-end.ensures (omega (arith, more)) (omega (arith, more)) high)

pub overflow_cast-rest : goal.overflow_cast-rest
overflow_cast-rest c = omega (arith, fill_below (omega arith) c.loop-end.invariant 4 c.loop-end-test.false)

pub put_first-requires-clause-n_bound : goal.put_first-requires-clause-n_bound
put_first-requires-clause-n_bound c =
    fill_below (omega arith) c.loop-end.invariant 4 c.loop-end-test.false
