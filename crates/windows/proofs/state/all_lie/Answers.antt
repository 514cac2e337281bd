-- All blocks lie where each does, from the innermost on. Assumes nothing.
use native.Mathlib.Omega.{arith}
use borrow.Author.Tests.{not-true, not-false}
use Rattle.windows.proofs.StateLaws.{all_in, one_out, one_in}
use Rattle.windows.proofs.state.all_lie.Goals as goal

pub returns-then-not-block_lies : goal.returns-then-not-block_lies
returns-then-not-block_lies c = let a = c.args in one_out a.size a.table.now a.nest c.loop-i.invariant c.loop-i-test.true c.block_at.ensures.is c.block_lies.ensures (not-true c.block_lies.result c.if-not-block_lies.true-raw)

pub loop-i-preserved : goal.loop-i-preserved
loop-i-preserved c = let a = c.args in one_in a.size a.table.now a.nest c.loop-i.invariant c.loop-i-test.true c.block_at.ensures.is c.block_lies.ensures (not-false c.block_lies.result c.if-not-block_lies.false-raw)

pub returns : goal.returns
returns c = let a = c.args in all_in a.size a.table.now a.nest c.loop-i.invariant (omega (arith, c.loop-i-test.false))
