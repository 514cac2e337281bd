-- An escape leaves block after block up to an iteration. Assumes nothing.
use Prim.Native.Nat.{ℕ, ◌<◌}
use mathlib.Core.Path.{◌≡◌, refl}
use native.Mathlib.Omega.{arith}
use Rattle.std.proofs.Common.{rules}
use Rattle.nesting.specs.Nest.{cut}
use Rattle.nesting.proofs.MoveLaws.{passing}
use Rattle.nesting.proofs.OpenLaws.{leaving_first, leaving_none, leaving_clause, leaving_loop}
use Rattle.nesting.proofs.moves.leave.Goals as goal

above : {n : ℕ} → 0 < n → n ≡ 0 → ⊥
above h q = omega (arith, h, q)

pub loop-i-init : goal.loop-i-init
loop-i-init c = let a = c.args in leaving_first a.inputs.text.now a.inputs.table.now a.here a.nest c.requires.sound

pub block_at-block-requires : goal.block_at-block-requires
block_at-block-requires c = omega (arith, c.loop-i-test.true, c.loop-i.invariant.sound.depth)

pub close_iteration-requires-clause-passing : goal.close_iteration-requires-clause-passing
close_iteration-requires-clause-passing c =
    let a = c.args in
    passing a.inputs.text.now a.inputs.table.now a.here (cut a.nest c.loop-i.i) c.loop-i.invariant.sound (above c.loop-i-test.true) a.inputs.accepted c.block_at-block.ensures.is c.block_at-block.ensures.fits c.cut.ensures (search rules)

pub returns-then-ne : goal.returns-then-ne
returns-then-ne c = let a = c.args in leaving_loop a.inputs.text.now a.inputs.table.now a.here c.loop-i.invariant (above c.loop-i-test.true) c.block_at-block.ensures.is c.cut.ensures (search rules) c.close_iteration.ensures

pub loop-i-preserved : goal.loop-i-preserved
loop-i-preserved c = let a = c.args in leaving_clause a.inputs.text.now a.inputs.table.now a.here c.loop-i.invariant (above c.loop-i-test.true) c.block_at-block.ensures.is refl (search rules)

pub returns : goal.returns
returns c = let a = c.args in leaving_none a.inputs.text.now a.inputs.table.now a.here c.loop-i.invariant (omega (arith, c.loop-i-test.false)) c.ended.ensures
