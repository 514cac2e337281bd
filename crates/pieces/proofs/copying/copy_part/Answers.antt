-- `pieces::copying::copy_part` meets its contract: each turn copies the next byte of the part. Assumes nothing.
use mathlib.Core.Path.{sym, ◌∙◌}
use native.Mathlib.Omega.{arith}
use lib.Seq.{get_or-take, get_or-drop}
use lib.ListN.{length, drop}
use Rattle.pieces.proofs.Parts.{copy_none, copy_more, copy_all, length_part}
use Rattle.pieces.proofs.copying.copy_part.Goals as goal

pub loop-i-init : goal.loop-i-init
loop-i-init c = copy_none _ _ (length_part c.args.from _ c.args.src.now c.requires)

pub overflow_add-out : goal.overflow_add-out
overflow_add-out c = omega (arith, c.requires, c.loop-i.invariant.same)

pub bounds-src-from : goal.bounds-src-from
bounds-src-from c = omega (arith, c.requires, c.loop-i.invariant.same)

pub loop-i-preserved : goal.loop-i-preserved
loop-i-preserved c =
    let n = length c.args.out.now in
    let from = c.args.from in
    let src = c.args.src.now in
    copy_more c.loop-i.invariant _ (omega (arith, c.loop-i-test.true, c.loop-i.invariant.same))
    (sym (get_or-take n (drop from src) c.loop-i.i 0 c.loop-i-test.true
    ∙ get_or-drop from src c.loop-i.i 0))

pub returns : goal.returns
returns c = copy_all c.loop-i.invariant (omega (arith, c.loop-i-test.false, c.loop-i.invariant.same))
