-- `pieces::quoting::find_spot` meets its contract: what is to skip of the rest is what was to skip of the whole.
-- Assumes nothing.
use mathlib.Core.Bool.{false}
use mathlib.Core.Path.{◌∙◌}
use native.Mathlib.Omega.{arith}
use Rattle.std.proofs.Common.{rules}
use lib.ListN.{length}
use lib.Seq.{drop-nil}
use Rattle.pieces.specs.Bytes.{owed}
use Rattle.pieces.proofs.Escapes.{ends, skip_within, skip_over}
use Rattle.pieces.proofs.quoting.find_spot.Goals as goal

pub returns-then-skip-size-clause-spot : goal.returns-then-skip-size-clause-spot
unfolding owed
returns-then-skip-size-clause-spot c =
    c.loop-next.invariant
    ∙ skip_within c.args.src.now c.loop-next.next c.loop-next-test.true _ _ (search rules) c.if-skip-size.true

pub loop-next-preserved : goal.loop-next-preserved
loop-next-preserved c =
    c.loop-next.invariant
    ∙ skip_over c.args.src.now c.loop-next.next c.loop-next-test.true _ _ (search rules) c.if-skip-size.false

pub returns-clause-spot : goal.returns-clause-spot
unfolding owed
returns-clause-spot c =
    let src = c.args.src.now in
    c.loop-next.invariant
    ∙ rw (ends src c.loop-next.next false c.loop-next-test.false, ends src (length src) false (omega arith))
    (drop-nil c.loop-next.skip)
