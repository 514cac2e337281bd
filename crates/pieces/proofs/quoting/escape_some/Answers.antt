-- `pieces::quoting::escape_some` meets its contract: what is written, with what the string still owes, is what it owed.
-- Assumes nothing.
use mathlib.Core.Path.{◌≡◌, sym, ◌∙◌}
use native.Mathlib.Omega.{arith}
use lib.ListN.{get_or}
use Rattle.pieces.proofs.Escapes.{marks_next, next_marked, next_byte}
use Rattle.pieces.proofs.Rests.{append_one}
use Rattle.pieces.proofs.quoting.escape_some.Goals as goal
use Rattle.pieces.proofs.quoting.escape_some.Goals.{then-not-gone, else-not-gone, then-gone, else-gone}

pub loop-to-preserved : goal.loop-to-preserved
loop-to-preserved c =
    let src = c.args.src.now in
    let i = c.loop-to.next in
    let is : c.if-not-gone.gone ≡ marks_next c.loop-to.gone (get_or src i 0) =
    elim c.if-not-gone.branch [
      | then-not-gone w ↦ rw w.if-not-gone.true (w.gone-is ∙ w.is_marked-gone.ensures)
      | else-not-gone w ↦ rw w.if-not-gone.false (rw w.if-not-gone.false at w.gone-is)
    ] in
    elim c.if-gone.branch [
      | then-gone w ↦
          rw (w.out-is, w.next-is, w.if-gone.true) (record {
            written = append_one c.loop-to.invariant.written 92 c.loop-to-test.true
                (next_marked src i c.if-next-src.true c.loop-to.gone (sym is ∙ w.if-gone.true));
            inside = omega arith;
          })
      | else-gone w ↦
          rw (w.out-is, w.next-is, w.if-gone.false) (record {
            written = append_one c.loop-to.invariant.written (get_or src i 0) c.loop-to-test.true
                (next_byte src i c.if-next-src.true c.loop-to.gone (sym is ∙ w.if-gone.false));
            inside = omega arith;
          })
    ]
