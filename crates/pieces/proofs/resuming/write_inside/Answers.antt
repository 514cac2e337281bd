-- `pieces::resuming::write_inside` meets its contract: where the string ends before the room does, the last quote and
-- the padding follow. Assumes nothing.
use native.Mathlib.Omega.{arith}
use Rattle.pieces.proofs.Rests.{still_in, string_closed, string_more}
use Rattle.pieces.proofs.resuming.write_inside.Goals as goal

pub returns-then-at-out : goal.returns-then-at-out
returns-then-at-out c =
    string_closed c.args.table.now c.args.q c.args.gone c.requires.stage_value c.requires.rest_in
    c.string_part-string.ensures c.escape_some-next.ensures c.into.ensures c.if-at-out.true
    (c.write_padding.ensures c.args.table.now (still_in c.requires.rest_in (omega arith) (omega arith)))

pub returns : goal.returns
returns c =
    string_more c.args.table.now c.args.q c.args.gone c.requires.stage_value c.requires.rest_in
    c.string_part-string.ensures c.escape_some-next.ensures c.if-at-out.false c.into-2.ensures
