-- `pieces::resuming::write_from_left` meets its contract: where the padding ends before the room does, the first quote
-- and what is inside follow. Assumes nothing.
use Rattle.pieces.proofs.Rests.{string_opened, front_more}
use Rattle.pieces.proofs.resuming.write_from_left.Goals as goal

pub returns-then-at-out : goal.returns-then-at-out
returns-then-at-out c =
    string_opened c.args.table.now c.args.q c.requires.stage_value c.requires.rest_in
    c.pad_some-before.ensures c.into.ensures c.if-at-out.true c.write_inside.ensures

pub returns : goal.returns
returns c =
    front_more c.args.table.now c.args.q c.requires.stage_value c.requires.rest_in
    c.pad_some-before.ensures c.if-at-out.false
