-- `lines::answer_frame` meets its contract: bytes that are no whole frame answer `ff`, and a frame as format answers
-- it. Assumes nothing.
use Rattle.lines.proofs.Answering.{no_length, cut_short_lem, frame_answered}
use Rattle.lines.proofs.answer_frame.Goals as goal

pub returns-in_default : goal.returns-in_default
returns-in_default c = no_length c.args.frame.now c.in_default.len_below c.refuse.ensures

pub returns-then-frame-end : goal.returns-then-frame-end
returns-then-frame-end c =
    cut_short_lem c.args.frame.now c.from.ensures c.from-2.ensures c.in-len2-up.len_at_least c.if-frame-end.true
    c.refuse-then-frame-end.ensures

pub returns : goal.returns
returns c =
    frame_answered c.args.frame.now c.from.ensures c.from-2.ensures c.in-len2-up.len_at_least
    c.if-frame-end.false c.format_text-o.ensures c.requires.text_len c.write_answer.ensures
