-- `lines::Scratch::answer_with` meets its contract: a line too long or with other digits answers `ff`, another as its
-- bytes do. Assumes nothing.
use lib.ListN.{take-append-drop}
use Rattle.lines.proofs.Answering.{too_long, not_digits, line_answered}
use Rattle.lines.proofs.Scratch.answer_with.Goals as goal

pub returns-then-line-gt65535-clause-answered : goal.returns-then-line-gt65535-clause-answered
returns-then-line-gt65535-clause-answered c = too_long c.args.line.now c.if-line-gt65535.true c.refuse.ensures

pub returns-in-Some-clause-answered : goal.returns-in-Some-clause-answered
returns-in-Some-clause-answered c =
    rw (take-append-drop c.in-Some.count c.decode.new.frame)
    (line_answered c.args.line.now c.if-line-gt65535.false c.decode.ensures c.in-Some.is c.answer_frame.ensures)

pub returns-in-None-clause-answered : goal.returns-in-None-clause-answered
returns-in-None-clause-answered c =
    not_digits c.args.line.now c.if-line-gt65535.false c.decode.ensures c.in-None.is c.refuse-in-None.ensures
