-- `chunks::answer_last` meets its contract: no line, or one. Assumes nothing.
use borrow.Author.Rules.{rules}
use borrow.Author.Tests.{tests}
use Rattle.chunks.proofs.Buffers.{last_none, last_one}
use Rattle.chunks.proofs.answer_last.Goals as goal

pub returns-then-is_empty-clause-answered : goal.returns-then-is_empty-clause-answered
returns-then-is_empty-clause-answered c = last_none c.args.line.now (search (rules, tests))

pub returns-clause-answered : goal.returns-clause-answered
returns-clause-answered c = rw (last_one c.args.line.now (search (rules, tests))) c.add_answer.ensures.answered
