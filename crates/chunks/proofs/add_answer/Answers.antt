-- `chunks::add_answer` meets its contract: the longest answer and its newline have room. Assumes nothing.
use native.Mathlib.Omega.{arith}
use Rattle.lines.proofs.Answering.{longest_answer}
use Rattle.chunks.proofs.Buffers.{line_added}
use Rattle.chunks.proofs.add_answer.Goals as goal

pub overflow_add-end : goal.overflow_add-end
overflow_add-end c = omega (arith, longest_answer c.args.line.now c.answer_with-count.ensures.answered.answer)

pub bounds-out-end : goal.bounds-out-end
bounds-out-end c = omega (arith, longest_answer c.args.line.now c.answer_with-count.ensures.answered.answer)

pub overflow_add-result : goal.overflow_add-result
overflow_add-result c = omega (arith, longest_answer c.args.line.now c.answer_with-count.ensures.answered.answer)

pub returns-clause-answered : goal.returns-clause-answered
returns-clause-answered c =
    line_added c.args.out.now c.args.filled
    (omega (arith, longest_answer c.args.line.now c.answer_with-count.ensures.answered.answer))
    c.answer_with-count.ensures.answered
