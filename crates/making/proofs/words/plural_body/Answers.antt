-- `making::words::plural_body` meets its contract: each case has its ending. Assumes nothing.
use Rattle.making.proofs.words.plural_body.Goals as goal

pub returns-in-true-true : goal.returns-in-true-true
returns-in-true-true c = λ t. rw (c.in-true-true.is-0, c.in-true-true.is-1) (c.run_body.ensures t)

pub returns-in-true-false : goal.returns-in-true-false
returns-in-true-false c = λ t. rw (c.in-true-false.is-0, c.in-true-false.is-1) (c.run_body-in-true-false.ensures t)

pub returns-in-false-true : goal.returns-in-false-true
returns-in-false-true c = λ t. rw (c.in-false-true.is-0, c.in-false-true.is-1) (c.word_body.ensures t)

pub returns-in-false-false : goal.returns-in-false-false
returns-in-false-false c = λ t. rw (c.in-false-false.is-0, c.in-false-false.is-1) (c.run_body-in-false-false.ensures t)
