-- `making::words::flag_body` meets its contract: each truth value has its word. Assumes nothing.
use Rattle.making.proofs.words.flag_body.Goals as goal

pub returns-then-flag : goal.returns-then-flag
returns-then-flag c = λ t. rw c.if-flag.true (c.word_body.ensures t)

pub returns-else-flag : goal.returns-else-flag
returns-else-flag c = λ t. rw c.if-flag.false (c.word_body-else-flag.ensures t)
