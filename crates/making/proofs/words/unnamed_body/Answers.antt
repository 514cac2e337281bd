-- `making::words::unnamed_body` meets its contract: the hex form below 32, and else the byte. Assumes nothing.
use borrow.Author.Tests.{lt-ltb, le-ltb}
use Rattle.making.proofs.words.unnamed_body.Goals as goal

pub returns-then-code-lt32 : goal.returns-then-code-lt32
returns-then-code-lt32 c = λ t. rw (lt-ltb _ _ c.if-code-lt32.true) (c.hex_body.ensures t)

pub returns-else-code-lt32 : goal.returns-else-code-lt32
returns-else-code-lt32 c = λ t. rw (le-ltb _ _ c.if-code-lt32.false) (c.word_body.ensures t)
