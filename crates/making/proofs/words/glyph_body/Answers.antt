-- `making::words::glyph_body` meets its contract: the written form with @, the caret form with `:` below 32, and else
-- the byte. Assumes nothing.
use borrow.Author.Tests.{lt-ltb, le-ltb}
use Rattle.making.proofs.words.glyph_body.Goals as goal
use Rattle.making.proofs.words.glyph_body.Goals.{else-colon-via-then-colon+else-code-lt32, else-colon-via-else-colon}

pub returns-then-atsign : goal.returns-then-atsign
returns-then-atsign c = λ t. rw c.if-atsign.true (c.written_body.ensures t)

pub returns-then-code-lt32 : goal.returns-then-code-lt32
returns-then-code-lt32 c =
    λ t. rw (c.if-atsign.false, c.if-colon.true, lt-ltb _ _ c.if-code-lt32.true) (c.word_body.ensures t)

pub returns-else-colon : goal.returns-else-colon
returns-else-colon c =
    λ t. elim c.else-colon.branch [
      | else-colon-via-then-colon+else-code-lt32 w ↦
          rw (c.if-atsign.false, w.if-colon.true, le-ltb _ _ w.if-code-lt32.false) (c.run_body.ensures t)
      | else-colon-via-else-colon w ↦ rw (c.if-atsign.false, w.if-colon.false) (c.run_body.ensures t)
    ]
