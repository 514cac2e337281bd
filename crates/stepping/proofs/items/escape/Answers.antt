-- The test of an escape. Assumes nothing.
use borrow.Author.Tests.{le-leb, lt-leb}
use Rattle.stepping.proofs.items.escape.Goals as goal

pub returns-then-hand-next : goal.returns-then-hand-next
returns-then-hand-next c = rw (le-leb _ _ c.if-hand-next.true)

pub returns : goal.returns
returns c = rw (lt-leb _ _ c.if-hand-next.false) c.go_on.ensures
