-- A jump is taken or refused. Assumes nothing.
use borrow.Author.Tests.{le-leb, lt-leb}
use Rattle.actions.proofs.ActLaws.{performed_refused, performed_on}
use Rattle.actions.proofs.acting.jump_to.Goals as goal

pub returns-then-k-count : goal.returns-then-k-count
returns-then-k-count c = λ value b l. performed_on _ _ c.go_on.ensures (λ on. rw (le-leb _ _ c.if-k-count.true)) l c.if-k-count.true

pub returns : goal.returns
returns c = λ value b l. performed_refused _ _ _ c.refuse.ensures (λ on. rw (lt-leb _ _ c.if-k-count.false)) l c.requires
