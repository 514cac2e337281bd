-- `numbers::is_split` meets its contract: its test is the definition's. Assumes nothing.
use borrow.Author.Tests.{eq-eqb, ne_eqb}
use Rattle.rules.specs.Number.{splits}
use Rattle.numbers.proofs.is_split.Goals as goal

pub returns-then-left-ne0 : goal.returns-then-left-ne0
unfolding splits
returns-then-left-ne0 c = rw (ne_eqb _ _ c.if-left-ne0.true)

pub returns-else-left-ne0 : goal.returns-else-left-ne0
unfolding splits
returns-else-left-ne0 c = rw (eq-eqb _ _ c.if-left-ne0.false)
