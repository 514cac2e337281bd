-- `settle` meets its contract: one after the other, or all at once. Assumes nothing.
use mathlib.Core.Path.{sym, ◌∙◌}
use Rattle.parameters.proofs.settling.settle.Goals as goal

pub settle_written-requires : goal.settle_written-requires
settle_written-requires c = sym c.all_written.ensures ∙ c.if-all_written.true

pub returns-then-all_written : goal.returns-then-all_written
returns-then-all_written c = c.settle_written.ensures.is _ _ _ c.requires.next_le_count
