-- `settle_directive` meets its contract: the places are those of its row, and without parameters any will do. Assumes
-- nothing.
use Rattle.parameters.proofs.settling.settle_directive.Goals as goal

pub returns-then-is_bare : goal.returns-then-is_bare
returns-then-is_bare c = record { in_places = rw (c.is_bare.ensures c.if-is_bare.true) (c.settle_none.ensures.is _ _ _ c.requires.next_le_count) }

pub returns : goal.returns
returns c = record { in_places = rw c.row_in.ensures at c.settle.ensures }
