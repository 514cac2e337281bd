-- `numbers::write_grouped` meets its contract. What is written, with what the digits that are left give, is the whole.
-- Assumes nothing.
use lib.ListN.{length}
use Rattle.numbers.proofs.Grouping.{Grouping}
use Rattle.numbers.proofs.write_grouped.Given as goal

abbrev pub invariant-loop-i : goal.invariant-loop-i
invariant-loop-i l = Grouping l.width l.comma l.digits (length l.initial.out) l.out l.i l.to
