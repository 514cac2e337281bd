-- `seek_clause` meets its contract: a clause is wanted, or it is the last, or the next one is looked at. Assumes nothing.
use Rattle.std.proofs.Common.{sym}
use Rattle.blocks.proofs.ClauseLaws.{seek_less, seek_here, seek_last, seek_on}
use Rattle.blocks.proofs.clauses.seek_clause.Goals as goal

pub returns-then-eq : goal.returns-then-eq
returns-then-eq c = λ i w s. seek_here (c.loop-left.invariant.1 i w s) (sym c.if-eq.ensures)

pub returns-in-Last : goal.returns-in-Last
returns-in-Last c = λ i w s. seek_last (c.loop-left.invariant.1 i w s) (sym c.if-eq.ensures) c.in-Last.ensures.more c.fall_back.ensures

pub loop-left-smaller : goal.loop-left-smaller
loop-left-smaller c = seek_less c.in-Another.ensures

pub loop-left-preserved : goal.loop-left-preserved
loop-left-preserved c = (c.in-Another.ensures.most, λ i w s. seek_on (c.loop-left.invariant.1 i w s) (sym c.if-eq.ensures) c.in-Another.ensures c.counted_from-left.ensures)
