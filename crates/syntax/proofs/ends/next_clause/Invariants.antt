-- `next_clause` meets its contract. The invariant: the clauses that follow, and what is open outside, are those of the
-- start, below the blocks that began since. The measure is what is left of the text. Assumes nothing.
use lib.ListN.{length}
use Prim.Native.Nat.{◌-◌}
use Rattle.syntax.proofs.EndLaws.{InClause}
use Rattle.syntax.proofs.ends.next_clause.Given as goal

abbrev pub invariant-loop-q : goal.invariant-loop-q
invariant-loop-q l = InClause l.text l.start l.depth l.p

abbrev pub decreases-loop-q : goal.decreases-loop-q
decreases-loop-q l = length l.text - l.p
