-- The count meets its contracts. The text that is left falls at each call and in each turn of a loop. The loops: whatever
-- comes from here is what comes from the start. Assumes nothing.
use lib.ListN.{length}
use Rattle.vet.proofs.Sequences.{Walking}
use Rattle.vet.proofs.ClauseWays.{Gathering}
use Prim.Native.Nat.{◌+◌, ◌-◌, ◌*◌}
use Rattle.vet.proofs.counting.+counts.Given as goal

abbrev pub decreases-count_block : goal.decreases-count_block
decreases-count_block l = 4 * (length l.format.now - l.d.after) + 4

abbrev pub decreases-count_clauses : goal.decreases-count_clauses
decreases-count_clauses l = 4 * (length l.format.now - l.d.after) + 3

abbrev pub invariant-count_clauses-loop-counted : goal.invariant-count_clauses-loop-counted
invariant-count_clauses-loop-counted l = Gathering l.format l.question.kinds.now l.question.longest l.d l.start.0 l.z l.fallback l.ends

abbrev pub decreases-count_clauses-loop-counted : goal.decreases-count_clauses-loop-counted
decreases-count_clauses-loop-counted l = length l.format - l.z

abbrev pub decreases-count_element : goal.decreases-count_element
decreases-count_element l = 4 * (length l.format.now - l.p) + 1

abbrev pub decreases-count_sequence : goal.decreases-count_sequence
decreases-count_sequence l = 4 * (length l.format.now - l.start) + 2

abbrev pub invariant-count_sequence-loop-reach : goal.invariant-count_sequence-loop-reach
invariant-count_sequence-loop-reach l = Walking l.format l.question.kinds.now l.question.longest l.start l.initial.next.0 l.p l.next.0 l.sum

abbrev pub decreases-count_sequence-loop-reach : goal.decreases-count_sequence-loop-reach
decreases-count_sequence-loop-reach l = length l.format - l.p
