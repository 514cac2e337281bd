-- `seek_clause` meets its contract. The invariant: what is wanted from the start is wanted from here. The measure is the
-- number of clauses that follow. Assumes nothing.
use Rattle.std.proofs.Common.{ℕ, ◌≤◌, length}
use Rattle.rules.specs.Text.{Sequence, innermost, levels_at}
use Rattle.blocks.specs.Clauses.{Seeking}
use Rattle.blocks.proofs.ClauseLaws.{clauses_in}
use Rattle.blocks.proofs.clauses.seek_clause.Given as goal

abbrev pub invariant-loop-left : goal.invariant-loop-left
invariant-loop-left l =
    (l.z ≤ length l.text)
    × ((inside : ℕ) (wanted : Sequence) → Seeking l.text inside wanted l.fn.sought l.start l.colon → Seeking l.text inside wanted l.left l.z l.marked)

abbrev pub decreases-loop-left : goal.decreases-loop-left
decreases-loop-left l = clauses_in (innermost (levels_at l.text l.z)).more
