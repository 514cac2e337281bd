-- An escape leaves block after block up to an iteration. Assumes nothing.
use Rattle.nesting.specs.Nest.{cut}
use Rattle.nesting.proofs.OpenLaws.{Leaving}
use Rattle.nesting.proofs.moves.leave.Given as goal

abbrev pub invariant-loop-i : goal.invariant-loop-i
invariant-loop-i l = Leaving l.inputs.text.now l.inputs.table.now l.here l.nest (cut l.nest l.i)
