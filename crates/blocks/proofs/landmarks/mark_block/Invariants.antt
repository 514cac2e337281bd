-- `mark_block` meets its contract, clause by clause. The measure is what is left of the text. Assumes nothing.
use Rattle.std.proofs.Common.{◌-◌, length}
use Rattle.blocks.proofs.LandmarkLaws.{Marking}
use Rattle.blocks.proofs.landmarks.mark_block.Given as goal

abbrev pub invariant-loop-after : goal.invariant-loop-after
invariant-loop-after l = Marking l.text l.initial.marks l.marks l.l

abbrev pub decreases-loop-after : goal.decreases-loop-after
decreases-loop-after l = length l.text - l.l.place
