-- `mark_text` meets its contract: block by block, over the whole text. The measure is what is left of it. Assumes nothing.
use Rattle.std.proofs.Common.{◌-◌, ◌≤◌, length}
use Rattle.blocks.specs.Landmarks.{Marks}
use Rattle.blocks.proofs.landmarks.mark_text.Given as goal

abbrev pub invariant-loop-q : goal.invariant-loop-q
invariant-loop-q l = Marks l.text l.initial.marks l.marks × (l.p ≤ length l.text)

abbrev pub decreases-loop-q : goal.decreases-loop-q
decreases-loop-q l = length l.text - l.p
