-- `mark_block` meets its contract: one clause after another is met, and laid or not. Assumes nothing.
use Rattle.blocks.proofs.LandmarkLaws.{marking_next}
use Rattle.blocks.proofs.landmarks.mark_block.Goals as goal

pub loop-after-preserved-then-is_far : goal.loop-after-preserved-then-is_far
loop-after-preserved-then-is_far c = marking_next c.loop-after.invariant (rw c.from.ensures at c.in-Another.ensures) c.lay_far-k.ensures

pub loop-after-preserved : goal.loop-after-preserved
loop-after-preserved c = marking_next c.loop-after.invariant (rw c.from.ensures at c.in-Another.ensures) c.lay_far-k.ensures
