-- A long text is run by the landmarks that are laid in it. Assumes nothing.
use Rattle.blocks.proofs.LandmarkLaws.{none_laid_in}
use Rattle.engine.proofs.formatting.run_long.Goals as goal

pub mark_text-requires : goal.mark_text-requires
mark_text-requires c = none_laid_in c.args.format.now 410

pub run_by-requires-clause-landmarks : goal.run_by-requires-clause-landmarks
run_by-requires-clause-landmarks c = c.mark_text.ensures.sound
