-- A text that needs no landmarks is run by none. Assumes nothing.
use Rattle.blocks.proofs.LandmarkLaws.{none_laid}
use Rattle.engine.proofs.formatting.run_text.Goals as goal

pub run_by-requires-clause-landmarks : goal.run_by-requires-clause-landmarks
run_by-requires-clause-landmarks c = none_laid c.args.format.now
