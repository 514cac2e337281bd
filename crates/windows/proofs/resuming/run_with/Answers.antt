-- An array in which no landmark is laid will do, and the answer after the steps means what they left. Assumes nothing.
use Rattle.blocks.proofs.LandmarkLaws.{none_laid_in}
use Rattle.windows.proofs.ResumeLaws.{filled}
use Rattle.windows.proofs.resuming.run_with.Goals as goal

pub fill_window-requires-clause-landmarks : goal.fill_window-requires-clause-landmarks
fill_window-requires-clause-landmarks g c = none_laid_in c.args.format.now _

pub returns : goal.returns
returns g c = let a = c.args in filled a.format.now a.table.now c.requires.standing.accepted c.fill_window.ensures.fills c.fill_window.ensures.stops c.resumed_at.ensures
