-- `making::words::run_body` meets its contract: a run is a body. Assumes nothing.
use Rattle.making.proofs.Made.{made_run}
use Rattle.making.proofs.words.run_body.Goals as goal

pub returns : goal.returns
returns c = λ t. made_run t _ _ _ c.requires
