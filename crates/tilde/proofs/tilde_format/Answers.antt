-- The exported format answers as the proved one. Assumes nothing.
use Rattle.tilde.proofs.tilde_format.Goals as goal

pub returns : goal.returns
returns c = c.format_text-outcome.ensures
