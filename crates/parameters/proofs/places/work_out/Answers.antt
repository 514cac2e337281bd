-- `work_out` meets its contract: `#` counts the arguments that remain. Assumes nothing.
use Rattle.parameters.proofs.WorkLaws.{work_count}
use Rattle.parameters.proofs.places.work_out.Goals as goal

pub returns-in-Remaining : goal.returns-in-Remaining
returns-in-Remaining c = work_count c.requires.next_le_count c.in-Remaining.is c.work_remaining.ensures
