-- `numbers::grouped_size` meets its contract: it computes the law of the length. Assumes nothing.
use mathlib.Core.Path.{sym}
use Rattle.rules.proofs.Groups.{grouped_size_lem}
use Rattle.numbers.proofs.grouped_size.Goals as goal

pub returns-clause-size : goal.returns-clause-size
returns-clause-size c = λ comma digits e. rw (← e) (sym (grouped_size_lem c.args.width comma digits c.requires.le_width.0))
