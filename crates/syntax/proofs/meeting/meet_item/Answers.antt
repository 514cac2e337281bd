-- `meet_item` meets its contract: a literal byte stands in the text, and what is after it fits. Assumes nothing.
use mathlib.Core.Path.{sym}
use native.Mathlib.Omega.{arith}
use Rattle.rules.proofs.TextLaws.{stands}
use Rattle.rules.specs.declared.Item.TheVariants.{Literal}
use Rattle.syntax.proofs.meeting.meet_item.Goals as goal

pub overflow_add-result : goal.overflow_add-result
overflow_add-result c = omega (arith, stands c.args.text.now c.args.p (Literal _) (sym c.in-Literal.ensures), c.well_formed)
