-- `shape_at` meets its contract, by the mark or the item at the place. Assumes nothing.
use Rattle.reader.proofs.MarkLaws.{mark_is}
use Rattle.rules.specs.declared.Item.TheVariants.{Literal, Written}
use mathlib.Core.Path.{sym, ap, ◌∙◌}
use Rattle.syntax.specs.Ends.{shape_of_code, shape_of}
use native.Mathlib.Omega.{arith}
use Rattle.reader.specs.Marks.{mark_code, mark_colon, mark_directive}
use Rattle.rules.proofs.TextLaws.{stands}
use Rattle.syntax.proofs.ends.shape_at.Goals as goal

pub after_mark-requires : goal.after_mark-requires
after_mark-requires c =
    let a = c.args in
    let i = mark_is a.text.now a.p _ (sym c.in-Some.is ∙ c.mark_at.ensures) in
    omega (arith, stands a.text.now a.p (Written _) i.item, c.well_formed)

pub returns-in-Some : goal.returns-in-Some
unfolding mark_directive
returns-in-Some c =
    let a = c.args in
    let i = mark_is a.text.now a.p _ (sym c.in-Some.is ∙ c.mark_at.ensures) in
    c.shape_of_mark.ensures
    ∙ ap (shape_of_code (mark_code c.in-Some.mark) (mark_colon c.in-Some.mark)) c.after_mark.ensures
    ∙ sym (ap (shape_of a.p) i.item)

pub overflow_add-result : goal.overflow_add-result
overflow_add-result c = omega (arith, stands c.args.text.now c.args.p (Literal _) (sym c.in-Literal.ensures), c.well_formed)
