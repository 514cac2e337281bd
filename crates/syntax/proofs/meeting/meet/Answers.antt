-- `meet` meets its contract: by the mark, or the item, at the place. Assumes nothing.
use mathlib.Core.Path.{sym, ap, ◌∙◌}
use native.Mathlib.Omega.{arith}
use Rattle.rules.proofs.TextLaws.{stands}
use Rattle.rules.specs.declared.Item.TheVariants.{Written}
use Prim.Native.Nat.{ℕ}
use Rattle.syntax.proofs.CheckLaws.{mark_met}
use Rattle.reader.proofs.MarkLaws.{mark_is}
use Rattle.syntax.specs.Checks.{met_mark}
use Rattle.syntax.proofs.meeting.meet.Goals as goal

pub after_mark-requires : goal.after_mark-requires
after_mark-requires c =
    let a = c.args in
    let i = mark_is a.text.now a.p _ (sym c.in-Some.is ∙ c.mark_at.ensures) in
    omega (arith, stands a.text.now a.p (Written _) i.item, c.well_formed)

pub returns-in-Some : goal.returns-in-Some
returns-in-Some c =
    let a = c.args in
    let m = c.in-Some.mark in
    c.meet_mark.ensures ∙ ap (λ (x : ℕ). met_mark a.p x m a.s) c.after_mark.ensures
    ∙ mark_met a.text.now a.p m a.s (mark_is a.text.now a.p m (sym c.in-Some.is ∙ c.mark_at.ensures))
