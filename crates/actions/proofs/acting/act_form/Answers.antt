-- A form acts as 01 has it. Assumes nothing.
use Rattle.rules.specs.declared.refusal.Refusal.TheVariants.{BadParameter}
use Rattle.actions.proofs.ActLaws.{performed_as, performed_refused, acts_writes, settings_ill}
use Rattle.parameters.proofs.Ranges.{form_in_range}
use Rattle.parameters.proofs.Answers.{run_settled, run_refused}
use Rattle.actions.proofs.Sources.{worked_in}
use Rattle.parameters.specs.Settling.{hand_at}
use Rattle.rules.specs.Table.{view_of}
use mathlib.Core.Path.{refl, ◌∙◌, sym}
use Rattle.actions.proofs.acting.act_form.Goals as goal

pub write_form-requires-clause-well_set : goal.write_form-requires-clause-well_set
write_form-requires-clause-well_set c =
    let a = c.args in
    let well = sym c.is_well_written.ensures ∙ c.if-not-is_well_written.false in
    worked_in a.form _ c.requires.form_right (form_in_range c.settle_directive.ensures well c.in-Ok.is c.requires.code_value)

pub returns-in-Ok : goal.returns-in-Ok
returns-in-Ok c =
    let a = c.args in
    let v = view_of a.table.now in
    let well = sym c.is_well_written.ensures ∙ c.if-not-is_well_written.false in
    performed_as _
    (λ on. acts_writes v a.spot.position a.spot.left a.d (hand_at a.hand a.next.0) on a.form c.requires.code_value
    ∙ run_settled c.settle_directive.ensures well a.spot.position a.spot.left _ c.in-Ok.is)
    (c.write_form.ensures.writes a.d refl refl)

pub returns-in-Err : goal.returns-in-Err
returns-in-Err c =
    let a = c.args in
    let v = view_of a.table.now in
    let well = sym c.is_well_written.ensures ∙ c.if-not-is_well_written.false in
    performed_refused _ _ a.next.0 c.refuse-in-Err.ensures
    (λ on. acts_writes v a.spot.position a.spot.left a.d (hand_at a.hand a.next.0) on a.form c.requires.code_value
    ∙ run_refused c.settle_directive.ensures well a.spot.position a.spot.left _ c.in-Err.is)
    c.requires.at_in_bounds c.requires.next_le_count

pub returns-then-not-is_well_written : goal.returns-then-not-is_well_written
returns-then-not-is_well_written c =
    let a = c.args in
    let v = view_of a.table.now in
    let ill = sym c.is_well_written.ensures ∙ c.if-not-is_well_written.true in
    performed_refused _ BadParameter a.next.0 c.refuse.ensures
    (λ on. acts_writes v a.spot.position a.spot.left a.d (hand_at a.hand a.next.0) on a.form c.requires.code_value
    ∙ settings_ill v a.spot.position a.spot.left a.d (hand_at a.hand a.next.0) _ ill)
    c.requires.at_in_bounds c.requires.next_le_count
