-- A jump acts as 01 has it. Assumes nothing.
use Rattle.rules.specs.declared.refusal.Refusal.TheVariants.{BadParameter}
use native.Mathlib.Omega.{arith}
use Rattle.parameters.proofs.WorkLaws.{hand_small}
use Rattle.parameters.proofs.Ranges.{jump_in_range}
use Rattle.parameters.proofs.Answers.{next_reaches, run_settled, run_refused}
use Rattle.actions.proofs.Sources.{numbered}
use Rattle.actions.proofs.ActLaws.{performed_as, performed_refused, acts_jump, settings_ill}
use Rattle.parameters.specs.Settling.{hand_at}
use Rattle.rules.specs.Table.{view_of}
use Rattle.rules.specs.Working.{argument_in}
use mathlib.Core.Path.{◌∙◌, sym}
use Rattle.actions.proofs.acting.act_jump.Goals as goal

pub jump-requires-clause-jump_set : goal.jump-requires-clause-jump_set
jump-requires-clause-jump_set c =
    let well = sym c.is_well_written.ensures ∙ c.if-not-is_well_written.false in
    numbered (c.in-Ok.field-0.settings.first) (jump_in_range c.settle_directive.ensures well c.in-Ok.is c.requires.code_value)

pub jump-requires-clause-i_le_count : goal.jump-requires-clause-i_le_count
jump-requires-clause-i_le_count c =
    let a = c.args in
    let well = sym c.is_well_written.ensures ∙ c.if-not-is_well_written.false in
    (next_reaches c.settle_directive.ensures c.in-Ok.is, omega (arith, hand_small c.requires.in_hand))

pub returns-in-Ok : goal.returns-in-Ok
returns-in-Ok c =
    let a = c.args in
    let v = view_of a.table.now in
    let well = sym c.is_well_written.ensures ∙ c.if-not-is_well_written.false in
    λ b l. performed_as _
    (λ on. acts_jump v a.spot.position a.spot.left a.d (hand_at a.hand a.next.0) on c.requires.code_value
    ∙ run_settled c.settle_directive.ensures well a.spot.position a.spot.left _ c.in-Ok.is)
    (c.jump.ensures (λ i. argument_in v (hand_at a.hand a.next.0) i) b l)

pub returns-in-Err : goal.returns-in-Err
returns-in-Err c =
    let a = c.args in
    let v = view_of a.table.now in
    let well = sym c.is_well_written.ensures ∙ c.if-not-is_well_written.false in
    λ b l. performed_refused _ _ a.next.0 c.refuse-in-Err.ensures
    (λ on. acts_jump v a.spot.position a.spot.left a.d (hand_at a.hand a.next.0) on c.requires.code_value
    ∙ run_refused c.settle_directive.ensures well a.spot.position a.spot.left _ c.in-Err.is)
    l c.requires.next_le_count

pub returns-then-not-is_well_written : goal.returns-then-not-is_well_written
returns-then-not-is_well_written c =
    let a = c.args in
    let v = view_of a.table.now in
    let ill = sym c.is_well_written.ensures ∙ c.if-not-is_well_written.true in
    λ b l. performed_refused _ BadParameter a.next.0 c.refuse.ensures
    (λ on. acts_jump v a.spot.position a.spot.left a.d (hand_at a.hand a.next.0) on c.requires.code_value
    ∙ settings_ill v a.spot.position a.spot.left a.d (hand_at a.hand a.next.0) _ ill)
    l c.requires.next_le_count
