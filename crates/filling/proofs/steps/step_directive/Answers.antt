-- A directive, by its code: a block, a form, a jump or an escape. Assumes nothing.
use mathlib.Core.Path.{refl, subst}
use Rattle.rules.specs.Directive.{CodeRight}
use Rattle.rules.proofs.Bases.{code_right}
use Rattle.rules.proofs.TextLaws.{next_inside}
use Rattle.running.proofs.Places.{writes_at, jump_at}
use Rattle.nesting.specs.Moves.{comes, weight}
use Rattle.nesting.proofs.MoveLaws.{hand_in, next_in}
use Rattle.filling.proofs.StepLaws.{advances_moved}
use Rattle.filling.proofs.PutLaws.{puts_step, escape_code}
use borrow.Enum.Refused.{opened}
use Rattle.filling.proofs.steps.step_directive.Goals as goal

pub open_block-requires-clause-sound : goal.open_block-requires-clause-sound
open_block-requires-clause-sound c = c.requires.standing.sound

pub returns-in-Opens : goal.returns-in-Opens
returns-in-Opens c =
    let a = c.args in
    advances_moved a.inputs.text.now a.inputs.table.now (comes a.inputs.text.now a.inputs.table.now a.progress.here a.nest) a.progress.given a.progress.here.left (weight a.progress.here a.nest) a.progress.at a.window.now c.moved_step.ensures c.open_block.ensures c.requires.standing.room

pub give_form-requires-clause-code_value : goal.give_form-requires-clause-code_value
give_form-requires-clause-code_value c =
    let q = c.in-Writes.is in
    q

pub give_form-requires-clause-form_right : goal.give_form-requires-clause-form_right
give_form-requires-clause-form_right c =
    let a = c.args in
    let q = c.in-Writes.is in
    subst CodeRight q (code_right a.inputs.text.now a.progress.here.place a.d c.requires.place_value)

pub give_form-requires-clause-in_hand : goal.give_form-requires-clause-in_hand
give_form-requires-clause-in_hand c =
    let a = c.args in
    (hand_in a.inputs.table.now a.progress.here.hand a.progress.here.next.0 c.requires.standing.accepted c.requires.standing.sound.hand)

pub give_form-requires-clause-next_le_count : goal.give_form-requires-clause-next_le_count
give_form-requires-clause-next_le_count c =
    let a = c.args in
    (next_in a.inputs.table.now a.progress.here.hand a.progress.here.next.0 c.requires.standing.sound.hand)

pub give_form-requires-clause-at_in_bounds : goal.give_form-requires-clause-at_in_bounds
give_form-requires-clause-at_in_bounds c = c.requires.standing.room

pub jump-requires-clause-code_value : goal.jump-requires-clause-code_value
jump-requires-clause-code_value c = c.in-Jump.is

pub jump-requires-clause-in_hand : goal.jump-requires-clause-in_hand
jump-requires-clause-in_hand c =
    let a = c.args in
    (hand_in a.inputs.table.now a.progress.here.hand a.progress.here.next.0 c.requires.standing.accepted c.requires.standing.sound.hand)

pub jump-requires-clause-next_le_count : goal.jump-requires-clause-next_le_count
jump-requires-clause-next_le_count c =
    let a = c.args in
    (next_in a.inputs.table.now a.progress.here.hand a.progress.here.next.0 c.requires.standing.sound.hand)

pub escape-requires-clause-sound : goal.escape-requires-clause-sound
escape-requires-clause-sound c = c.requires.standing.sound

pub escape-requires-clause-code_value : goal.escape-requires-clause-code_value
escape-requires-clause-code_value c =
    let a = c.args in
    escape_code _ a.d.code refl c.requires.code_value (opened c.in_default.in_default-own.keys4)

pub returns-in-Writes : goal.returns-in-Writes
returns-in-Writes c =
    let a = c.args in
    puts_step (c.give_form.ensures a.inputs.text.now) refl c.requires.standing.sound (writes_at a.inputs.text.now a.progress.here.place a.d c.requires.place_value _ c.in-Writes.is) (next_inside a.inputs.text.now a.progress.here.place a.d c.requires.place_value).most

pub returns-in-Jump : goal.returns-in-Jump
returns-in-Jump c =
    let a = c.args in
    puts_step (c.jump.ensures a.inputs.text.now a.window.now c.requires.standing.room) refl c.requires.standing.sound (jump_at a.inputs.text.now a.progress.here.place a.d c.requires.place_value c.in-Jump.is) (next_inside a.inputs.text.now a.progress.here.place a.d c.requires.place_value).most

pub returns-in_default : goal.returns-in_default
returns-in_default c =
    let a = c.args in
    advances_moved a.inputs.text.now a.inputs.table.now (comes a.inputs.text.now a.inputs.table.now a.progress.here a.nest) a.progress.given a.progress.here.left (weight a.progress.here a.nest) a.progress.at a.window.now c.moved_step-in_default.ensures c.escape.ensures c.requires.standing.room
