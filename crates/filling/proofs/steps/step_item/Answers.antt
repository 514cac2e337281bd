-- An item: the end of its sequence, a literal byte or a directive. Assumes nothing.
use mathlib.Core.Path.{◌≡◌, refl, sym, subst, ◌∙◌}
use mathlib.Core.Bool.{false}
use native.Mathlib.Omega.{arith}
use Rattle.rules.specs.declared.Item.{Item}
use Rattle.rules.proofs.TextLaws.{stands}
use Rattle.blocks.specs.Parts.{ends_at}
use Rattle.running.proofs.Places.{literal_at, literal_ahead}
use Rattle.nesting.specs.Moves.{comes, weight}
use Rattle.filling.proofs.StepLaws.{advances_moved}
use Rattle.filling.proofs.PutLaws.{puts_step}
use Rattle.blocks.proofs.EndLaws.{no_other}
use borrow.Enum.Refused.{opened}
use Rattle.filling.proofs.steps.step_item.Goals as goal

pub end_sequence-requires-clause-sound : goal.end_sequence-requires-clause-sound
end_sequence-requires-clause-sound c = c.requires.standing.sound

pub end_sequence-requires-clause-place_value : goal.end_sequence-requires-clause-place_value
end_sequence-requires-clause-place_value c = c.element_at-item.ensures.ends (sym c.ends_here.ensures ∙ c.if-ends_here.true)

pub returns-then-ends_here : goal.returns-then-ends_here
returns-then-ends_here c =
    let a = c.args in
    advances_moved a.inputs.text.now a.inputs.table.now (comes a.inputs.text.now a.inputs.table.now a.progress.here a.nest) a.progress.given a.progress.here.left (weight a.progress.here a.nest) a.progress.at a.window.now c.moved_step.ensures c.end_sequence.ensures c.requires.standing.room

pub give_byte-requires-clause-at_in_bounds : goal.give_byte-requires-clause-at_in_bounds
give_byte-requires-clause-at_in_bounds c = c.requires.standing.room

pub give_byte-requires-clause-place_bound : goal.give_byte-requires-clause-place_bound
give_byte-requires-clause-place_bound c =
    let a = c.args in
    let e = c.element_at-item.ensures.is (sym c.ends_here.ensures ∙ c.if-ends_here.false) ∙ c.in-Literal.is in
    omega (arith, stands a.inputs.text.now a.progress.here.place _ e, c.requires.standing.sound.short)

pub step_directive-requires-clause-place_value : goal.step_directive-requires-clause-place_value
step_directive-requires-clause-place_value c =
    let f = sym c.ends_here.ensures ∙ c.if-ends_here.false in
    let q = c.in-Written.is in
    c.element_at-item.ensures.is f ∙ q

pub step_directive-requires-clause-code_value : goal.step_directive-requires-clause-code_value
step_directive-requires-clause-code_value c =
    let f = sym c.ends_here.ensures ∙ c.if-ends_here.false in
    let q = c.in-Written.is in
    subst (λ (x : Item). ends_at x ≡ false) q f

pub returns-in-Literal : goal.returns-in-Literal
returns-in-Literal c =
    let a = c.args in
    let e = c.element_at-item.ensures.is (sym c.ends_here.ensures ∙ c.if-ends_here.false) ∙ c.in-Literal.is in
    puts_step (c.give_byte.ensures a.inputs.text.now a.inputs.table.now) refl c.requires.standing.sound (literal_at a.inputs.text.now a.progress.here.place _ e) (literal_ahead a.inputs.text.now a.progress.here.place _ e).most

pub returns-in-Written : goal.returns-in-Written
returns-in-Written c = c.step_directive.ensures

pub returns-in_default : goal.returns-in_default
returns-in_default c = absurd (no_other _ c.element_at-item.result refl (sym c.ends_here.ensures ∙ c.if-ends_here.false) (opened c.in_default.in_default-own.keys3))
