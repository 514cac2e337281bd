-- Steps one after another, until one does not go on. Assumes nothing.
use mathlib.Core.Path.{refl, sym, ◌∙◌}
use borrow.Author.Tests.{not-true, not-false}
use Rattle.filling.proofs.AheadLaws.{is_on_lem}
use Rattle.filling.proofs.AheadLaws.{going_first, going_on}
use Rattle.filling.proofs.steps.fill_window.Goals as goal

pub loop-step-init : goal.loop-step-init
loop-step-init c =
    let a = c.args in
    (record { sound = c.requires.landmarks; size = refl }, going_first a.text.now a.table.now a.start.here a.blocks a.start.given a.start.at a.window.now c.requires.standing)

pub advance-step-requires-clause-landmarks : goal.advance-step-requires-clause-landmarks
advance-step-requires-clause-landmarks c =
    let i = c.loop-step.invariant in
    i.0.sound

pub advance-step-requires-clause-standing : goal.advance-step-requires-clause-standing
advance-step-requires-clause-standing c =
    let i = c.loop-step.invariant in
    i.1.standing

pub is_on-requires : goal.is_on-requires
is_on-requires c = tt

pub shape_of-marks-then-not-is_on : goal.shape_of-marks-then-not-is_on
shape_of-marks-then-not-is_on c = c.loop-step.invariant.0.size

pub shape_of-window-then-not-is_on : goal.shape_of-window-then-not-is_on
shape_of-window-then-not-is_on c = c.advance-step.ensures.written.size ∙ c.loop-step.invariant.1.size

pub returns-then-not-is_on-clause-fills : goal.returns-then-not-is_on-clause-fills
returns-then-not-is_on-clause-fills c = c.loop-step.invariant.1.ends _ c.advance-step.result c.advance-step.ensures

pub returns-then-not-is_on-clause-stops : goal.returns-then-not-is_on-clause-stops
returns-then-not-is_on-clause-stops c = sym c.is_on.ensures ∙ not-true _ c.if-not-is_on.true-raw

pub lay_in_time-turns-requires : goal.lay_in_time-turns-requires
lay_in_time-turns-requires c = c.loop-step.invariant.0.sound

pub loop-step-smaller : goal.loop-step-smaller
loop-step-smaller c =
    let k = is_on_lem _ (sym c.is_on.ensures ∙ not-false _ c.if-not-is_on.false-raw) in
    c.advance-step.ensures.falls k

pub loop-step-preserved : goal.loop-step-preserved
loop-step-preserved c =
    let m = c.lay_in_time-turns.ensures in
    let i = c.loop-step.invariant in
    (record { sound = m.sound; size = m.size ∙ i.0.size }, going_on c.loop-step.invariant.1 c.advance-step.ensures (sym c.is_on.ensures ∙ not-false _ c.if-not-is_on.false-raw))
