-- Short directives run ahead, unless bytes are given already. Assumes nothing.
use mathlib.Core.Path.{refl}
use native.Mathlib.Omega.{arith}
use Rattle.filling.proofs.AheadLaws.{unheld_ahead, none_ahead}
use Rattle.filling.proofs.steps.run_ahead.Goals as goal

pub run_short-requires-clause-stands : goal.run_short-requires-clause-stands
run_short-requires-clause-stands c = record { held = c.requires.in_hand; reaches = c.requires.next_le_count; written = c.requires.at_in_bounds }

pub unhold-requires : goal.unhold-requires
unhold-requires c = omega (arith, (c.run_short.ensures.strides 0).does.falls, c.requires.left_bound)

pub returns-then-given-eq0 : goal.returns-then-given-eq0
returns-then-given-eq0 c =
    let a = c.args in
    unheld_ahead a.text.now a.table.now a.progress.here a.progress.given a.progress.at a.window.now _ c.run_short.result c.if-given-eq0.true c.run_short.ensures.strides c.run_short.ensures.held c.run_short.ensures.stays c.unhold.ensures

pub returns : goal.returns
returns c =
    let a = c.args in
    none_ahead a.text.now a.table.now a.progress.here a.progress.given a.progress.at a.window.now _ c.if-given-eq0.false c.requires.place_in_bounds c.requires.at_in_bounds c.requires.next_le_count refl refl
