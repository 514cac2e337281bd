-- An iteration is opened over its entries, or refused. Assumes nothing.
use native.Mathlib.Omega.{arith}
use Rattle.parameters.proofs.WorkLaws.{hand_small}
use Rattle.nesting.proofs.OpenLaws.{ready_hand, loop_fits, iteration_wrong, iteration_on}
use Rattle.nesting.proofs.moves.open_iteration.Goals as goal

pub go_over-requires-clause-in_hand : goal.go_over-requires-clause-in_hand
go_over-requires-clause-in_hand c = let a = c.args in ready_hand a.inputs.text.now a.inputs.table.now a.here a.nest a.d c.requires.ready

pub next_after-requires : goal.next_after-requires
next_after-requires c = let a = c.args in omega (arith, c.requires.next_le_count, hand_small (ready_hand a.inputs.text.now a.inputs.table.now a.here a.nest a.d c.requires.ready))

pub pushed-requires-clause-depth_bound : goal.pushed-requires-clause-depth_bound
pushed-requires-clause-depth_bound c = c.requires.ready.level

pub pushed-requires-clause-fits : goal.pushed-requires-clause-fits
pushed-requires-clause-fits c =
    let a = c.args in
    loop_fits a.inputs.text.now a.inputs.table.now a.here a.nest a.d c.requires.ready a.settled.settings a.settled.next c.requires.next_le_count c.in-Ok.ensures c.iteration_kind.ensures c.next_after.ensures c.requires.fits_passes

pub returns-in-Err : goal.returns-in-Err
returns-in-Err c =
    let a = c.args in
    λ j. iteration_wrong a.inputs.text.now a.inputs.table.now a.here a.nest a.d c.requires.ready a.settled.settings a.settled.next c.requires.next_le_count j c.in-Err.ensures c.refused.ensures

pub returns-in-Ok : goal.returns-in-Ok
returns-in-Ok c =
    let a = c.args in
    λ j. iteration_on a.inputs.text.now a.inputs.table.now a.here a.nest a.d c.requires.ready a.settled.settings a.settled.next c.requires.next_le_count c.in-Ok.ensures c.iteration_kind.ensures c.next_after.ensures j c.pushed.ensures.pushes c.on.ensures
