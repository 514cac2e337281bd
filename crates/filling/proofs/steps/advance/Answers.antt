-- What runs ahead, and then one item. Assumes nothing.
use mathlib.Core.Path.{refl, ap}
use Rattle.nesting.proofs.MoveLaws.{hand_in, next_in}
use Rattle.filling.specs.Filling.{step_of}
use Rattle.filling.proofs.AheadLaws.{ahead_standing, ahead_refused, ahead_item}
use Rattle.filling.proofs.PutLaws.{ended_stop}
use borrow.Enum.Refused.{opened}
use Rattle.filling.proofs.steps.advance.Goals as goal

pub run_ahead-r-requires-clause-in_hand : goal.run_ahead-r-requires-clause-in_hand
run_ahead-r-requires-clause-in_hand c =
    let a = c.args in
    (hand_in a.inputs.table.now a.progress.here.hand a.progress.here.next.0 c.requires.standing.accepted c.requires.standing.sound.hand)

pub run_ahead-r-requires-clause-next_le_count : goal.run_ahead-r-requires-clause-next_le_count
run_ahead-r-requires-clause-next_le_count c =
    let a = c.args in
    (next_in a.inputs.table.now a.progress.here.hand a.progress.here.next.0 c.requires.standing.sound.hand)

pub run_ahead-r-requires-clause-place_in_bounds : goal.run_ahead-r-requires-clause-place_in_bounds
run_ahead-r-requires-clause-place_in_bounds c = c.requires.standing.sound.place

pub run_ahead-r-requires-clause-left_bound : goal.run_ahead-r-requires-clause-left_bound
run_ahead-r-requires-clause-left_bound c = c.requires.standing.sound.left

pub run_ahead-r-requires-clause-at_in_bounds : goal.run_ahead-r-requires-clause-at_in_bounds
run_ahead-r-requires-clause-at_in_bounds c = c.requires.standing.room

pub step_item-requires-clause-standing : goal.step_item-requires-clause-standing
step_item-requires-clause-standing c =
    let a = c.args in
    ahead_standing a.inputs.text.now a.inputs.table.now a.progress.here a.nest a.progress.given a.progress.at a.window.now _ c.run_ahead-r.result c.requires.standing c.run_ahead-r.ensures (ended_stop _ c.run_ahead-r.result.stop refl c.run_ahead-r.ensures.stays (opened c.in_default.in_default-own.keys2))

pub returns-in-Refused : goal.returns-in-Refused
returns-in-Refused c =
    let a = c.args in
    ahead_refused a.inputs.text.now a.inputs.table.now a.progress.here a.nest a.progress.given a.progress.at a.window.now _ c.run_ahead-r.result c.requires.standing c.run_ahead-r.ensures c.in-Refused.is (ap (step_of a.nest) c.over.ensures)

pub returns-in_default : goal.returns-in_default
returns-in_default c =
    let a = c.args in
    ahead_item a.inputs.text.now a.inputs.table.now a.progress.here a.nest a.progress.given a.progress.at a.window.now _ c.run_ahead-r.result c.requires.standing c.run_ahead-r.ensures (ended_stop _ c.run_ahead-r.result.stop refl c.run_ahead-r.ensures.stays (opened c.in_default.in_default-own.keys2)) c.step_item.ensures
