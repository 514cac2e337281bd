-- The parameters of a block, and then the block. Assumes nothing.
use mathlib.Core.Path.{sym, ◌∙◌}
use mathlib.Core.Bool.{true, false}
use borrow.Author.Tests.{not-true, not-false}
use Rattle.rules.proofs.Rowed.{written_suits}
use Rattle.parameters.proofs.SettleLaws.{all_supplied_lem}
use Rattle.nesting.proofs.OpenLaws.{ready_hand, ready_next, passes_fit, open_ill, open_unsettled, open_settled}
use Rattle.nesting.proofs.moves.open_begun.Goals as goal

pub returns-then-not-is_well_written : goal.returns-then-not-is_well_written
returns-then-not-is_well_written c = let a = c.args in open_ill a.inputs.text.now a.inputs.table.now a.here a.nest a.d c.requires.ready (sym c.is_well_written.ensures ∙ not-true _ c.if-not-is_well_written.true-raw) c.refused.ensures

pub settle_directive-requires-clause-all_supplied : goal.settle_directive-requires-clause-all_supplied
settle_directive-requires-clause-all_supplied c = let a = c.args in all_supplied_lem (ready_hand a.inputs.text.now a.inputs.table.now a.here a.nest a.d c.requires.ready)

pub settle_directive-requires-clause-next_le_count : goal.settle_directive-requires-clause-next_le_count
settle_directive-requires-clause-next_le_count c = let a = c.args in ready_next a.inputs.text.now a.inputs.table.now a.here a.nest a.d c.requires.ready

pub open_iteration-requires-clause-next_le_count : goal.open_iteration-requires-clause-next_le_count
open_iteration-requires-clause-next_le_count c = c.in-Ok.ensures.in_places.reaches

pub open_iteration-requires-clause-fits_passes : goal.open_iteration-requires-clause-fits_passes
open_iteration-requires-clause-fits_passes c =
    let a = c.args in
    passes_fit a.d _ (sym c.is_iteration.ensures ∙ c.if-is_iteration.true) (c.in-Ok.ensures.in_places.lies (written_suits a.d (sym c.is_well_written.ensures ∙ not-false _ c.if-not-is_well_written.false-raw)))

pub open_conditional-requires-clause-next_le_count : goal.open_conditional-requires-clause-next_le_count
open_conditional-requires-clause-next_le_count c = c.in-Ok.ensures.in_places.reaches

pub returns-in-Err : goal.returns-in-Err
returns-in-Err c = let a = c.args in open_unsettled a.inputs.text.now a.inputs.table.now a.here a.nest a.d c.requires.ready (sym c.is_well_written.ensures ∙ not-false _ c.if-not-is_well_written.false-raw) c.in-Err.ensures c.refused-in-Err.ensures

pub returns-then-is_iteration : goal.returns-then-is_iteration
returns-then-is_iteration c = let a = c.args in open_settled a.inputs.text.now a.inputs.table.now a.here a.nest a.d c.requires.ready true (sym c.is_iteration.ensures ∙ c.if-is_iteration.true) (sym c.is_well_written.ensures ∙ not-false _ c.if-not-is_well_written.false-raw) c.in-Ok.ensures (c.open_iteration.ensures a.here.next.0)

pub returns-else-is_iteration : goal.returns-else-is_iteration
returns-else-is_iteration c = let a = c.args in open_settled a.inputs.text.now a.inputs.table.now a.here a.nest a.d c.requires.ready false (sym c.is_iteration.ensures ∙ c.if-is_iteration.false) (sym c.is_well_written.ensures ∙ not-false _ c.if-not-is_well_written.false-raw) c.in-Ok.ensures (c.open_conditional.ensures a.here.next.0)
