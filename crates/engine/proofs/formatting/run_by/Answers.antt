-- The run of a whole text by its landmarks is the answer of the call. Assumes nothing.
use Rattle.engine.proofs.WholeLaws.{whole_told, all_in_hand, has_header}
use native.Mathlib.Omega.{arith}
use Rattle.engine.proofs.formatting.run_by.Goals as goal

pub argument_count-requires : goal.argument_count-requires
argument_count-requires c = has_header c.args.table.now c.requires.table_value

pub run_sequence-r-requires-clause-stands : goal.run_sequence-r-requires-clause-stands
run_sequence-r-requires-clause-stands c = record { held = all_in_hand c.args.table.now _ c.requires.table_value c.argument_count.ensures.0; reaches = omega arith; written = omega arith }

pub outcome_of-requires : goal.outcome_of-requires
outcome_of-requires c = c.run_sequence-r.ensures.does.falls

pub shape_of-out : goal.shape_of-out
shape_of-out c = c.run_sequence-r.ensures.does.size

pub returns : goal.returns
returns c =
    let a = c.args in
    whole_told a.format.now a.table.now a.out.now _ _ c.argument_count.ensures.0 c.requires.table_value c.requires.format_value c.run_sequence-r.ensures c.outcome_of.ensures
