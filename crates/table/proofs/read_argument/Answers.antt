-- `table::read_argument` meets its contract: the entry lies in the accepted table, and each arm answers what ReadLaws
-- says of its kind. Assumes nothing.
use mir.Syntax.{w64}
use mir.ValLaws.{to_z-of_z}
use native.Mathlib.Omega.{arith}
use Rattle.table.proofs.ReadLaws.{entry_fits, AtEntry, boolean_holds, integer_holds, character_small, character_holds, string_holds, list_holds}
use Rattle.table.proofs.read_argument.Goals as goal
use Rattle.table.proofs.read_argument.Goals.{After-entry_at-tag}

-- the entry as it is read
at_entry : (c : After-entry_at-tag) → AtEntry c.args.table.now c.args.entry.0 c.entry_at-tag.result.tag c.entry_at-tag.result.high c.entry_at-tag.result.low
at_entry c = record {
  accepted = c.requires.table_value;
  below = c.requires.bound;
  is_tag = c.entry_at-tag.ensures.tag;
  is_high = c.entry_at-tag.ensures.high;
  is_low = c.entry_at-tag.ensures.low;
}

pub entry_at-tag-requires-clause-i_bound : goal.entry_at-tag-requires-clause-i_bound
entry_at-tag-requires-clause-i_bound c =
    (entry_fits c.args.table.now c.requires.table_value c.args.entry.0 c.requires.bound).0

pub entry_at-tag-requires-clause-i_in_bounds : goal.entry_at-tag-requires-clause-i_in_bounds
entry_at-tag-requires-clause-i_in_bounds c =
    omega (arith, entry_fits c.args.table.now c.requires.table_value c.args.entry.0 c.requires.bound)

pub overflow_cast-result : goal.overflow_cast-result
overflow_cast-result c = omega (arith, character_small (at_entry (goal.at.overflow_cast-result c).After-entry_at-tag) c.in-2.is)

pub entry_count-requires : goal.entry_count-requires
entry_count-requires c =
    omega (arith, entry_fits c.args.table.now c.requires.table_value c.args.entry.0 c.requires.bound)

pub returns-in-0 : goal.returns-in-0
returns-in-0 c = boolean_holds (at_entry (goal.at.returns-in-0 c).After-entry_at-tag) c.in-0.is

pub returns-in-1 : goal.returns-in-1
returns-in-1 c =
    rw (to_z-of_z w64 c.signed.result (record { sfits = c.signed.type_inv }), c.signed.ensures)
    (integer_holds (at_entry (goal.at.returns-in-1 c).After-entry_at-tag) c.in-1.is)

pub returns-in-2 : goal.returns-in-2
returns-in-2 c = character_holds (at_entry (goal.at.returns-in-2 c).After-entry_at-tag) c.in-2.is

pub returns-in-3 : goal.returns-in-3
returns-in-3 c =
    string_holds (at_entry (goal.at.returns-in-3 c).After-entry_at-tag) _ (omega (arith, c.entry_count.ensures.0)) c.in-3.is

pub returns-in_default : goal.returns-in_default
returns-in_default c = list_holds (at_entry (goal.at.returns-in_default c).After-entry_at-tag) (omega arith)
