-- `parameters::argument_at` meets its contract: the argument's entry lies in the table, and the view has its value there.
-- Assumes nothing.
use Prim.Native.Nat.{◌+◌}
use native.Mathlib.Omega.{arith}
use Rattle.parameters.proofs.WorkLaws.{hand_small}
use Rattle.rules.proofs.AnswerLaws.{answer_in_view}
use Rattle.rules.specs.Table.{Holds}
use Rattle.parameters.proofs.arguments.argument_at.Goals as goal

pub entry_of-requires : goal.entry_of-requires
entry_of-requires c = omega (arith, hand_small c.requires.in_hand, c.requires.i_lt_count)

pub returns-clause-entry : goal.returns-clause-entry
returns-clause-entry c =
    let hand = c.args.hand in
    let h : Holds c.args.table.now (hand.first.0 + c.args.i.0) c.read_argument.result = rw c.entry_of.ensures at c.read_argument.ensures in
    h

pub returns-clause-value : goal.returns-clause-value
returns-clause-value c =
    let hand = c.args.hand in
    let h : Holds c.args.table.now (hand.first.0 + c.args.i.0) c.read_argument.result = rw c.entry_of.ensures at c.read_argument.ensures in
    answer_in_view h (omega (arith, c.requires.in_hand.within, c.requires.i_lt_count))
