-- After an iteration, by the arguments in hand then. Assumes nothing.
use Rattle.std.proofs.Common.{rules}
use Rattle.nesting.proofs.MoveLaws.{block_inside, closes_list, closes_same}
use Rattle.nesting.proofs.moves.close_iteration.Goals as goal

pub close-requires-clause-inside_in_bounds : goal.close-requires-clause-inside_in_bounds
close-requires-clause-inside_in_bounds c =
    let a = c.args in
    block_inside a.inputs.text.now a.inputs.table.now a.here a.block a.outside c.requires.passing

pub returns-then-eq : goal.returns-then-eq
returns-then-eq c = let a = c.args in closes_list a.inputs.text.now a.inputs.table.now a.here a.block a.outside c.requires.passing (search rules) c.close.ensures

pub close-requires-2-clause-inside_in_bounds : goal.close-requires-2-clause-inside_in_bounds
close-requires-2-clause-inside_in_bounds c =
    let a = c.args in
    block_inside a.inputs.text.now a.inputs.table.now a.here a.block a.outside c.requires.passing

pub returns : goal.returns
returns c = let a = c.args in closes_same a.inputs.text.now a.inputs.table.now a.here a.block a.outside c.requires.passing (search rules) c.close-2.ensures
