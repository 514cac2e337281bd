-- A sequence ends: the text, a clause or a pass. Assumes nothing.
use native.Mathlib.Omega.{arith}
use Rattle.std.proofs.Common.{rules}
use Rattle.nesting.proofs.MoveLaws.{ends_run, top_lies, ends_clause, passing, ends_pass}
use Rattle.nesting.proofs.moves.end_sequence.Goals as goal

pub returns-then-nest-eq0 : goal.returns-then-nest-eq0
returns-then-nest-eq0 c = let a = c.args in ends_run a.inputs.text.now a.inputs.table.now a.here a.nest c.requires.place_value c.if-nest-eq0.true c.ended.ensures

pub block_at-block-requires : goal.block_at-block-requires
block_at-block-requires c = let a = c.args in omega (arith, c.if-nest-eq0.false, c.requires.sound.depth)

pub close-requires-clause-inside_in_bounds : goal.close-requires-clause-inside_in_bounds
close-requires-clause-inside_in_bounds c =
    let a = c.args in
    top_lies a.inputs.text.now a.inputs.table.now a.here a.nest c.requires.sound c.if-nest-eq0.false c.block_at-block.ensures.is

pub returns-then-eq : goal.returns-then-eq
returns-then-eq c = let a = c.args in ends_clause a.inputs.text.now a.inputs.table.now a.here a.nest c.requires.sound c.if-nest-eq0.false c.requires.place_value c.block_at-block.ensures.is c.cut.ensures (search rules) c.close.ensures

pub end_pass-requires-clause-passing : goal.end_pass-requires-clause-passing
end_pass-requires-clause-passing c =
    let a = c.args in
    passing a.inputs.text.now a.inputs.table.now a.here a.nest c.requires.sound c.if-nest-eq0.false a.inputs.accepted c.block_at-block.ensures.is c.block_at-block.ensures.fits c.cut-2.ensures (search rules)

pub returns : goal.returns
returns c = let a = c.args in ends_pass a.inputs.text.now a.inputs.table.now a.here a.nest c.requires.sound c.if-nest-eq0.false c.requires.place_value c.block_at-block.ensures.is c.cut-2.ensures c.end_pass.ensures
