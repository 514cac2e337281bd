-- A block is refused for its level or its step, or begun. Assumes nothing.
use native.Mathlib.Omega.{arith}
use Rattle.nesting.proofs.OpenLaws.{met_deep, met_none, met_ready, met_on}
use Rattle.nesting.proofs.moves.open_block.Goals as goal

pub returns-then-nest-ge-DEEPEST : goal.returns-then-nest-ge-DEEPEST
returns-then-nest-ge-DEEPEST c = let a = c.args in met_deep a.inputs.text.now a.inputs.table.now a.here a.nest a.d c.requires.place_value c.requires.code_value c.if-nest-ge-DEEPEST.true c.refused.ensures

pub returns-then-here-eq0 : goal.returns-then-here-eq0
returns-then-here-eq0 c = let a = c.args in met_none a.inputs.text.now a.inputs.table.now a.here a.nest a.d c.requires.place_value c.requires.code_value (omega (arith, c.if-nest-ge-DEEPEST.false)) c.if-here-eq0.true c.refused-then-here-eq0.ensures

pub open_begun-requires-clause-ready : goal.open_begun-requires-clause-ready
open_begun-requires-clause-ready c =
    let a = c.args in
    met_ready a.inputs.text.now a.inputs.table.now a.here a.nest a.d c.requires.place_value c.requires.code_value (omega (arith, c.if-nest-ge-DEEPEST.false)) c.if-here-eq0.false a.inputs.accepted c.requires.sound

pub returns : goal.returns
returns c = let a = c.args in met_on a.inputs.text.now a.inputs.table.now a.here a.nest a.d c.requires.place_value c.requires.code_value (omega (arith, c.if-nest-ge-DEEPEST.false)) c.if-here-eq0.false c.open_begun.ensures
