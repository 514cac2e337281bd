-- A pass ends: the iteration is over, refused for want of a step, or goes on. Assumes nothing.
use mathlib.Core.Path.{sym, subst, ◌∙◌}
use Rattle.nesting.specs.declared.nests.Block.{Block}
use Rattle.nesting.specs.Nest.{Pushes, with_passes}
use Rattle.nesting.proofs.MoveLaws.{pass_over, pass_none, again_fits, pass_again}
use Rattle.nesting.proofs.moves.end_pass.Goals as goal

pub returns-then-is_over : goal.returns-then-is_over
returns-then-is_over c = let a = c.args in pass_over a.inputs.text.now a.inputs.table.now a.here a.block a.outside c.requires.passing (sym c.is_over.ensures ∙ c.if-is_over.true) c.close_iteration.ensures

pub returns-then-here-eq0 : goal.returns-then-here-eq0
returns-then-here-eq0 c = let a = c.args in pass_none a.inputs.text.now a.inputs.table.now a.here a.block a.outside c.requires.passing (sym c.is_over.ensures ∙ c.if-is_over.false) c.if-here-eq0.true c.refused.ensures

pub reopened-requires-clause-depth_bound : goal.reopened-requires-clause-depth_bound
reopened-requires-clause-depth_bound c = c.requires.passing.level

pub reopened-requires-clause-fits : goal.reopened-requires-clause-fits
reopened-requires-clause-fits c =
    let a = c.args in
    (again_fits a.inputs.text.now a.inputs.table.now a.here a.block a.outside c.requires.passing (sym c.is_over.ensures ∙ c.if-is_over.false) c.one_less.result c.one_less.ensures).passes

pub returns : goal.returns
returns c =
    let a = c.args in
    pass_again a.inputs.text.now a.inputs.table.now a.here a.block a.outside c.requires.passing (sym c.is_over.ensures ∙ c.if-is_over.false) c.if-here-eq0.false c.one_less.ensures
    (subst (λ (b : Block). Pushes a.outside (with_passes b c.one_less.result) c.reopened.result) (sym c.requires.stands) c.reopened.ensures.pushes)
    c.on.ensures
