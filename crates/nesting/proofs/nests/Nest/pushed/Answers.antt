-- A block is written behind the open ones. Assumes nothing.
use mathlib.Core.Path.{ap, ◌∙◌}
use Rattle.nesting.specs.Nest.{kind_by}
use Rattle.nesting.proofs.NestLaws.{pushes, kind_numbered}
use Rattle.nesting.proofs.nests.Nest.pushed.Goals as goal

pub returns-clause-pushes : goal.returns-clause-pushes
returns-clause-pushes c =
    let a = c.args in
    pushes a.self a.block c.number.result c.number_of.result (ap kind_by c.number.ensures ∙ kind_numbered a.block.kind) c.number_of.ensures c.requires.depth_bound
    (c.well_formed.0.1.1.1.0.1.0.1) (c.well_formed.0.1.1.1.1.0.1.0.1) (c.well_formed.0.1.1.1.1.1.0.1.0.1) (c.well_formed.0.1.1.1.1.1.1.0.1.0.1) (c.well_formed.0.1.1.1.1.1.1.1.0.1.0.1) (c.well_formed.0.1.1.1.1.1.1.1.1.0.1.0.1) (c.well_formed.0.1.1.1.1.1.1.1.1.1.0.1.0.1)
