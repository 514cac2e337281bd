-- The block behind the open ones is open again. Assumes nothing.
use Rattle.nesting.proofs.NestLaws.{reopens}
use Rattle.nesting.proofs.nests.Nest.reopened.Goals as goal

pub returns-clause-pushes : goal.returns-clause-pushes
returns-clause-pushes c = reopens c.args.self c.number_of.result c.number_of.ensures c.requires.depth_bound c.well_formed.0.1.1.1.1.1.1.0.1.0.1
