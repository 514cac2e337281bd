-- `settle_fixed` meets its contract: without `v` no table is asked for. Assumes nothing.
use Rattle.vet_turns.proofs.TurnBy.{settled_on}
use Rattle.vet_turns.proofs.turns.settle_fixed.Goals as goal

pub returns : goal.returns
returns c = settled_on c.requires.parameters_value c.settle_directive.ensures.in_places
