-- The place after a block. Assumes nothing.
use Rattle.nesting.proofs.MoveLaws.{closes_is}
use Rattle.blocks.proofs.ClauseLaws.{inside_start}
use Rattle.nesting.proofs.moves.close.Goals as goal

pub block_end-place-requires-clause-inside_at : goal.block_end-place-requires-clause-inside_at
block_end-place-requires-clause-inside_at c = inside_start c.args.inputs.text.now c.args.inside c.requires.inside_in_bounds

pub returns : goal.returns
returns c = closes_is c.on.ensures c.block_end-place.ensures
