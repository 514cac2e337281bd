-- `pieces::quoting::escape_part` meets its contract: what the string owes from the part's place on, as far as there is
-- room. Assumes nothing.
use Rattle.pieces.specs.Bytes.{owed}
use Rattle.pieces.proofs.Rests.{escapes_part}
use Rattle.pieces.proofs.quoting.escape_part.Goals as goal

pub returns : goal.returns
unfolding owed
returns c =
    escapes_part c.args.src.now c.args.from _
    c.find_spot-spot.ensures.spot c.requires
    c.escape_some.ensures
