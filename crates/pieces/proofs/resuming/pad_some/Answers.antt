-- `pieces::resuming::pad_some` meets its contract: as many bytes as there is room for are filled, and the others
-- are left. Assumes nothing.
use Rattle.pieces.proofs.Rests.{pads}
use Rattle.pieces.proofs.resuming.pad_some.Goals as goal

pub returns : goal.returns
returns c =
    pads c.args.count c.args.pad c.args.from _ c.args.out.now _ c.requires
    c.reach-n.ensures c.fill.ensures
