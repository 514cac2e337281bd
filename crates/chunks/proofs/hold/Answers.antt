-- `chunks::hold` meets its contract: so many bytes of the part stand behind those that were held. Assumes nothing.
use Rattle.chunks.proofs.Buffers.{held_more}
use Rattle.chunks.proofs.hold.Goals as goal

pub returns : goal.returns
returns c =
    rw c.copy_from_slice.ensures.after
    (held_more c.args.line.now c.args.part.now c.args.held c.min-count.result c.requires c.min-count.ensures)
