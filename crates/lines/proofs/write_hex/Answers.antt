-- `lines::write_hex` meets its contract. Two digits stand for each byte that is passed. Assumes nothing.
use Rattle.lines.proofs.Hexing.{hex_none, hex_more}
use Rattle.lines.proofs.write_hex.Goals as goal

pub loop-byte-init : goal.loop-byte-init
loop-byte-init c = hex_none c.requires

pub loop-byte-preserved : goal.loop-byte-preserved
loop-byte-preserved c =
    hex_more c.requires c.loop-byte.invariant c.loop-byte-test.true c.digit_byte.ensures
    c.digit_byte-in-loop-byte.ensures
