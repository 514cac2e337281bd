-- Two digits stand for each byte that is passed. Assumes nothing.
use Rattle.lines.proofs.Hexing.{Hexing}
use Rattle.lines.proofs.write_hex.Given as goal

abbrev pub invariant-loop-byte : goal.invariant-loop-byte
invariant-loop-byte l = Hexing l.bytes l.initial.out l.at l.out l.to l.byte-index
