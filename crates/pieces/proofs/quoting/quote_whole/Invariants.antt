-- What is written, with what the string still owes and the last quote, is the whole. Assumes nothing.
use Rattle.pieces.proofs.Escapes.{Quoting}
use Rattle.pieces.proofs.quoting.quote_whole.Given as goal

abbrev pub invariant-loop-byte : goal.invariant-loop-byte
invariant-loop-byte l = Quoting l.src l.out l.byte-index l.to
