-- What stands in the frame, with what the digits that are left give, is the whole. Assumes nothing.
use Rattle.lines.proofs.Decoding.{Decoding}
use Rattle.lines.proofs.decode.Given as goal

abbrev pub invariant-loop-k : goal.invariant-loop-k
invariant-loop-k l = Decoding l.line l.initial.frame l.frame l.k
