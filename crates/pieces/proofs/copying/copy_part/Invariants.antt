-- `pieces::copying::copy_part` meets its contract: each turn copies the next byte of the part. Assumes nothing.
use lib.ListN.{length}
use Rattle.pieces.specs.Bytes.{part}
use Rattle.pieces.proofs.Parts.{Copying}
use Rattle.pieces.proofs.copying.copy_part.Given as goal

abbrev pub invariant-loop-i : goal.invariant-loop-i
invariant-loop-i l = Copying (part l.from (length l.initial.out) l.src) (length l.initial.out) l.out l.i
