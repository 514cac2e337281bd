-- `reader::directive::read_number` meets its contract. The loop's invariant: reading the number from start on is
-- reading on at i, in a number that is so far n. Assumes nothing.
use Prim.Native.Nat.{◌-◌}
use lib.ListN.{length}
use Rattle.reader.proofs.ScanLaws.{Numbering}
use Rattle.reader.proofs.directive.read_number.Given as goal

abbrev pub invariant-loop-n : goal.invariant-loop-n
invariant-loop-n l = Numbering l.text l.start l.minus l.n l.i

abbrev pub decreases-loop-n : goal.decreases-loop-n
decreases-loop-n l = length l.text - l.i
