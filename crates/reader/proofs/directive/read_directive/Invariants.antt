-- `reader::directive::read_directive` meets its contract. The loop's invariant: reading from start on is reading on
-- at i with the parameters that are read, which are at most i. Assumes nothing.
use Prim.Native.Nat.{◌-◌}
use lib.ListN.{length}
use Rattle.reader.proofs.ScanLaws.{Directing}
use Rattle.reader.proofs.directive.read_directive.Given as goal

abbrev pub invariant-loop-parameter : goal.invariant-loop-parameter
invariant-loop-parameter l = Directing l.text l.start l.ps l.i

abbrev pub decreases-loop-parameter : goal.decreases-loop-parameter
decreases-loop-parameter l = length l.text - l.i
