-- `reader::short::skip_short` meets its contract. The loop's invariant: what is found from here on is what is found from
-- the start. Assumes nothing.
use lib.ListN.{length}
use Prim.Native.Nat.{◌-◌}
use Rattle.reader.specs.Shorts.{Skips}
use Rattle.reader.proofs.short.skip_short.Given as goal

abbrev pub invariant-loop-p : goal.invariant-loop-p
invariant-loop-p l = Skips l.text l.start l.p

abbrev pub decreases-loop-p : goal.decreases-loop-p
decreases-loop-p l = length l.text - l.p
