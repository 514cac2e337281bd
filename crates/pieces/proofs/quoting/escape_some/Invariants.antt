-- What is written, with what the string still owes, is what it owed. Assumes nothing.
use Prim.Native.Nat.{◌-◌, ◌≤◌}
use lib.ListN.{length, drop}
use Rattle.pieces.specs.Bytes.{owed}
use Rattle.pieces.specs.Rest.{Appends}
use Rattle.pieces.proofs.quoting.escape_some.Given as goal

abbrev pub invariant-loop-to : goal.invariant-loop-to
invariant-loop-to l = record {
  written : Appends (owed l.first_gone l.src) l.from l.initial.out l.out l.to (owed l.gone (drop l.next l.src));
  inside : l.next ≤ length l.src;
}

abbrev pub decreases-loop-to : goal.decreases-loop-to
decreases-loop-to l = length l.out - l.to
