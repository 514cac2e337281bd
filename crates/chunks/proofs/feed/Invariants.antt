-- `chunks::feed` meets its contract. What stands so far is what the bytes that are passed give. Assumes nothing.
use Prim.Native.Nat.{◌-◌, ◌≤◌}
use mathlib.Core.Path.{◌≡◌}
use lib.ListN.{length, take}
use Rattle.lines.specs.Same.{SameBuffers}
use Rattle.chunks.specs.Feeding.{Taken}
use Rattle.chunks.proofs.feed.Given as goal

abbrev pub invariant-loop-from : goal.invariant-loop-from
invariant-loop-from l = record {
  taken : Taken (take l.from l.chunk) (take l.held l.initial.line) l.initial.line l.line l.initial.scratch.frame.now l.scratch.frame.now l.initial.scratch.text.now l.scratch.text.now l.initial.out l.out l.kept l.filled;
  within : l.from ≤ length l.chunk;
  line : length l.line ≡ length l.initial.line;
  out : length l.out ≡ length l.initial.out;
  same_buffers : SameBuffers l.initial.scratch l.scratch;
}

abbrev pub decreases-loop-from : goal.decreases-loop-from
decreases-loop-from l = length l.chunk - l.from
