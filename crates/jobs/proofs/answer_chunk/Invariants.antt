-- What is held is what has come of a line with the bytes that are passed. Assumes nothing.
use Rattle.std.proofs.Common.{length, ◌-◌, ◌≡◌, ◌≤◌, take}
use Rattle.chunks.specs.Cutting.{begun_line}
use Rattle.chunks.specs.Feeding.{Holds}
use Rattle.jobs.proofs.answer_chunk.Given as goal

abbrev pub invariant-loop-from : goal.invariant-loop-from
invariant-loop-from l = record {
  held : Holds l.line (begun_line (take l.held l.fn.line) (take l.from l.chunk)) l.kept;
  within : l.from ≤ length l.chunk;
  room : length l.out ≡ length l.fn.out;
}

abbrev pub decreases-loop-from : goal.decreases-loop-from
decreases-loop-from l = length l.chunk - l.from
