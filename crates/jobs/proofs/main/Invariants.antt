-- The buffers keep their lengths, and no more is held than a line has room for. Assumes nothing.
use Rattle.std.proofs.Common.{◌≡◌, ◌≤◌, length}
use Rattle.jobs.proofs.main.Given as goal

abbrev pub invariant-loop : goal.invariant-loop
invariant-loop l = record {
  line : length l.line ≡ 65536;
  out : length l.out ≡ 131072;
  held : l.held ≤ 65536;
}
