-- `reader::spans::after_strides` meets its contract. The loop's invariant: the span from i on ends where the one from
-- start on ends. Assumes nothing.
use Rattle.std.proofs.Common.{ℕ, Bool, ◌-◌, ◌≤◌, length}
use Rattle.reader.specs.Spans.{Decides, Along}
use Rattle.reader.proofs.spans.after_strides.Given as goal

abbrev pub invariant-loop-i : goal.invariant-loop-i
invariant-loop-i g l = record {
  within : l.i ≤ length l.text;
  along : (f : ℕ → Bool) → Decides (goal.F-post g l.is_in) f → Along f l.text l.start l.i;
}

abbrev pub decreases-loop-i : goal.decreases-loop-i
decreases-loop-i g l = length l.text - l.i
