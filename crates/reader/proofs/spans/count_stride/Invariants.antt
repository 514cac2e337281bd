-- `reader::spans::count_stride` meets its contract. The loop's invariant: n of the bytes so far are of the class.
-- Assumes nothing.
use Rattle.std.proofs.Common.{◌≡◌, ℕ, Bool, ◌≤◌}
use Rattle.reader.specs.Spans.{Decides, count_of}
use Rattle.reader.proofs.spans.count_stride.Given as goal

abbrev pub invariant-loop-b : goal.invariant-loop-b
invariant-loop-b g l = record {
  few : l.n ≤ l.b-index;
  counted : (f : ℕ → Bool) → Decides (goal.F-post g l.is_in) f → l.n ≡ count_of f l.text l.i l.b-index;
}
