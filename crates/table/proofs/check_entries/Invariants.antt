-- `table::check_entries` meets its contract. The loop's invariant: the first bad entry from i on is the first of all.
-- Assumes nothing.
use Prim.Native.Nat.{◌-◌}
use mathlib.Core.Path.{◌≡◌}
use Rattle.rules.specs.Table.{first_bad}
use Rattle.table.proofs.check_entries.Given as goal

abbrev pub invariant-loop-i : goal.invariant-loop-i
invariant-loop-i l = first_bad l.table l.n l.pool (l.n - l.i) l.i ≡ first_bad l.table l.n l.pool l.n 0
