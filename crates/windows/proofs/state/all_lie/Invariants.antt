-- All blocks lie where each does, from the innermost on. Assumes nothing.
use mathlib.Core.Path.{◌≡◌}
use Rattle.nesting.specs.Nest.{all_lie}
use Rattle.windows.proofs.state.all_lie.Given as goal

abbrev pub invariant-loop-i : goal.invariant-loop-i
invariant-loop-i l = all_lie l.size l.table l.nest l.nest.depth ≡ all_lie l.size l.table l.nest l.i
