-- The loop: whatever is run from here is run from the start. The measure is what is left of the text. Assumes nothing.
use Prim.Native.Nat.{ℕ, ◌-◌, ◌≤◌}
use lib.ListN.{length}
use Rattle.rules.specs.Table.{view_of}
use Rattle.rules.specs.Text.{levels_at}
use Rattle.parameters.specs.Settling.{hand_at}
use Rattle.running.specs.Runs.{Strides}
use Rattle.running.proofs.Strides.{Onto}
use Rattle.stepping.proofs.short.run_short.Given as goal

abbrev pub invariant-loop-hand : goal.invariant-loop-hand
invariant-loop-hand l = Onto (λ i m o b e r. (level : ℕ) → Strides (levels_at l.text) (length l.text) (view_of l.table) (hand_at l.hand) level l.p i m o b e r)
    (λ e r. (level : ℕ) → Strides (levels_at l.text) (length l.text) (view_of l.table) (hand_at l.hand) level l.start l.initial.next.0 l.initial.left l.initial.at l.initial.out e r)
    l.initial.left l.hand.count l.initial.out l.next.0 l.left l.at l.out
    × (l.p ≤ length l.text)

abbrev pub decreases-loop-hand : goal.decreases-loop-hand
decreases-loop-hand l = length l.text - l.p
