-- The runners meet their contracts. The levels that are left fall at each block; the text falls in each turn of the runner
-- of a sequence, and the steps in each pass. The loops: whatever ends from here is the whole. Assumes nothing.
use lib.ListN.{length}
use Rattle.rules.specs.Table.{view_of}
use Rattle.rules.specs.Text.{levels_at}
use Rattle.parameters.specs.Settling.{hand_at}
use Rattle.blocks.specs.Clauses.{InsideAt}
use Rattle.running.specs.Runs.{Runs, Passes}
use Rattle.running.proofs.Strides.{Onto}
use Prim.Native.Nat.{◌+◌, ◌-◌, ◌*◌, ◌≤◌}
use Rattle.engine.proofs.runners.+runs.Given as goal

abbrev pub decreases-run_block : goal.decreases-run_block
decreases-run_block l = 8 * l.level + 5

abbrev pub decreases-run_clause : goal.decreases-run_clause
decreases-run_clause l = 8 * l.level + 8

abbrev pub decreases-run_conditional : goal.decreases-run_conditional
decreases-run_conditional l = 8 * l.level + 9

abbrev pub decreases-run_item : goal.decreases-run_item
decreases-run_item l = 8 * l.level + 6

abbrev pub decreases-run_iteration : goal.decreases-run_iteration
decreases-run_iteration l = 8 * l.level + 10

abbrev pub decreases-run_opened : goal.decreases-run_opened
decreases-run_opened l = 8 * l.level + 11

abbrev pub decreases-run_passes : goal.decreases-run_passes
decreases-run_passes l = 8 * l.level + 8

abbrev pub invariant-run_passes-loop-hand : goal.invariant-run_passes-loop-hand
invariant-run_passes-loop-hand l = Onto (λ i left a b e r. Passes (levels_at l.text) (length l.text) (view_of l.table) (hand_at l.hand) l.level l.on.position l.q i l.passes left a b e r) (Passes (levels_at l.text) (length l.text) (view_of l.table) (hand_at l.hand) l.level l.initial.on.position l.q l.initial.next.0 l.initial.passes l.initial.on.left l.initial.on.at l.initial.out) l.initial.on.left l.hand.count l.initial.out l.next.0 l.on.left l.on.at l.out
    × InsideAt l.text l.q l.on.place

abbrev pub decreases-run_passes-loop-hand : goal.decreases-run_passes-loop-hand
decreases-run_passes-loop-hand l = l.on.left

abbrev pub decreases-run_sequence : goal.decreases-run_sequence
decreases-run_sequence l = 8 * l.level + 7

abbrev pub invariant-run_sequence-loop-hand : goal.invariant-run_sequence-loop-hand
invariant-run_sequence-loop-hand l = Onto (Runs (levels_at l.text) (length l.text) (view_of l.table) (hand_at l.hand) l.level l.p) (Runs (levels_at l.text) (length l.text) (view_of l.table) (hand_at l.hand) l.level l.start l.initial.next.0 l.initial.left l.initial.at l.initial.out) l.initial.left l.hand.count l.initial.out l.next.0 l.left l.at l.out
    × (l.p ≤ length l.text)

abbrev pub decreases-run_sequence-loop-hand : goal.decreases-run_sequence-loop-hand
decreases-run_sequence-loop-hand l = length l.text - l.p
