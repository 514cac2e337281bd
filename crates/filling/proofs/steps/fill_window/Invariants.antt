-- Steps one after another, until one does not go on. Assumes nothing.
use Rattle.blocks.specs.Landmarks.{Marks}
use Rattle.nesting.specs.Moves.{comes, weight}
use Rattle.filling.specs.Filling.{to_give}
use Rattle.filling.proofs.AheadLaws.{Going}
use Rattle.filling.proofs.steps.fill_window.Given as goal

abbrev pub invariant-loop-step : goal.invariant-loop-step
invariant-loop-step l =
    Marks l.text l.initial.marks l.marks
    × Going l.text l.table (to_give l.fn.start.given (comes l.text l.table l.fn.start.here l.fn.blocks)) l.fn.start.here.left (weight l.fn.start.here l.fn.blocks) l.fn.start.at l.initial.window l.progress.here l.nest l.progress.given l.progress.at l.window

abbrev pub decreases-loop-step : goal.decreases-loop-step
decreases-loop-step l = weight l.progress.here l.nest
