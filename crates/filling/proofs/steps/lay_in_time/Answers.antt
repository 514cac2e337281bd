-- Landmarks are laid once, or left as they are. Assumes nothing.
use mathlib.Core.Path.{refl}
use Rattle.blocks.specs.Landmarks.{Marks}
use Rattle.filling.proofs.steps.lay_in_time.Goals as goal
use Rattle.filling.proofs.steps.lay_in_time.Goals.{Joined-turns-eq-MANY, then-turns-eq-MANY, else-turns-eq-MANY}

laid : (c : Joined-turns-eq-MANY) → Marks c.args.text.now c.args.marks.now c.if-turns-eq-MANY.marks
laid c =
    elim c.if-turns-eq-MANY.branch [
      | then-turns-eq-MANY w ↦ rw w.marks-is w.mark_text.ensures
      | else-turns-eq-MANY w ↦ rw w.marks-is (record { sound = c.requires; size = refl })
    ]

pub returns-then-turns-ge-MANY : goal.returns-then-turns-ge-MANY
returns-then-turns-ge-MANY c = record { sound = c.requires; size = refl }

pub shape_of-marks : goal.shape_of-marks
shape_of-marks c =
    (laid c).size

pub returns : goal.returns
returns c =
    laid c
