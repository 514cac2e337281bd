-- The numeral of a form is never shorter than that of the least integer. Assumes nothing.
use mathlib.Core.Path.{◌∙◌}
use native.Mathlib.Omega.{arith}
use Rattle.rules.specs.Working.{IsByte}
use Rattle.rules.proofs.Rowed.{number_least}
use Rattle.vet_turns.proofs.WorstBy.{default_is, numeral_worst}
use Rattle.vet_turns.specs.Kinds.{tag_of_kind}
use Rattle.vet_turns.proofs.lengths.worst_of.Goals as goal

pub returns-in-Numeral : goal.returns-in-Numeral
returns-in-Numeral c =
    let a = c.args in
    let w = rw c.in-Numeral.is at c.requires.well_set in
    rw c.in-Numeral.is
    (c.worst_numeral.ensures
    ∙ rw (c.unwrap_or.ensures, c.unwrap_or-in-Numeral.ensures, default_is a.settings.first 0, default_is a.settings.fourth 3)
    (numeral_worst a.longest c.in-Numeral.base a.colon a.atsign a.settings (tag_of_kind a.kind) (number_least IsByte 1 4096 a.settings.fourth 3 w.places.fourth (omega arith))))
