-- `turn_settled` meets its contract, where no argument is taken. Assumes nothing.
use native.Mathlib.Omega.{arith}
use Rattle.vet_turns.proofs.TurnBy.{by_number, by_nowhere, numbered_given}
use Rattle.vet_turns.proofs.turns.turn_settled.Goals as goal

pub returns-in-Nowhere-default : goal.returns-in-Nowhere-default
returns-in-Nowhere-default c =
    let a = c.args in
    by_nowhere a.question.now.kinds.now a.question.now.longest a.form a.d a.settings a.next.0 (rw c.form_row.ensures at c.in-Nowhere-default.is-0) c.requires.well_set (omega arith) c.worst_of.ensures

pub returns-in-NextOrNumber-Some : goal.returns-in-NextOrNumber-Some
returns-in-NextOrNumber-Some c =
    let a = c.args in
    let o = rw c.form_row.ensures at c.in-NextOrNumber-Some.is-0 in
    by_number a.question.now.kinds.now a.question.now.longest a.form a.d a.settings a.next.0 o
    (numbered_given a.question.now.kinds.now a.question.now.longest a.form a.d a.settings a.next.0 o c.in-NextOrNumber-Some.is-1 c.glyph_size.ensures)
