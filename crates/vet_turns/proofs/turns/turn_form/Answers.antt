-- `turn_form` meets its contract: from the worked-out parameters. Assumes nothing.
use Rattle.std.proofs.lemmas.Result.{err_from_is_err_and}
use Rattle.vet_turns.proofs.TurnBy.{turn_worked, turn_refused}
use Rattle.vet_turns.proofs.turns.turn_form.Goals as goal

pub returns-in_err-settings : goal.returns-in_err-settings
returns-in_err-settings c =
    let a = c.args in
    let p = err_from_is_err_and c.from_residual.result c.from_residual.ensures.1 in
    rw (p.1, p.2) (turn_refused a.question.now.kinds.now a.question.now.longest a.form a.d a.next.0 c.requires.writing c.in_err-settings.ensures)

pub returns : goal.returns
returns c =
    let a = c.args in
    turn_worked a.question.now.kinds.now a.question.now.longest a.form a.d a.next.0 c.requires.writing c.in_ok-settings.ensures c.turn_settled.ensures
