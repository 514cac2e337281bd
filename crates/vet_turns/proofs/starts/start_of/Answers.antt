-- `start_of` meets its contract: from the worked-out parameters, where it has no modifier. Assumes nothing.
use Rattle.std.proofs.lemmas.Result.{err_from_is_err_and}
use Rattle.vet_turns.proofs.StartBy.{start_by, start_refused}
use Rattle.vet_turns.proofs.starts.start_of.Goals as goal

pub returns-in_err-settings : goal.returns-in_err-settings
returns-in_err-settings c =
    let a = c.args in
    let p = err_from_is_err_and c.from_residual-in_err-settings.result c.from_residual-in_err-settings.ensures.1 in
    rw (p.1, p.2) (start_refused a.kinds.now a.d a.next.0 c.requires.opener c.if-d.false c.if-d-2.false c.in_err-settings.ensures)

pub returns : goal.returns
returns c =
    let a = c.args in
    start_by a.kinds.now a.d a.next.0 c.requires.opener c.if-d.false c.if-d-2.false c.in_ok-settings.ensures c.start_numbered.ensures
