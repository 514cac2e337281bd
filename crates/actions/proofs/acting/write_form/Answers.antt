-- A form writes what is planned. Assumes nothing.
use Rattle.actions.proofs.ActLaws.{performed_as, performed_refused}
use Rattle.actions.proofs.Plans.{shown, not_shown}
use Rattle.actions.proofs.acting.write_form.Goals as goal

pub returns-in-Ok-clause-writes : goal.returns-in-Ok-clause-writes
returns-in-Ok-clause-writes c =
    let a = c.args in
    λ d q s. performed_as _
    (λ on. shown c.plan_settled.ensures d a.spot.position a.spot.left on c.in-Ok.is q s c.make_piece-piece.ensures.is)
    c.put_piece.ensures.puts

pub returns-in-Err-clause-writes : goal.returns-in-Err-clause-writes
returns-in-Err-clause-writes c =
    let a = c.args in
    λ d q s. performed_refused _ _ a.i.0 c.refuse.ensures
    (λ on. not_shown c.plan_settled.ensures d a.spot.position a.spot.left on c.in-Err.is)
    c.requires.at_in_bounds c.requires.i_le_count
