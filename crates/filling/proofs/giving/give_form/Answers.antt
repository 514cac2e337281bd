-- A directive of a form: planned, made a piece, and given. Assumes nothing.
use Rattle.rules.specs.declared.Item.TheVariants.{Written}
use Rattle.filling.proofs.StepLaws.{puts_none}
use Rattle.filling.proofs.PutLaws.{form_refused, form_shows}
use Rattle.filling.proofs.giving.give_form.Goals as goal

pub returns-then-here-eq0 : goal.returns-then-here-eq0
returns-then-here-eq0 c =
    let a = c.args in
    let p = a.progress in
    λ t. puts_none t a.table.now (Written a.d) a.d.after p.here p.given p.at a.window.now c.if-here-eq0.true c.refused.ensures c.requires.at_in_bounds

pub make_piece-piece-requires-clause-well_set : goal.make_piece-piece-requires-clause-well_set
make_piece-piece-requires-clause-well_set c = c.in-Ok.ensures.reaches.0

pub make_piece-piece-requires-clause-reachable : goal.make_piece-piece-requires-clause-reachable
make_piece-piece-requires-clause-reachable c = c.in-Ok.ensures.reaches.1.0

pub give_piece-requires-clause-good : goal.give_piece-requires-clause-good
give_piece-requires-clause-good c = c.make_piece-piece.ensures.good

pub returns-in-Ok : goal.returns-in-Ok
returns-in-Ok c =
    let a = c.args in
    let p = a.progress in
    λ t. form_shows t a.table.now a.form a.d p.here p.given p.at c.if-here-eq0.false c.requires.in_hand c.in-Ok.ensures c.make_piece-piece.ensures.is c.give_piece.ensures

pub returns-in-Err : goal.returns-in-Err
returns-in-Err c =
    let a = c.args in
    let p = a.progress in
    λ t. form_refused t a.table.now a.form a.d p.here p.given p.at c.if-here-eq0.false c.in-Err.ensures c.refused-in-Err.ensures c.requires.at_in_bounds
