-- A short directive is a run of one item, and any other item is left as it stands. Assumes nothing.
use mathlib.Core.Path.{refl, subst}
use native.Mathlib.Omega.{arith}
use lib.ListN.{length}
use Rattle.rules.specs.Table.{view_of}
use Rattle.rules.specs.Text.{levels_at}
use Rattle.reader.specs.Shorts.{ShortAt}
use Rattle.rules.proofs.Bases.{code_right}
use Rattle.running.proofs.Places.{writes_at, directive_ahead}
use Rattle.running.proofs.Strides.{strides, strides_none}
use Rattle.stepping.proofs.ShortRuns.{held_up}
use Rattle.stepping.proofs.short.run_one.Goals as goal

pub act_short-requires-clause-form_right : goal.act_short-requires-clause-form_right
act_short-requires-clause-form_right c =
    let a = c.args in
    let u = subst (ShortAt a.text.now a.p) c.in-Some.is c.read_short.ensures.means in
    code_right a.text.now a.p _ u.item

pub returns-in-None-clause-strides : goal.returns-in-None-clause-strides
returns-in-None-clause-strides c =
    let a = c.args in
    λ level. strides_none (levels_at a.text.now) (length a.text.now) (view_of a.table.now) a.stand.hand.first.0 a.stand.hand.count level a.p a.stand.next.0 a.stand.left a.stand.at a.out.now _ refl c.requires.p_in_bounds c.requires.stands.written c.requires.stands.reaches

pub returns-in-Some-clause-strides : goal.returns-in-Some-clause-strides
returns-in-Some-clause-strides c =
    let a = c.args in
    let u = subst (ShortAt a.text.now a.p) c.in-Some.is c.read_short.ensures.means in
    let one = c.act_short.ensures.steps (levels_at a.text.now) (length a.text.now) in
    let here = writes_at a.text.now a.p _ u.item _ refl in
    let on = directive_ahead a.text.now a.p _ u.item in
    λ level. strides (levels_at a.text.now) (length a.text.now) (view_of a.table.now) a.stand.hand.first.0 a.stand.hand.count level a.p a.stand.next.0 a.stand.left a.stand.at a.out.now (one level a.p here on)

pub returns-in-Some-clause-other : goal.returns-in-Some-clause-other
returns-in-Some-clause-other c =
    let a = c.args in
    let u = subst (ShortAt a.text.now a.p) c.in-Some.is c.read_short.ensures.means in
    let one = c.act_short.ensures.steps (levels_at a.text.now) (length a.text.now) in
    let here = writes_at a.text.now a.p _ u.item _ refl in
    let on = directive_ahead a.text.now a.p _ u.item in
    λ h q. absurd (omega (arith, q, (one 0 a.p here on).least h))

pub returns-in-Some-clause-held : goal.returns-in-Some-clause-held
returns-in-Some-clause-held c =
    let a = c.args in
    held_up (levels_at a.text.now) (length a.text.now) (view_of a.table.now) a.stand.hand.first.0 a.stand.hand.count a.p a.stand.next.0 a.stand.left a.stand.at a.out.now c.act_short.result c.requires.p_in_bounds c.requires.stands.written c.requires.stands.reaches c.act_short.ensures.held
