-- A directive that holds no clause acts as 01 has it. Assumes nothing.
use Rattle.stepping.proofs.ItemLaws.{alone_none, begun_inside, acts_begun, escape_begun, only_escape}
use Rattle.running.specs.Runs.{AloneAt}
use Rattle.stepping.specs.Stepping.{ActsAlone}
use Rattle.rules.specs.Table.{view_of}
use mathlib.Core.Path.{refl, subst}
use borrow.Enum.Refused.{opened}
use Rattle.stepping.proofs.items.act.Goals as goal

pub returns-then-stand-eq0 : goal.returns-then-stand-eq0
returns-then-stand-eq0 c =
    let a = c.args in
    λ s n level here e _. alone_none s n (view_of a.table.now) a.stand.hand.first.0 a.stand.hand.count level here a.stand.next.0 a.stand.left a.stand.at a.out.now a.p a.d c.requires.acts_alone e _ c.if-stand-eq0.true c.refuse.ensures c.requires.stands.written c.requires.stands.reaches

pub act_form-requires-clause-code_value : goal.act_form-requires-clause-code_value
act_form-requires-clause-code_value c = c.in-Writes.is

pub act_form-requires-clause-form_right : goal.act_form-requires-clause-form_right
act_form-requires-clause-form_right c = subst ActsAlone c.in-Writes.is c.requires.acts_alone

pub act_form-requires-clause-in_hand : goal.act_form-requires-clause-in_hand
act_form-requires-clause-in_hand c = c.requires.stands.held

pub act_form-requires-clause-at_in_bounds : goal.act_form-requires-clause-at_in_bounds
act_form-requires-clause-at_in_bounds c =
    let a = c.args in
    begun_inside _ _ a.out.now c.begin-spot.ensures c.requires.stands.written

pub act_form-requires-clause-next_le_count : goal.act_form-requires-clause-next_le_count
act_form-requires-clause-next_le_count c = c.requires.stands.reaches

pub returns-in-Writes : goal.returns-in-Writes
returns-in-Writes c =
    let a = c.args in
    λ s n level here e h. acts_begun s n (view_of a.table.now) a.stand.hand.first.0 a.stand.hand.count level here a.stand.next.0 a.stand.left a.stand.at a.out.now c.if-stand-eq0.false h (subst (AloneAt s here a.p a.d) c.in-Writes.is e) _ c.begin-spot.ensures c.act_form.ensures

pub returns-in-Jump : goal.returns-in-Jump
returns-in-Jump c =
    let a = c.args in
    λ s n level here e h. acts_begun s n (view_of a.table.now) a.stand.hand.first.0 a.stand.hand.count level here a.stand.next.0 a.stand.left a.stand.at a.out.now c.if-stand-eq0.false h (subst (AloneAt s here a.p a.d) c.in-Jump.is e) _ c.begin-spot.ensures (c.act_jump.ensures a.out.now (begun_inside _ _ a.out.now c.begin-spot.ensures c.requires.stands.written))

pub returns-in_default : goal.returns-in_default
returns-in_default c =
    let a = c.args in
    λ s n level here e h. escape_begun s n (view_of a.table.now) a.stand.hand.first.0 a.stand.hand.count level here a.stand.next.0 a.stand.left a.stand.at a.out.now c.if-stand-eq0.false h (subst (AloneAt s here a.p a.d) (only_escape _ a.d.code refl c.requires.acts_alone (opened c.in_default.in_default-own.keys3)) e) _ c.begin-spot.ensures c.escape.ensures c.requires.stands.written c.requires.stands.reaches
