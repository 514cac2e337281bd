-- `actions::direct::put_text` meets its contract: the string and then spaces, or a refusal for want of room.
-- Assumes nothing.
use Rattle.rules.specs.declared.refusal.Refusal.TheVariants.{NoRoom}
use Rattle.actions.proofs.DirectLaws.{direct_put, direct_full, text_length, text_put}
use Rattle.actions.proofs.ActLaws.{untouched_on, untouched_refused}
use Rattle.actions.proofs.direct.put_text.Goals as goal

pub returns-then-n-out-clause-puts : goal.returns-then-n-out-clause-puts
returns-then-n-out-clause-puts c =
    let a = c.args in
    let n = c.max-n.result in
    let q = c.max-n.ensures in
    λ count k l. direct_put a.spot a.next.0 count n a.out.now _ (text_length c.requires.string_in a.width n q) _ c.go_on.ensures
    (text_put c.requires.string_in a.width n q a.out.now a.spot.at _ _ c.requires.at_in_bounds c.if-n-out.true c.copy_part.ensures c.fill.ensures) l

pub returns-then-n-out-clause-untouched : goal.returns-then-n-out-clause-untouched
returns-then-n-out-clause-untouched c = untouched_on _ c.go_on.ensures

pub returns-clause-puts : goal.returns-clause-puts
returns-clause-puts c =
    let a = c.args in
    let n = c.max-n.result in
    let q = c.max-n.ensures in
    λ count k l. direct_full a.spot a.next.0 count n a.out.now _ (text_length c.requires.string_in a.width n q) _ a.before.0 c.refuse.ensures c.requires.at_in_bounds c.if-n-out.false k

pub returns-clause-untouched : goal.returns-clause-untouched
returns-clause-untouched c = untouched_refused _ NoRoom c.refuse.ensures
