-- A literal run is written whole or refused. Assumes nothing.
use Rattle.stepping.proofs.ItemLaws.{acts_none, literal_no_room, literal_put}
use Rattle.stepping.proofs.items.put_literal.Goals as goal

pub returns-then-stand-eq0 : goal.returns-then-stand-eq0
returns-then-stand-eq0 c =
    let a = c.args in
    λ s n v level here e _. acts_none s n v a.stand.hand.first.0 a.stand.hand.count level here a.stand.next.0 a.stand.left a.stand.at a.out.now e _ c.if-stand-eq0.true c.refuse.ensures c.requires.at_in_bounds c.requires.next_le_count

pub returns-then-out-stand : goal.returns-then-out-stand
returns-then-out-stand c =
    let a = c.args in
    λ s n v level here e h. literal_no_room s n v a.stand.hand.first.0 a.stand.hand.count level here a.stand.next.0 a.stand.left a.stand.at a.out.now c.if-stand-eq0.false h a.byte e _ _ c.begin-spot.ensures c.if-out-stand.true c.refuse-then-out-stand.ensures c.requires.at_in_bounds c.requires.next_le_count

pub returns : goal.returns
returns c =
    let a = c.args in
    λ s n v level here e h. literal_put s n v a.stand.hand.first.0 a.stand.hand.count level here a.stand.next.0 a.stand.left a.stand.at a.out.now c.if-stand-eq0.false h a.byte e _ _ c.begin-spot.ensures c.if-out-stand.false c.go_on.ensures c.requires.next_le_count
