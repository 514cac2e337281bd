-- `check_vettable` meets its contract: a vet takes the items passed, so those that remain decide. Assumes nothing.
use native.Mathlib.Omega.{arith}
use borrow.Author.Tests.{not-true, not-false}
use Rattle.vet.proofs.Places.{vettable_start, vettable_done, vettable_refused, vettable_more, goes_later}
use Rattle.vet.proofs.vettable.check_vettable.Goals as goal

pub loop-p-init : goal.loop-p-init
loop-p-init c = vettable_start c.args.format.now

pub returns-then-not-is_vettable : goal.returns-then-not-is_vettable
returns-then-not-is_vettable c =
    vettable_refused c.loop-p.invariant c.item_at-item.result c.loop-p-test.true c.item_at-item.ensures c.is_vettable.result
    c.is_vettable.ensures (not-true _ c.if-not-is_vettable.true-raw)

pub loop-p-smaller : goal.loop-p-smaller
loop-p-smaller c =
    let args = c.args in
    let later = goes_later args.format.now c.loop-p.p c.place_after-p.result c.item_at-item.result c.loop-p-test.true
    c.item_at-item.ensures c.place_after-p.ensures in
    omega arith

pub loop-p-preserved : goal.loop-p-preserved
loop-p-preserved c =
    vettable_more c.loop-p.invariant c.item_at-item.result c.loop-p-test.true c.item_at-item.ensures c.is_vettable.result
    c.is_vettable.ensures (not-false _ c.if-not-is_vettable.false-raw) c.place_after-p.result c.place_after-p.ensures

pub returns : goal.returns
returns c = vettable_done c.loop-p.invariant c.loop-p-test.false
