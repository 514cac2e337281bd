-- `actions::direct::put_decimal` meets its contract: padding, the sign and the digits, or a refusal for want of room.
-- Assumes nothing.
use Rattle.rules.specs.declared.refusal.Refusal.TheVariants.{NoRoom}
use Prim.Native.Nat.{ℕ, ◌+◌, ◌-◌}
use mathlib.Core.Path.{◌≡◌, ap, ◌∙◌}
use mathlib.Core.Bool.{false}
use mathlib.Core.List.{List, ◌++◌}
use native.Mathlib.Omega.{arith}
use borrow.Rule.Slice.PartMut.{put_mid}
use lib.IntN.{ℤ}
use lib.ListN.{length, replicate}
use mir.Syntax.{w64}
use mir.ValLaws.{to_z-of_z}
use Rattle.rules.specs.Number.{digits_of, magnitude_of, sign_of, pad_left}
use Rattle.actions.proofs.Buffer.{Put}
use Rattle.actions.proofs.DirectLaws.{direct_put, direct_full, sign_put, sign_none, Counted, counted, decimal_length, pad_put, signed_put, decimal_put}
use Rattle.actions.proofs.ActLaws.{untouched_on, untouched_refused}
use Rattle.actions.proofs.direct.put_decimal.Goals as goal
use Rattle.actions.proofs.direct.put_decimal.Goals.{After-max-n, Joined-first-digits, then-first-digits, else-first-digits}

-- the magnitude, and the sizes
counted_at : (c : After-max-n)
    → Counted c.args.width c.args.x c.count_decimal-count.result c.sign_size.result c.max-n.result
counted_at c =
    let back = to_z-of_z w64 c.args.x c.ranges.x in
    counted (c.magnitude-m.ensures ∙ ap magnitude_of back) c.count_decimal-count.ensures.count
    (c.sign_size.ensures.size ∙ ap (λ (z : ℤ). length (sign_of false z)) back) c.max-n.ensures

-- what is put before the digits
so_far : (c : Joined-first-digits)
    → Counted c.args.width c.args.x c.count_decimal-count.result c.sign_size.result c.max-n.result
    → let a = c.args in
    let size = c.sign_size.result + c.count_decimal-count.result in
    Put a.out.now a.spot.at (replicate (a.width - size) a.pad ++ sign_of false a.x) c.if-first-digits.out
so_far c q =
    let a = c.args in
    let h = c.if-n-out.true in
    let to = a.spot.at + c.max-n.result in
    let count = c.count_decimal-count.result in
    let size = c.sign_size.result + count in
    let u = pad_put a.width a.pad q a.out.now a.spot.at c.requires h _ c.fill.ensures in
    signed_put a.width a.pad q a.out.now a.spot.at c.requires h u
    (elim c.if-first-digits.branch [
      | then-first-digits w ↦ sign_put a.x _ (to - size) (to - count) (omega (arith, q.signs, q.all)) (omega (arith, u.size)) w.if-first-digits.true w.out-is
      | else-first-digits w ↦ sign_none a.x _ (to - size) (to - count) (omega (arith, q.signs, q.all)) (omega (arith, u.size)) w.if-first-digits.false w.out-is
    ])

-- and with the digits
all : (c : Joined-first-digits)
    → Counted c.args.width c.args.x c.count_decimal-count.result c.sign_size.result c.max-n.result
    → (y : List ℕ) → y ≡ digits_of 10 c.magnitude-m.result → let a = c.args in
    let count = c.count_decimal-count.result in
    let to = a.spot.at + c.max-n.result in
    Put a.out.now a.spot.at (pad_left a.width a.pad (sign_of false a.x ++ digits_of 10 (magnitude_of a.x))) (put_mid (to - count) (to - (to - count)) c.if-first-digits.out y)
all c q y e =
    let a = c.args in
    let digits_are : c.magnitude-m.result ≡ magnitude_of a.x = c.magnitude-m.ensures ∙ ap magnitude_of (to_z-of_z w64 a.x c.ranges.x) in
    decimal_put a.width a.pad q a.out.now a.spot.at c.requires c.if-n-out.true y (so_far c q) (e ∙ ap (digits_of 10) digits_are)

pub overflow_add-size : goal.overflow_add-size
overflow_add-size c = omega (arith, c.sign_size.ensures.within, c.count_decimal-count.ensures.within.1)

pub slice_bounds-fill_decimal-end : goal.slice_bounds-fill_decimal-end
slice_bounds-fill_decimal-end c =
    omega (arith, (so_far c (counted_at (goal.at.slice_bounds-fill_decimal-end c).After-max-n)).size, c.if-n-out.true, c.requires)

pub shape_of-out-then-n-out : goal.shape_of-out-then-n-out
shape_of-out-then-n-out c =
    (all (goal.at.shape_of-out-then-n-out c).Joined-first-digits (counted_at (goal.at.shape_of-out-then-n-out c).After-max-n) _ c.fill_decimal.ensures).size

pub returns-then-n-out-clause-puts : goal.returns-then-n-out-clause-puts
returns-then-n-out-clause-puts c =
    let a = c.args in
    λ count k l. direct_put a.spot a.next.0 count c.max-n.result a.out.now _
    (decimal_length a.width a.pad (counted_at (goal.at.returns-then-n-out-clause-puts c).After-max-n)) _ c.go_on.ensures
    (all (goal.at.returns-then-n-out-clause-puts c).Joined-first-digits (counted_at (goal.at.returns-then-n-out-clause-puts c).After-max-n) _ c.fill_decimal.ensures) l

pub returns-then-n-out-clause-untouched : goal.returns-then-n-out-clause-untouched
returns-then-n-out-clause-untouched c =
    untouched_on _ c.go_on.ensures

pub returns-clause-puts : goal.returns-clause-puts
returns-clause-puts c =
    let a = c.args in
    λ count k l. direct_full a.spot a.next.0 count c.max-n.result a.out.now _
    (decimal_length a.width a.pad (counted_at (goal.at.returns-clause-puts c).After-max-n)) _ a.before.0 c.refuse.ensures c.requires c.if-n-out.false k

pub returns-clause-untouched : goal.returns-clause-untouched
returns-clause-untouched c =
    untouched_refused _ NoRoom c.refuse.ensures
