-- `reader::directive::read_number` meets its contract. The loop's invariant: reading the number from start on is
-- reading on at i, in a number that is so far n. Assumes nothing.
use mathlib.Core.Path.{sym}
use native.Mathlib.Omega.{arith}
use Rattle.reader.proofs.ScanLaws.{number_whole, digit_least, test_inside}
use Rattle.reader.proofs.ScanLaws.{number_none, zeros_first, number_more, number_out}
use Rattle.reader.proofs.directive.read_number.Goals as goal

pub loop-n-init : goal.loop-n-init
loop-n-init c =
    zeros_first c.args.text.now c.args.start c.args.minus c.after_zeros-i.result
    c.after_zeros-i.ensures.0 c.after_zeros-i.ensures.1

pub bounds-text-i : goal.bounds-text-i
bounds-text-i c =
    test_inside c.args.text.now c.loop-n.i _
    (sym c.loop-n-test.ensures)

pub overflow_sub-text : goal.overflow_sub-text
overflow_sub-text c =
    omega (
      arith,
      digit_least c.args.text.now c.loop-n.i
          (sym c.loop-n-test.ensures),
    )

pub overflow_add-n : goal.overflow_add-n
overflow_add-n c = omega (arith, c.from.type_inv, c.loop-n.invariant.small)

pub returns-then-most-n : goal.returns-then-most-n
returns-then-most-n c =
    number_out c.loop-n.invariant c.from.result c.greatest-most.result
    (sym c.loop-n-test.ensures)
    c.from.ensures c.greatest-most.ensures c.if-most-n.true

pub overflow_add-i : goal.overflow_add-i
overflow_add-i c =
    omega (
      arith,
      test_inside c.args.text.now c.loop-n.i _
          (sym c.loop-n-test.ensures),
    )

pub loop-n-smaller : goal.loop-n-smaller
loop-n-smaller c =
    omega (
      arith,
      test_inside c.args.text.now c.loop-n.i _
          (sym c.loop-n-test.ensures),
    )

pub loop-n-preserved : goal.loop-n-preserved
loop-n-preserved c =
    number_more c.loop-n.invariant c.from.result c.greatest-most.result
    (sym c.loop-n-test.ensures)
    c.from.ensures c.greatest-most.ensures c.if-most-n.false

pub returns-then-i-start : goal.returns-then-i-start
returns-then-i-start c = number_none c.loop-n.invariant (sym c.loop-n-test.ensures) c.if-i-start.true

pub returns : goal.returns
returns c = number_whole c.loop-n.invariant (sym c.loop-n-test.ensures) c.if-i-start.false
