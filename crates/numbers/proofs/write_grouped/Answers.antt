-- `numbers::write_grouped` meets its contract. What is written, with what the digits that are left give, is the whole.
-- Assumes nothing.
use mathlib.Core.Path.{sym, ◌∙◌}
use native.Mathlib.Omega.{arith}
use lib.ListN.{length-set}
use Rattle.numbers.proofs.Grouping.{group_none, group_all, digit_room, comma_room, group_plain, group_split}
use Rattle.numbers.proofs.write_grouped.Goals as goal
use Rattle.numbers.proofs.write_grouped.Goals.{then-is_split, else-is_split}

pub loop-i-init : goal.loop-i-init
loop-i-init c = group_none _ _ _ _ c.requires.out_len

pub bounds-out-to : goal.bounds-out-to
bounds-out-to c = digit_room c.loop-i.invariant c.loop-i-test.true

pub overflow_add-to : goal.overflow_add-to
overflow_add-to c = omega (arith, digit_room c.loop-i.invariant c.loop-i-test.true)

pub bounds-out-to-then-is_split : goal.bounds-out-to-then-is_split
bounds-out-to-then-is_split c = comma_room c.loop-i.invariant c.loop-i-test.true (sym c.is_split.ensures ∙ c.if-is_split.true)

pub overflow_add-to-then-is_split : goal.overflow_add-to-then-is_split
overflow_add-to-then-is_split c = omega (arith, simp length-set at (comma_room c.loop-i.invariant c.loop-i-test.true (sym c.is_split.ensures ∙ c.if-is_split.true)))

pub loop-i-preserved : goal.loop-i-preserved
loop-i-preserved c =
    elim c.if-is_split.branch [
      | then-is_split w ↦
          rw (w.out-is, w.to-is) (group_split c.loop-i.invariant c.loop-i-test.true (sym c.is_split.ensures ∙ w.if-is_split.true))
      | else-is_split w ↦
          rw (w.out-is, w.to-is) (group_plain c.loop-i.invariant c.loop-i-test.true (sym c.is_split.ensures ∙ w.if-is_split.false))
    ]

pub returns : goal.returns
returns c = group_all c.loop-i.invariant (omega arith)
