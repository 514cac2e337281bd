-- `table::check_entries` meets its contract. The loop's invariant: the first bad entry from i on is the first of all.
-- Assumes nothing.
use mathlib.Core.Path.{sym, ◌∙◌}
use native.Mathlib.Omega.{arith}
use Rattle.table.proofs.CheckLaws.{right_next, wrong_here, none_left}
use Rattle.table.proofs.check_entries.Goals as goal

pub returns-then-not-entry_right : goal.returns-then-not-entry_right
returns-then-not-entry_right c =
    c.bad_table.ensures
    ∙ wrong_here _ _ _ _ c.loop-i-test.true c.loop-i.invariant (sym c.entry_right.ensures ∙ c.if-not-entry_right.true)

pub loop-i-preserved : goal.loop-i-preserved
loop-i-preserved c =
    right_next _ _ _ _ c.loop-i-test.true c.loop-i.invariant (sym c.entry_right.ensures ∙ c.if-not-entry_right.false)

pub returns : goal.returns
returns c = none_left _ _ _ _ (omega arith) c.loop-i.invariant
