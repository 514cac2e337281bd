-- `table::check_table` meets its contract: each refusal and the last answer, by CheckLaws. Assumes nothing.
use mathlib.Core.Path.{◌∙◌}
use native.Mathlib.Omega.{arith}
use Rattle.table.proofs.CheckLaws.{too_short, too_many, too_many_arguments, too_large, wrong_length, by_entries}
use Rattle.table.proofs.check_table.Goals as goal
use Rattle.table.proofs.check_table.Goals.{then-pool-gt-MOST_POOL-via-then-pool-gt-MOST_POOL, then-pool-gt-MOST_POOL-via-else-pool-gt-MOST_POOL+then-table-n}

pub returns-then-table-lt-HEADER : goal.returns-then-table-lt-HEADER
returns-then-table-lt-HEADER c = c.bad_table.ensures ∙ too_short _ c.if-table-lt-HEADER.true

pub returns-then-n-gt-MOST_ENTRIES : goal.returns-then-n-gt-MOST_ENTRIES
returns-then-n-gt-MOST_ENTRIES c =
    c.bad_table-then-n-gt-MOST_ENTRIES.ensures ∙ too_many _ c.if-table-lt-HEADER.false (omega arith)

pub returns-then-n-argument_count : goal.returns-then-n-argument_count
returns-then-n-argument_count c =
    c.bad_table-then-n-argument_count.ensures ∙ too_many_arguments _ c.if-table-lt-HEADER.false (omega arith) (omega arith)

pub returns-then-pool-gt-MOST_POOL : goal.returns-then-pool-gt-MOST_POOL
returns-then-pool-gt-MOST_POOL c =
    c.bad_table-then-pool-gt-MOST_POOL.ensures
    ∙ elim c.then-pool-gt-MOST_POOL.branch [
      | then-pool-gt-MOST_POOL-via-then-pool-gt-MOST_POOL w ↦
          too_large _ c.if-table-lt-HEADER.false (omega arith) (omega arith) (omega arith)
      | then-pool-gt-MOST_POOL-via-else-pool-gt-MOST_POOL+then-table-n w ↦
          wrong_length _ c.if-table-lt-HEADER.false (omega arith) (omega arith) (omega arith) (λ e. w.if-table-n.true (omega arith))
    ]

pub returns : goal.returns
returns c =
    c.check_entries.ensures
    ∙ by_entries _ c.if-table-lt-HEADER.false (omega arith) (omega arith) (omega arith) _ _ c.entry_count-n.ensures.0 c.pool_length-pool.ensures.0 (omega arith)
