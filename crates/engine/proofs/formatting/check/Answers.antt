-- What is refused is refused by the table or else by the text. Assumes nothing.
use Rattle.std.proofs.lemmas.Result.{err_from_is_err_and}
use Rattle.engine.proofs.WholeLaws.{table_faulty, table_right, text_checked}
use Rattle.engine.proofs.formatting.check.Goals as goal

pub returns-in_err-check_table : goal.returns-in_err-check_table
returns-in_err-check_table c =
    let a = c.args in
    let p = err_from_is_err_and c.from_residual.result c.from_residual.ensures.1 in
    rw (p.1, p.2) (table_faulty a.format.now a.table.now _ c.check_table.ensures c.in_err-check_table.was)

pub returns : goal.returns
returns c =
    let a = c.args in
    text_checked a.format.now a.table.now _ c.check_text.ensures (table_right a.table.now _ c.check_table.ensures c.in_ok-check_table.was)
