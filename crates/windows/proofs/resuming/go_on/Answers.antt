-- What is left of a string, and then the run. Assumes nothing.
use Rattle.windows.proofs.ResumeLaws.{cuts, stands_behind, goes_on_lem}
use Rattle.windows.proofs.StateLaws.{in_range_lem}
use Rattle.windows.proofs.resuming.go_on.Goals as goal

pub write_rest-w-requires-clause-rest_in : goal.write_rest-w-requires-clause-rest_in
write_rest-w-requires-clause-rest_in c =
    let a = c.args in
    (in_range_lem a.format.now a.table.now a.s c.requires.s_value).1

pub returns-then-w-ne0 : goal.returns-then-w-ne0
returns-then-w-ne0 c = let a = c.args in cuts a.format.now a.table.now a.s c.requires.table_value c.requires.s_value c.here_of.ensures c.write_rest-w.ensures c.if-w-ne0.true c.begun.ensures

pub run_on-requires : goal.run_on-requires
run_on-requires c = let a = c.args in stands_behind a.format.now a.table.now a.s c.requires.table_value c.requires.s_value c.here_of.ensures c.write_rest-w.ensures

pub returns : goal.returns
returns c = let a = c.args in goes_on_lem a.format.now a.table.now a.s c.requires.table_value c.requires.s_value c.here_of.ensures c.write_rest-w.ensures c.if-w-ne0.false c.run_on.ensures
