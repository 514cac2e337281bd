-- `settle_each` meets its contract: each way out is a law of SettleLaws. Assumes nothing.
use Rattle.std.proofs.Common.{rules}
use Rattle.parameters.proofs.SettleLaws.{first_wrong, second_wrong, third_wrong, fourth_wrong, fifth_wrong, five_settled}
use Rattle.parameters.proofs.settling.settle_each.Goals as goal

pub returns-in_err-first : goal.returns-in_err-first
returns-in_err-first c = search (rules, first_wrong {ys = c.args.places} {ps = c.args.ps} c.work_out.ensures c.in_err-first.was)

pub returns-in_err-second : goal.returns-in_err-second
returns-in_err-second c = search (rules, second_wrong {ys = c.args.places} {ps = c.args.ps} c.work_out.ensures c.in_ok-first.was c.work_out-2.ensures c.in_err-second.was)

pub returns-in_err-third : goal.returns-in_err-third
returns-in_err-third c = search (rules, third_wrong {ys = c.args.places} {ps = c.args.ps} c.work_out.ensures c.in_ok-first.was c.work_out-2.ensures c.in_ok-second.was c.work_out-3.ensures c.in_err-third.was)

pub returns-in_err-fourth : goal.returns-in_err-fourth
returns-in_err-fourth c = search (rules, fourth_wrong {ys = c.args.places} {ps = c.args.ps} c.work_out.ensures c.in_ok-first.was c.work_out-2.ensures c.in_ok-second.was c.work_out-3.ensures c.in_ok-third.was c.work_out-4.ensures c.in_err-fourth.was)

pub returns-in_err-fifth : goal.returns-in_err-fifth
returns-in_err-fifth c = search (rules, fifth_wrong {ys = c.args.places} {ps = c.args.ps} c.work_out.ensures c.in_ok-first.was c.work_out-2.ensures c.in_ok-second.was c.work_out-3.ensures c.in_ok-third.was c.work_out-4.ensures c.in_ok-fourth.was c.work_out-5.ensures c.in_err-fifth.was)

pub returns : goal.returns
returns c = five_settled c.work_out.ensures c.in_ok-first.was c.work_out-2.ensures c.in_ok-second.was c.work_out-3.ensures c.in_ok-third.was c.work_out-4.ensures c.in_ok-fourth.was c.work_out-5.ensures c.in_ok-fifth.was
