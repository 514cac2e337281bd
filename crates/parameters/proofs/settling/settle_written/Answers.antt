-- `settle_written` meets its contract: each parameter is written out. Assumes nothing.
use Rattle.parameters.proofs.SettleLaws.{each_written, all_settled}
use Rattle.parameters.proofs.settling.settle_written.Goals as goal

pub written-requires : goal.written-requires
written-requires c = (each_written c.args.ps c.requires).first

pub written-requires-2 : goal.written-requires-2
written-requires-2 c = (each_written c.args.ps c.requires).second

pub written-requires-3 : goal.written-requires-3
written-requires-3 c = (each_written c.args.ps c.requires).third

pub written-requires-4 : goal.written-requires-4
written-requires-4 c = (each_written c.args.ps c.requires).fourth

pub written-requires-5 : goal.written-requires-5
written-requires-5 c = (each_written c.args.ps c.requires).fifth

pub returns : goal.returns
returns c = all_settled c.written.ensures c.written-2.ensures c.written-3.ensures c.written-4.ensures c.written-5.ensures
