-- A fresh state: the text is refused, or it is run from its start. Assumes nothing.
use mathlib.Core.Path.{refl}
use Rattle.rules.proofs.TableLaws.{accepted_sound}
use Rattle.windows.proofs.ResumeLaws.{text_refused, start_stands, starts}
use Rattle.windows.proofs.resuming.start.Goals as goal

pub argument_count-requires : goal.argument_count-requires
argument_count-requires c = (accepted_sound c.args.table.now c.requires).header

pub run_on-requires : goal.run_on-requires
run_on-requires c = let a = c.args in start_stands a.format.now a.table.now c.argument_count.ensures.0 c.start_of-progress.ensures c.requires c.in-Ok.ensures refl

pub returns-in-Err : goal.returns-in-Err
returns-in-Err c = let a = c.args in text_refused a.format.now a.table.now c.in-Err.ensures refl c.refused.ensures

pub returns-in-Ok : goal.returns-in-Ok
returns-in-Ok c = let a = c.args in starts a.format.now a.table.now c.argument_count.ensures.0 c.start_of-progress.ensures c.in-Ok.ensures refl c.run_on.ensures
