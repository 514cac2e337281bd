-- A state that is begun: out of range, or what it means. Assumes nothing.
use Rattle.rules.proofs.TableLaws.{accepted_sound}
use mathlib.Core.Path.{sym, ◌∙◌}
use Rattle.windows.proofs.ResumeLaws.{picks_none, picks_up}
use Rattle.windows.proofs.resuming.pick_up.Goals as goal

pub is_sound-requires : goal.is_sound-requires
is_sound-requires c = (accepted_sound c.args.table.now c.requires).header

pub go_on-requires-clause-s_value : goal.go_on-requires-clause-s_value
go_on-requires-clause-s_value c = sym c.is_sound.ensures ∙ c.if-is_sound.true

pub returns-then-is_sound : goal.returns-then-is_sound
returns-then-is_sound c = let a = c.args in picks_up a.format.now a.table.now a.s c.is_sound.ensures c.if-is_sound.true c.go_on.ensures

pub returns : goal.returns
returns c = let a = c.args in picks_none a.format.now a.table.now a.s c.is_sound.ensures c.if-is_sound.false (rw c.code.ensures at c.ended.ensures)
