-- A call promises what `Resumes` says, whatever its bytes and its state. Assumes nothing.
use mathlib.Core.Path.{refl, sym}
use native.Mathlib.Omega.{arith}
use Rattle.windows.proofs.ResumeLaws.{after_end, idle, table_refused, fresh_state, begun_state_lem}
use Rattle.windows.proofs.resuming.resume.Goals as goal

pub returns-then-state-ge-ENDED : goal.returns-then-state-ge-ENDED
returns-then-state-ge-ENDED c = let a = c.args in after_end a.format.now a.table.now a.state c.if-state-ge-ENDED.true

pub returns-then-no_room : goal.returns-then-no_room
returns-then-no_room c = let a = c.args in idle a.format.now a.table.now a.state (omega (arith, c.if-state-ge-ENDED.false)) c.if-no_room.true c.more.ensures

pub pick_up-requires : goal.pick_up-requires
pick_up-requires c = sym c.in-Ok.ensures

pub returns-then-state-eq-BEGUN : goal.returns-then-state-eq-BEGUN
returns-then-state-eq-BEGUN c = let a = c.args in begun_state_lem a.format.now a.table.now a.state (omega (arith, c.if-state-ge-ENDED.false)) c.if-no_room.false c.in-Ok.ensures refl c.if-state-eq-BEGUN.true c.pick_up.ensures

pub start-requires : goal.start-requires
start-requires c = sym c.in-Ok.ensures

pub returns-in-Err : goal.returns-in-Err
returns-in-Err c = let a = c.args in table_refused a.format.now a.table.now a.state (omega (arith, c.if-state-ge-ENDED.false)) c.if-no_room.false c.in-Err.ensures refl c.refused.ensures

pub returns-else-state-eq-BEGUN : goal.returns-else-state-eq-BEGUN
returns-else-state-eq-BEGUN c = let a = c.args in fresh_state a.format.now a.table.now a.state (omega (arith, c.if-state-ge-ENDED.false)) c.if-no_room.false c.in-Ok.ensures refl c.if-state-eq-BEGUN.false c.start.ensures
