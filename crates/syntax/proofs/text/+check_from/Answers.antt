-- `check_from` meets its contract. The room for blocks falls at each call of itself. The invariant: what is found from
-- here on is what is found from the start, whatever opens the block and whatever other blocks are open; each arm is a law
-- of `CheckLaws`. The measure of the loop is what is left of the text. Assumes nothing.
use mathlib.Core.Path.{ap, ◌∙◌}
use native.Mathlib.Omega.{arith}
use Rattle.std.proofs.Common.{rules, Ok}
use Rattle.syntax.proofs.CheckLaws.{check_start, check_wrong, check_ends, stays_inside, check_stays, parts_inside, check_parts, check_leaves, check_room, check_failed, check_ended, closed_inside, check_closed}
use Rattle.syntax.proofs.text.+check_from.Goals as goal

pub loop-after-init : goal.loop-after-init
loop-after-init t c = check_start c.args.text.now c.args.start c.args.room c.args.around c.args.opened

pub returns-in_err-meet : goal.returns-in_err-meet
returns-in_err-meet t c = search (rules, check_wrong c.loop-after.invariant c.skip_short-p.ensures.over c.in_err-meet.ensures)

pub returns-in-Ends : goal.returns-in-Ends
returns-in-Ends t c = check_ends c.loop-after.invariant c.skip_short-p.ensures.over c.in_ok-meet.ensures c.in-Ends.is

pub loop-after-smaller-in-Stays : goal.loop-after-smaller-in-Stays
loop-after-smaller-in-Stays t c = omega (arith, c.skip_short-p.ensures.over.least, stays_inside c.loop-after.invariant c.skip_short-p.ensures.over c.in_ok-meet.ensures c.in-Stays.is)

pub loop-after-preserved-in-Stays : goal.loop-after-preserved-in-Stays
loop-after-preserved-in-Stays t c = check_stays c.loop-after.invariant c.skip_short-p.ensures.over c.in_ok-meet.ensures c.in-Stays.is

pub overflow_add-separators : goal.overflow_add-separators
overflow_add-separators t c = omega (arith, parts_inside c.loop-after.invariant c.skip_short-p.ensures.over c.in_ok-meet.ensures c.in-Parts.is, c.loop-after.invariant.few, c.skip_short-p.ensures.over.least, c.well_formed)

pub loop-after-smaller-in-Parts : goal.loop-after-smaller-in-Parts
loop-after-smaller-in-Parts t c = omega (arith, c.skip_short-p.ensures.over.least, parts_inside c.loop-after.invariant c.skip_short-p.ensures.over c.in_ok-meet.ensures c.in-Parts.is)

pub loop-after-preserved-in-Parts : goal.loop-after-preserved-in-Parts
loop-after-preserved-in-Parts t c = check_parts c.loop-after.invariant c.skip_short-p.ensures.over c.in_ok-meet.ensures c.in-Parts.is

pub returns-in-Leaves : goal.returns-in-Leaves
returns-in-Leaves t c = check_leaves c.loop-after.invariant c.skip_short-p.ensures.over c.in_ok-meet.ensures c.in-Leaves.is

pub overflow_sub-room : goal.overflow_sub-room
overflow_sub-room t c = omega (arith, check_room c.loop-after.invariant c.skip_short-p.ensures.over c.in_ok-meet.ensures c.in-Enters.is)

pub check_from-requires : goal.check_from-requires
check_from-requires t c = (omega (arith, check_room c.loop-after.invariant c.skip_short-p.ensures.over c.in_ok-meet.ensures c.in-Enters.is, c.decreases), tt)

pub returns-in_err-q-in-Enters : goal.returns-in_err-q-in-Enters
returns-in_err-q-in-Enters t c = search (rules, check_failed c.loop-after.invariant c.skip_short-p.ensures.over c.in_ok-meet.ensures c.in-Enters.is c.check_from.ensures c.in_err-q-in-Enters.was)

pub loop-after-smaller : goal.loop-after-smaller
loop-after-smaller t c = omega (arith, c.skip_short-p.ensures.over.least, closed_inside c.loop-after.invariant c.skip_short-p.ensures.over c.in_ok-meet.ensures c.in-Enters.is c.check_from.ensures (c.in_ok-q-in-Enters.was ∙ ap Ok c.in-Some.is))

pub loop-after-preserved : goal.loop-after-preserved
loop-after-preserved t c = check_closed c.loop-after.invariant c.skip_short-p.ensures.over c.in_ok-meet.ensures c.in-Enters.is c.check_from.ensures (c.in_ok-q-in-Enters.was ∙ ap Ok c.in-Some.is)

pub returns-in-None : goal.returns-in-None
returns-in-None t c = check_ended c.loop-after.invariant c.skip_short-p.ensures.over c.in_ok-meet.ensures c.in-Enters.is c.check_from.ensures (c.in_ok-q-in-Enters.was ∙ ap Ok c.in-None.is)
