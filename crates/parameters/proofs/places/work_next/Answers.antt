-- `work_next` meets its contract: no argument is left, or the next one is worked out. Assumes nothing.
use native.Mathlib.Omega.{arith}
use Rattle.parameters.proofs.WorkLaws.{hand_small, none_left, next_works}
use Rattle.parameters.proofs.places.work_next.Goals as goal

pub returns-then-hand-next : goal.returns-then-hand-next
returns-then-hand-next c = none_left c.if-hand-next.true

pub following-requires : goal.following-requires
following-requires c = omega (arith, hand_small c.requires.in_hand, c.if-hand-next.false)

pub returns : goal.returns
returns c = next_works c.argument_at.result c.if-hand-next.false c.argument_at.ensures.value c.following.ensures (c.value_in.ensures.is c.args.table.now) c.value_in.ensures.lies
