-- A jump: it goes on with another argument, or is refused. Assumes nothing.
use mathlib.Core.Path.{refl}
use mathlib.Core.List.{[]}
use native.Mathlib.Omega.{arith}
use Rattle.rules.specs.declared.Item.TheVariants.{Written}
use Rattle.filling.proofs.StepLaws.{puts_none}
use Rattle.filling.proofs.PutLaws.{jump_on, jump_refused}
use borrow.Enum.Refused.{opened}
use Rattle.filling.proofs.steps.jump.Goals as goal

pub returns-then-here-eq0 : goal.returns-then-here-eq0
returns-then-here-eq0 c =
    let a = c.args in
    λ t b l. puts_none t a.table.now (Written a.d) a.d.after a.progress.here a.progress.given a.progress.at b c.if-here-eq0.true c.refused.ensures l

pub overflow_sub-spot : goal.overflow_sub-spot
overflow_sub-spot c = omega (arith, c.if-here-eq0.false)

pub returns-in-Refused : goal.returns-in-Refused
returns-in-Refused c =
    let a = c.args in
    λ t b l. jump_refused t a.table.now a.d a.progress.here a.progress.given a.progress.at c.if-here-eq0.false c.requires.code_value c.requires.in_hand (c.act_jump-r.ensures [] (omega arith)) c.in-Refused.is c.over.ensures l

pub returns-in_default : goal.returns-in_default
returns-in_default c =
    let a = c.args in
    λ t b l. jump_on t a.table.now a.d a.progress.here a.progress.given a.progress.at c.if-here-eq0.false c.requires.code_value c.requires.in_hand (c.act_jump-r.ensures [] (omega arith)) _ refl (opened c.in_default.in_default-own.keys2) c.on.ensures l
