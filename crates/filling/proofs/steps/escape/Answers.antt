-- An escape: it leaves the innermost iteration where no argument remains. Assumes nothing.
use native.Mathlib.Omega.{arith}
use Rattle.rules.proofs.TextLaws.{next_inside}
use Rattle.running.proofs.Places.{escape_at}
use Rattle.filling.proofs.AheadLaws.{escape_none, escape_sound, escape_leaves, escape_stays}
use Rattle.filling.proofs.steps.escape.Goals as goal

pub returns-then-here-eq0 : goal.returns-then-here-eq0
returns-then-here-eq0 c =
    let a = c.args in
    escape_none a.inputs.text.now a.inputs.table.now a.here a.nest a.d.after (escape_at a.inputs.text.now a.here.place a.d c.requires.place_value c.requires.code_value) c.if-here-eq0.true c.refused.ensures

pub leave-requires-clause-sound : goal.leave-requires-clause-sound
leave-requires-clause-sound c =
    let a = c.args in
    escape_sound a.inputs.text.now a.inputs.table.now a.here a.nest a.d.after (escape_at a.inputs.text.now a.here.place a.d c.requires.place_value c.requires.code_value) c.if-here-eq0.false c.requires.sound (next_inside a.inputs.text.now a.here.place a.d c.requires.place_value).most

pub returns-then-here : goal.returns-then-here
returns-then-here c =
    let a = c.args in
    escape_leaves a.inputs.text.now a.inputs.table.now a.here a.nest a.d.after (escape_at a.inputs.text.now a.here.place a.d c.requires.place_value c.requires.code_value) c.if-here-eq0.false c.if-here.true c.leave.ensures

pub returns : goal.returns
returns c =
    let a = c.args in
    escape_stays a.inputs.text.now a.inputs.table.now a.here a.nest a.d.after (escape_at a.inputs.text.now a.here.place a.d c.requires.place_value c.requires.code_value) c.if-here-eq0.false (omega (arith, c.if-here.false)) c.requires.sound (next_inside a.inputs.text.now a.here.place a.d c.requires.place_value).most c.on.ensures
