-- A literal byte, by the steps, the bytes given and the room. Assumes nothing.
use Prim.Native.Nat.{◌+◌}
use native.Mathlib.Omega.{arith}
use Rattle.rules.specs.declared.Item.TheVariants.{Literal}
use Rattle.filling.proofs.StepLaws.{puts_none}
use Rattle.filling.proofs.PutLaws.{byte_given, byte_full, byte_put}
use Rattle.filling.proofs.giving.give_byte.Goals as goal

pub returns-then-here-eq0 : goal.returns-then-here-eq0
returns-then-here-eq0 c =
    let a = c.args in
    let p = a.progress in
    λ t table. puts_none t table (Literal a.byte) (p.here.place + 1) p.here p.given p.at a.window.now c.if-here-eq0.true c.refused.ensures c.requires.at_in_bounds

pub returns-then-given-gt0 : goal.returns-then-given-gt0
returns-then-given-gt0 c =
    let a = c.args in
    let p = a.progress in
    λ t table. byte_given a.byte p.here p.given p.at c.if-here-eq0.false t table c.if-given-gt0.true c.requires.at_in_bounds c.on.ensures

pub returns-then-window-at : goal.returns-then-window-at
returns-then-window-at c =
    let a = c.args in
    let p = a.progress in
    λ t table. byte_full a.byte p.here p.given p.at c.if-here-eq0.false t table (omega (arith, c.if-given-gt0.false)) c.requires.at_in_bounds c.if-window-at.true c.full.ensures

pub returns : goal.returns
returns c =
    let a = c.args in
    let p = a.progress in
    λ t table. byte_put a.byte p.here p.given p.at c.if-here-eq0.false t table (omega (arith, c.if-given-gt0.false)) (omega (arith, c.if-window-at.false)) c.on-2.ensures
