-- `write_argument` meets its contract: what goes straight into the buffer is what the definition writes. Assumes nothing.
use Rattle.rules.specs.declared.refusal.Refusal.TheVariants.{NoArgument}
use mir.ValLaws.{to_z-of_z}
use mir.Syntax.{w64}
use Rattle.std.proofs.Common.{rules}
use Rattle.parameters.specs.Settling.{hand_at}
use Rattle.actions.proofs.ActLaws.{performed_refused}
use Rattle.rules.specs.Table.{view_of}
use Rattle.stepping.specs.Stepping.{short_settings}
use native.Mathlib.Omega.{arith}
use Rattle.actions.proofs.DirectLaws.{text_written, decimal_written, string_held}
use Rattle.stepping.proofs.ShortRuns.{writes_as, own_none, none_absent, or_else_is}
use mathlib.Core.Path.{◌≡◌, refl, sym, ap, subst, ◌∙◌}
use Rattle.reader.specs.Shorts.{ShortIn, brief_of, short_form}
use Rattle.reader.specs.declared.short.Kind.{Kind}
use Rattle.reader.specs.declared.short.Kind.TheVariants.{Object, Numeral}
use Rattle.stepping.proofs.short.write_argument.Goals as goal

pub returns-then-hand-i-clause-writes : goal.returns-then-hand-i-clause-writes
returns-then-hand-i-clause-writes c =
    let a = c.args in
    let s = short_settings a.short.number a.short.byte in
    λ d q w. performed_refused _ NoArgument a.i.0 c.refuse.ensures (λ on. own_none (view_of a.table.now) (hand_at a.hand 0) a.i.0 a.spot.position a.spot.left a.short.kind a.short.detail s d on c.requires.takes c.if-hand-i.true) c.requires.at_in_bounds c.requires.i_le_count

pub returns-in-Text-clause-writes : goal.returns-in-Text-clause-writes
returns-in-Text-clause-writes c =
    let a = c.args in
    let s = short_settings a.short.number a.short.byte in
    let x = c.in-Text.is in
    let l = c.if-hand-i.false in
    let y : a.short.kind ≡ Object = search rules in
    let e = ap (λ (k : Kind). short_form k a.short.detail) y ∙ ap (short_form Object) c.if-short-eq0.true in
    let suits = subst (λ (k : Kind). ShortIn (brief_of k a.short.detail) a.short.number a.short.byte) y c.requires.short_in in
    λ d q w. writes_as (view_of a.table.now) (hand_at a.hand 0) a.i.0 a.hand.count a.spot d _ _ _ {x = a.short.number} {y = a.short.byte} (sym e) refl refl (text_written a.table.now a.hand s a.spot a.i.0 d c.argument_at.result l c.argument_at.ensures.value _ _ c.unwrap_or-width.result x (string_held x c.argument_at.ensures.entry) w (none_absent a.short.byte suits.1) refl refl (c.unwrap_or-width.ensures ∙ or_else_is a.short.number 0) (c.put_text.ensures.puts a.hand.count (omega (arith, l)) (omega (arith, l))))

pub returns-in-Integer-clause-writes : goal.returns-in-Integer-clause-writes
returns-in-Integer-clause-writes c =
    let a = c.args in
    let s = short_settings a.short.number a.short.byte in
    let l = c.if-hand-i.false in
    let y : a.short.kind ≡ Numeral = search rules in
    let e = ap (λ (k : Kind). short_form k a.short.detail) y ∙ ap (short_form Numeral) c.if-short-eq10.true in
    let back = to_z-of_z w64 c.in-Integer.x (search rules) in
    λ d q w. writes_as (view_of a.table.now) (hand_at a.hand 0) a.i.0 a.hand.count a.spot d _ _ _ {x = a.short.number} {y = a.short.byte} (sym e) refl refl (decimal_written a.table.now a.hand s a.spot a.i.0 d c.argument_at.result l c.argument_at.ensures.value _ _ c.unwrap_or-width.result c.unwrap_or.result c.in-Integer.is back q w (c.unwrap_or-width.ensures ∙ or_else_is a.short.number 0) (c.unwrap_or.ensures ∙ or_else_is a.short.byte 32) (c.put_decimal.ensures.puts a.hand.count (omega (arith, l)) (omega (arith, l))))
