-- A short directive acts as 01 has it. Assumes nothing.
use Rattle.std.proofs.Common.{rules}
use Rattle.reader.specs.Shorts.{brief_of, short_form, short_directive}
use mathlib.Core.Path.{◌≡◌, refl, sym, ap, ◌∙◌}
use Rattle.reader.specs.declared.short.Kind.{Kind}
use Rattle.reader.specs.declared.short.Kind.TheVariants.{Repeat}
use Rattle.parameters.specs.Settling.{hand_at}
use Rattle.stepping.specs.Stepping.{short_settings}
use Rattle.rules.specs.Table.{view_of}
use Rattle.actions.proofs.ActLaws.{performed_stays}
use Rattle.actions.proofs.DirectLaws.{run_written}
use Rattle.stepping.proofs.ItemLaws.{acts_none}
use Rattle.stepping.proofs.ShortRuns.{or_else_is, writes_as, short_begun}
use Rattle.stepping.proofs.short.act_short.Goals as goal

pub returns-then-stand-eq0-clause-steps : goal.returns-then-stand-eq0-clause-steps
returns-then-stand-eq0-clause-steps c =
    let a = c.args in
    λ s n level here e _. acts_none s n (view_of a.table.now) a.stand.hand.first.0 a.stand.hand.count level here a.stand.next.0 a.stand.left a.stand.at a.out.now e _ c.if-stand-eq0.true c.refuse.ensures c.requires.stands.written c.requires.stands.reaches

pub returns-then-eq-clause-steps : goal.returns-then-eq-clause-steps
returns-then-eq-clause-steps c =
    let a = c.args in
    let st = short_settings a.short.number a.short.byte in
    let y : a.short.kind ≡ Repeat = search rules in
    λ s n level here e h. short_begun s n (view_of a.table.now) a.stand.hand.first.0 a.stand.hand.count level here a.stand.next.0 a.stand.left a.stand.at a.out.now (brief_of a.short.kind a.short.detail) a.short.number a.short.byte c.requires.short_in e h c.if-stand-eq0.false _ c.begin-spot.ensures (λ d q w. writes_as (view_of a.table.now) (hand_at a.stand.hand 0) a.stand.next.0 a.stand.hand.count _ d _ _ _ {x = a.short.number} {y = a.short.byte} (ap (λ (k : Kind). short_form k a.short.detail) (sym y)) refl refl (run_written a.table.now a.stand.hand st _ a.stand.next.0 d a.short.detail _ (c.unwrap_or-times.ensures ∙ or_else_is a.short.number 1) (c.put_run.ensures.puts a.stand.hand.count c.requires.stands.reaches)))

pub returns-then-eq-clause-stays : goal.returns-then-eq-clause-stays
returns-then-eq-clause-stays c = performed_stays (c.put_run.ensures.puts c.args.stand.hand.count c.requires.stands.reaches)

pub returns-clause-steps : goal.returns-clause-steps
returns-clause-steps c =
    let a = c.args in
    λ s n level here e h. short_begun s n (view_of a.table.now) a.stand.hand.first.0 a.stand.hand.count level here a.stand.next.0 a.stand.left a.stand.at a.out.now (brief_of a.short.kind a.short.detail) a.short.number a.short.byte c.requires.short_in e h c.if-stand-eq0.false _ c.begin-spot.ensures c.write_argument.ensures.writes

pub returns-clause-stays : goal.returns-clause-stays
returns-clause-stays c =
    let a = c.args in
    performed_stays (c.write_argument.ensures.writes (short_directive (short_form a.short.kind a.short.detail) a.short.number a.short.byte a.short.after) refl refl)
