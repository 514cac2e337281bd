-- `vet_format` meets its contract: 12, 2 to 5, 11, or the count, and the answer of the definition keeps every promise.
-- Assumes nothing.
use mathlib.Core.Path.{sym, ◌∙◌}
use Rattle.std.proofs.lemmas.Result.{err_from_is_err_and}
use Rattle.vet_rules.proofs.Codes.{asked_of}
use Rattle.vet.proofs.Asks.{not_asked, not_read, not_vettable_lem, ran, keeps}
use Rattle.vet.proofs.vet_format.Goals as goal

pub returns-then-not-may_ask : goal.returns-then-not-may_ask
returns-then-not-may_ask c =
    let a = c.args in
    keeps a.format.now a.kinds.now a.longest (not_asked a.format.now a.kinds.now a.longest (sym c.if-not-may_ask.ensures))

pub returns-in_err-check_text : goal.returns-in_err-check_text
returns-in_err-check_text c =
    let a = c.args in
    let p = err_from_is_err_and c.from_residual.result c.from_residual.ensures.1 in
    rw (p.1, p.2)
    (keeps a.format.now a.kinds.now a.longest
    (not_read a.format.now a.kinds.now a.longest (sym c.if-not-may_ask.ensures) (sym c.in_err-check_text.ensures)))

pub returns-in_err-check_vettable : goal.returns-in_err-check_vettable
returns-in_err-check_vettable c =
    let a = c.args in
    let p = err_from_is_err_and c.from_residual-in_err-check_vettable.result c.from_residual-in_err-check_vettable.ensures.1 in
    rw (p.1, p.2)
    (keeps a.format.now a.kinds.now a.longest
    (not_vettable_lem a.format.now a.kinds.now a.longest (sym c.if-not-may_ask.ensures) (sym c.in_ok-check_text.ensures)
    (sym c.in_err-check_vettable.ensures)))

pub invariant_of-count_format : goal.invariant_of-count_format
invariant_of-count_format c = record { asked = asked_of c.args.kinds.now c.args.longest (sym c.if-not-may_ask.ensures) }

pub returns : goal.returns
returns c =
    let a = c.args in
    keeps a.format.now a.kinds.now a.longest
    (c.count_format.ensures ∙ ran a.format.now a.kinds.now a.longest (sym c.if-not-may_ask.ensures) (sym c.in_ok-check_text.ensures)
    (sym c.in_ok-check_vettable.ensures))
