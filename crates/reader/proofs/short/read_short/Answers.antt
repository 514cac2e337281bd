-- `reader::short::read_short` meets its contract: what is read is what the definition reads. Assumes nothing.
use Rattle.std.proofs.Common.{arith, sym, ◌∙◌}
use Rattle.reader.proofs.ScanLaws.{byte_inside}
use Rattle.reader.proofs.ShortLaws.{none_read, none_led, short_read}
use Rattle.reader.proofs.short.read_short.Goals as goal

pub returns-then-byte_at-ne126 : goal.returns-then-byte_at-ne126
returns-then-byte_at-ne126 c = none_read c.args.text.now c.args.p (λ z. c.if-byte_at-ne126.true (c.byte_at.ensures ∙ z))

pub returns-in_err-first : goal.returns-in_err-first
returns-in_err-first c =
    let tilde = sym c.byte_at.ensures ∙ c.if-byte_at-ne126.false in
    rw c.from_residual.ensures (none_led c.args.text.now c.args.p tilde c.in_err-first.ensures.same)

pub returns : goal.returns
returns c =
    let tilde = sym c.byte_at.ensures ∙ c.if-byte_at-ne126.false in
    let lead = c.in_ok-first.ensures in
    short_read c.args.text.now c.args.p c.in_ok-first.first.number c.in_ok-first.first.after c.second_character-byte.result
    (byte_inside c.args.text.now c.args.p (λ z. omega (arith, z, tilde))) tilde lead.leads
    c.second_character-byte.ensures.0 c.second_character-byte.ensures.1 lead.same
    c.after_character.result c.after_character.ensures.0 c.short_of.result c.short_of.ensures
