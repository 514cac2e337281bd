-- `reader::directive::read_code` meets its contract. The loop's invariant: reading from start on is reading on at i
-- with the modifiers that are seen. Assumes nothing.
use Rattle.std.proofs.Common.{◌≡◌, false, not, sym, ◌∙◌, arith, get_or, eqb, eq-eqb}
use Rattle.rules.proofs.Reading.{scan_end}
use Rattle.rules.specs.Choice.{both}
use Rattle.rules.specs.Directive.{modifiers}
use Rattle.reader.proofs.ScanLaws.{no_modifier, seen_modifier, colon_on, at_on, code_ends}
use Rattle.reader.proofs.directive.read_code.Goals as goal
use Rattle.reader.proofs.directive.read_code.Goals.{in-58, in-64}

pub loop-i-preserved : goal.loop-i-preserved
loop-i-preserved c =
    let t = c.args.text.now in
    let i = c.loop-i.i in
    elim c.match-text-i.branch [
      | in-58 w ↦ let colon : c.loop-i.colon ≡ false = cc in (
        c.loop-i.invariant.0
            ∙ rw (w.colon-is, w.atsign-is)
            (colon_on t i c.loop-i.colon c.loop-i.atsign c.args.ps c.loop-i-test.true
            (rw (eq-eqb (get_or t i 0) 58 w.in-58.is, colon))),
        omega arith,
      )
      | in-64 w ↦ let atsign : c.loop-i.atsign ≡ false = cc in (
        c.loop-i.invariant.0
            ∙ rw (w.colon-is, w.atsign-is)
            (at_on t i c.loop-i.colon c.loop-i.atsign c.args.ps c.loop-i-test.true
            (no_modifier _ _ _ (λ z. omega (arith, z, w.in-64.is)))
            (rw (eq-eqb (get_or t i 0) 64 w.in-64.is, atsign))),
        omega arith,
      )
    ]

pub returns-in_default : goal.returns-in_default
returns-in_default c =
    let t = c.args.text.now in
    let i = c.loop-i.i in
    let e : both (eqb (get_or t i 0) 58) (not c.loop-i.colon) ≡ false = grind (arith, no_modifier, seen_modifier) in
    let f : both (eqb (get_or t i 0) 64) (not c.loop-i.atsign) ≡ false = grind (arith, no_modifier, seen_modifier) in
    sym (c.loop-i.invariant.0 ∙ code_ends t i c.loop-i.colon c.loop-i.atsign c.args.ps c.loop-i-test.true e f
    c.code_of.result c.code_of.ensures c.after_code.result c.after_code.ensures.0)

pub returns : goal.returns
returns c =
    sym (c.loop-i.invariant.0
    ∙ scan_end c.args.text.now c.loop-i.i modifiers _ c.loop-i-test.false)
