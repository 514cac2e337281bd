-- `reader::directive::after_zeros` meets its contract. Assumes nothing.
use Rattle.std.proofs.Common.{arith, rules, sym}
use Rattle.reader.specs.Spans.{is_zero}
use Rattle.reader.proofs.ScanLaws.{zeros_inside}
use Rattle.reader.proofs.directive.after_zeros.Goals as goal

pub after_strides-requires-clause-within : goal.after_strides-requires-clause-within
after_strides-requires-clause-within c =
    omega (arith, zeros_inside c.args.text.now c.args.start (sym c.if-zeros_at.ensures))

pub returns-then-zeros_at : goal.returns-then-zeros_at
returns-then-zeros_at c =
    let along = (c.after_strides.ensures is_zero (λ b y h e. search rules)).along in
    (along.on, omega (arith, along.same))
