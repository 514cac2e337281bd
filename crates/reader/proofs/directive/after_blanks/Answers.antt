-- `reader::directive::after_blanks` meets its contract. Assumes nothing.
use Rattle.std.proofs.Common.{◌≡◌, ◌-◌, ◌∙◌, ap, arith, length, take, drop, length-drop}
use Rattle.std.proofs.Math.Seq.{take-length}
use Rattle.std.specs.List.{take_while}
use Rattle.rules.specs.Directive.{is_blank}
use Rattle.reader.proofs.SpanLaws.{span_blanks, span_most, blanks_taken}
use Rattle.reader.proofs.directive.after_blanks.Goals as goal

pub returns : goal.returns
returns c =
    let t = c.args.text.now in
    let i = c.after_blank_strides-i.result in
    let bs = drop i t in
    let all : take (length t - i) bs ≡ bs = rw length-drop at (take-length bs) in
    let n = c.count_blanks.ensures ∙ ap (λ xs. length (take_while is_blank xs)) all ∙ blanks_taken bs in
    let most = span_most is_blank bs in (
      omega (arith, n, c.after_blank_strides-i.ensures.same, span_blanks (drop c.args.start t)),
      omega (arith, n, most, length-drop i t, c.after_blank_strides-i.ensures.within),
    )
