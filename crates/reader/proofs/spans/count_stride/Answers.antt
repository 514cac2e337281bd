-- `reader::spans::count_stride` meets its contract. The loop's invariant: n of the bytes so far are of the class.
-- Assumes nothing.
use Rattle.std.proofs.Common.{◌≡◌, Bool, true, false, ◌+◌, ◌-◌, ◌<◌, ◌∙◌, refl, ap, arith, cond, get_or}
use Rattle.std.proofs.lemmas.List.{get_or-drop, get_or-take}
use mir.Val.{bool_byte}
use Rattle.reader.specs.Spans.{count_of}
use Rattle.reader.proofs.SpanLaws.{at_most_one, count_on}
use Rattle.reader.proofs.spans.count_stride.Goals as goal

one_if : (y : Bool) → bool_byte y ≡ cond y 1 0
one_if true = refl
one_if false = refl

pub loop-b-init : goal.loop-b-init
unfolding count_of
loop-b-init g c = record { few = omega arith; counted = λ f d. refl }

pub loop-b-preserved : goal.loop-b-preserved
loop-b-preserved g c =
    let t = c.args.text.now in
    let k = c.loop-b.b-index in
    let h : k < c.args.i + 16 - c.args.i = omega arith in
    let e : get_or _ k 0 ≡ get_or t (c.args.i + k) 0 =
    get_or-take (c.args.i + 16 - c.args.i) _ k 0 h ∙ get_or-drop c.args.i t k 0 in
    record {
      few = omega (arith, c.from-n.ensures ∙ one_if c.is_in.result, at_most_one c.is_in.result);
      counted = λ f d. count_on f t c.args.i c.loop-b.n k c.from-n.result c.is_in.result
          (c.loop-b.invariant.counted f d)
          (d _ c.is_in.result (omega (arith, e, c.type_inv.text (c.args.i + k))) c.is_in.ensures ∙ ap f e)
          (c.from-n.ensures ∙ one_if c.is_in.result);
    }
