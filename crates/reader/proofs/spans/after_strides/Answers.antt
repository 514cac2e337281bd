-- `reader::spans::after_strides` meets its contract. The loop's invariant: the span from i on ends where the one from
-- start on ends. Assumes nothing.
use Rattle.std.proofs.Common.{arith}
use Rattle.reader.proofs.SpanLaws.{along_first, along_stride, stride_none, stride_end}
use Rattle.reader.proofs.spans.after_strides.Goals as goal

pub loop-i-init : goal.loop-i-init
loop-i-init g c = record { within = c.requires.within; along = λ f d. along_first f _ _ c.requires.within }

pub returns-then-count_stride-ne-STRIDE : goal.returns-then-count_stride-ne-STRIDE
returns-then-count_stride-ne-STRIDE g c =
    λ f d. stride_none (c.loop-i.invariant.along f d) _ (c.count_stride.ensures f d) c.if-count_stride-ne-STRIDE.true

pub loop-i-preserved : goal.loop-i-preserved
loop-i-preserved g c = record {
  within = omega (arith, c.loop-i.invariant.within);
  along = λ f d.
      along_stride (c.loop-i.invariant.along f d) _ (c.count_stride.ensures f d) c.if-count_stride-ne-STRIDE.false
      (omega (arith, c.loop-i.invariant.within));
}

pub returns : goal.returns
returns g c = λ f d. stride_end (c.loop-i.invariant.along f d) (omega arith)
