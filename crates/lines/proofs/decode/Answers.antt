-- `lines::decode` meets its contract. What stands in the frame, with what the digits that are left give, is the
-- whole. Assumes nothing.
use native.Mathlib.Omega.{arith}
use Rattle.lines.proofs.Decoding.{first_refused, second_refused, decode_more, decode_odd, decode_all}
use Rattle.lines.proofs.decode.Goals as goal

pub returns-in_err-high : goal.returns-in_err-high
returns-in_err-high c =
    rw c.from_residual.ensures
    (first_refused c.requires c.loop-k.invariant c.loop-k-test.true (omega (arith, c.in_err-high.ensures)))

pub returns-in_err-low : goal.returns-in_err-low
returns-in_err-low c =
    rw c.from_residual-in_err-low.ensures
    (second_refused c.requires c.loop-k.invariant c.loop-k-test.true c.in_ok-high.ensures.0
    (omega (arith, c.in_err-low.ensures)))

pub loop-k-preserved : goal.loop-k-preserved
loop-k-preserved c =
    decode_more c.requires c.loop-k.invariant c.loop-k-test.true c.in_ok-high.ensures.1 c.in_ok-low.ensures.1
    (omega (arith, c.in_ok-high.ensures)) (omega (arith, c.in_ok-low.ensures))

pub returns-then-line-eq0 : goal.returns-then-line-eq0
returns-then-line-eq0 c = decode_all c.requires c.loop-k.invariant c.loop-k-test.false c.if-line-eq0.true

pub returns-else-line-eq0 : goal.returns-else-line-eq0
returns-else-line-eq0 c = decode_odd c.requires c.loop-k.invariant c.loop-k-test.false c.if-line-eq0.false
