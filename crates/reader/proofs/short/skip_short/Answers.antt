-- `reader::short::skip_short` meets its contract. The loop's invariant: what is found from here on is what is found from
-- the start. Assumes nothing.
use Rattle.std.proofs.Common.{arith}
use Rattle.reader.proofs.PassLaws.{skip_none, skip_literal, skip_short_at}
use Rattle.reader.proofs.short.skip_short.Goals as goal

pub loop-p-init : goal.loop-p-init
loop-p-init c = skip_none c.args.text.now c.args.start

pub loop-p-smaller-then-text-p-eq126 : goal.loop-p-smaller-then-text-p-eq126
loop-p-smaller-then-text-p-eq126 c =
    let after = (skip_short_at c.loop-p.invariant c.read_short.ensures c.in-Some.short c.in-Some.is).1 in
    omega (arith, after.above, after.most)

pub loop-p-preserved-then-text-p-eq126 : goal.loop-p-preserved-then-text-p-eq126
loop-p-preserved-then-text-p-eq126 c = (skip_short_at c.loop-p.invariant c.read_short.ensures c.in-Some.short c.in-Some.is).0

pub loop-p-preserved : goal.loop-p-preserved
loop-p-preserved c = skip_literal c.loop-p.invariant c.loop-p-test.true c.if-text-p-eq126.false
