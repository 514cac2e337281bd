-- `jobs::answer_chunk` meets its contract. Assumes nothing.
use Rattle.std.proofs.Common.{rules, arith, take, length-take, length-drop}
use Rattle.chunks.proofs.Holding.{holds_none, holds_more}
use Rattle.jobs.proofs.answer_chunk.Goals as goal

pub loop-from-init : goal.loop-from-init
loop-from-init c = record {
  held = holds_none c.args.line.now c.args.held (omega arith);
  within = omega arith;
  room = search rules;
}

pub loop-from-preserved : goal.loop-from-preserved
loop-from-preserved c = record {
  held = holds_more (take c.args.held c.args.line.now) c.args.chunk.now c.loop-from.from c.feed-fed.result.taken
      (omega arith) (omega arith) c.loop-from.invariant.held c.feed-fed.ensures.taken;
  within = omega (arith, simp (length-take, length-drop) at c.feed-fed.ensures.far_enough.within);
  room = omega arith;
}
