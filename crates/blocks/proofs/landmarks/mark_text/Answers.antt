-- `mark_text` meets its contract: whatever stands at a place, what comes after it is farther on in the text. Assumes nothing.
use Rattle.std.proofs.Common.{arith, ◌∙◌}
use Rattle.blocks.proofs.LandmarkLaws.{goes_in, goes_on}
use Rattle.blocks.proofs.landmarks.mark_text.Goals as goal

pub mark_block-k-requires-clause-start_in_bounds : goal.mark_block-k-requires-clause-start_in_bounds
mark_block-k-requires-clause-start_in_bounds c = (goes_in c.args.text.now c.skip_short-p.result c.shape_at.ensures c.in-Begins.is).most

pub loop-q-smaller-in-Begins : goal.loop-q-smaller-in-Begins
loop-q-smaller-in-Begins c = let w = goes_in c.args.text.now c.skip_short-p.result c.shape_at.ensures c.in-Begins.is in omega (arith, c.skip_short-p.ensures.over.least, w.above, w.most)

pub loop-q-preserved-in-Begins : goal.loop-q-preserved-in-Begins
loop-q-preserved-in-Begins c =
    let m = c.mark_block-k.ensures in
    (record { sound = m.sound; size = m.size ∙ c.loop-q.invariant.0.size }, (goes_in c.args.text.now c.skip_short-p.result c.shape_at.ensures c.in-Begins.is).most)

pub loop-q-smaller-in-Passes : goal.loop-q-smaller-in-Passes
loop-q-smaller-in-Passes c = let w = goes_on c.args.text.now c.skip_short-p.result c.shape_at.ensures c.in-Passes.is in omega (arith, c.skip_short-p.ensures.over.least, w.above, w.most)

pub loop-q-preserved-in-Passes : goal.loop-q-preserved-in-Passes
loop-q-preserved-in-Passes c = (c.loop-q.invariant.0, (goes_on c.args.text.now c.skip_short-p.result c.shape_at.ensures c.in-Passes.is).most)

pub loop-q-smaller-in-Passes-2 : goal.loop-q-smaller-in-Passes-2
loop-q-smaller-in-Passes-2 c = let w = goes_on c.args.text.now c.skip_short-p.result c.shape_at.ensures c.in-Passes.is in omega (arith, c.skip_short-p.ensures.over.least, w.above, w.most)

pub loop-q-preserved-in-Passes-2 : goal.loop-q-preserved-in-Passes-2
loop-q-preserved-in-Passes-2 c = (c.loop-q.invariant.0, (goes_on c.args.text.now c.skip_short-p.result c.shape_at.ensures c.in-Passes.is).most)

pub loop-q-smaller : goal.loop-q-smaller
loop-q-smaller c = let w = goes_on c.args.text.now c.skip_short-p.result c.shape_at.ensures c.in-Passes.is in omega (arith, c.skip_short-p.ensures.over.least, w.above, w.most)

pub loop-q-preserved : goal.loop-q-preserved
loop-q-preserved c = (c.loop-q.invariant.0, (goes_on c.args.text.now c.skip_short-p.result c.shape_at.ensures c.in-Passes.is).most)
