-- `chunks::feed` meets its contract. What stands so far is what the bytes that are passed give. Assumes nothing.
use borrow.Author.Rules.{rules}
use mathlib.Core.Path.{refl}
use native.Mathlib.Omega.{arith}
use Rattle.chunks.proofs.Buffers.{front_within}
use Rattle.chunks.proofs.Steps.{take_none, held_within, end_within, take_rest, take_line, far_full}
use Rattle.chunks.proofs.feed.Goals as goal

pub loop-from-init : goal.loop-from-init
loop-from-init c = record {
  taken = take_none c.args.line.now c.args.scratch.now.frame.now c.args.scratch.now.text.now c.args.out.now
      c.args.held c.requires.in_bounds.1;
  within = omega arith;
  line = refl;
  out = refl;
  same_buffers = record { frame = refl; text = refl; frame_length = refl };
}

pub slice_bounds-hold-end : goal.slice_bounds-hold-end
slice_bounds-hold-end c =
    end_within c.args.chunk.now c.loop-from.from c.line_end-end.result c.loop-from.invariant.within
    c.line_end-end.ensures

pub hold-kept-requires : goal.hold-kept-requires
hold-kept-requires c = omega (arith, held_within c.loop-from.invariant.taken, c.loop-from.invariant.line)

pub loop-from-preserved-then-end-chunk : goal.loop-from-preserved-then-end-chunk
loop-from-preserved-then-end-chunk c = record {
  taken = take_rest c.args.chunk.now c.loop-from.from c.line_end-end.result c.loop-from.invariant.within
      c.loop-from.invariant.line c.loop-from.invariant.taken c.line_end-end.ensures c.hold-kept.ensures
      c.if-end-chunk.true;
  within = search rules;
  line = search rules;
  out = search rules;
  same_buffers = search rules;
}

pub slice_bounds-add_answer-end : goal.slice_bounds-add_answer-end
slice_bounds-add_answer-end c = front_within c.hold-kept.ensures

pub overflow_add-from : goal.overflow_add-from
overflow_add-from c =
    omega (
      arith,
      end_within c.args.chunk.now c.loop-from.from c.line_end-end.result c.loop-from.invariant.within
          c.line_end-end.ensures,
      c.if-end-chunk.false,
    )

pub loop-from-smaller : goal.loop-from-smaller
loop-from-smaller c =
    omega (
      arith,
      end_within c.args.chunk.now c.loop-from.from c.line_end-end.result c.loop-from.invariant.within
          c.line_end-end.ensures,
      c.if-end-chunk.false,
      c.loop-from-test.true,
      c.line_end-end.ensures,
    )

pub loop-from-preserved : goal.loop-from-preserved
loop-from-preserved c = record {
  taken = take_line c.args.chunk.now c.loop-from.from c.line_end-end.result c.loop-from.invariant.within
      c.loop-from.invariant.line c.loop-from.invariant.taken c.line_end-end.ensures c.hold-kept.ensures
      c.requires.in_bounds.0 c.if-end-chunk.false c.add_answer-filled.ensures.answered;
  within = omega (
    arith,
    end_within c.args.chunk.now c.loop-from.from c.line_end-end.result c.loop-from.invariant.within
        c.line_end-end.ensures,
    c.if-end-chunk.false,
  );
  line = search rules;
  out = search rules;
  same_buffers = search rules;
}

pub returns-else-out-filled-ge32795-clause-far_enough : goal.returns-else-out-filled-ge32795-clause-far_enough
returns-else-out-filled-ge32795-clause-far_enough c =
    far_full c.args.chunk.now c.loop-from.from c.loop-from.invariant.within c.requires.in_bounds_2
    c.loop-from.invariant.taken (omega (arith, c.if-out-filled-ge32795.false, c.loop-from.invariant.out))
