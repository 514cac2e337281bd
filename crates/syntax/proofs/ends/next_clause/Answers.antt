-- `next_clause` meets its contract. The invariant: the clauses that follow, and what is open outside, are those of the
-- start, below the blocks that began since. The measure is what is left of the text. Assumes nothing.
use mathlib.Core.Path.{sym}
use native.Mathlib.Omega.{arith}
use Rattle.syntax.proofs.EndLaws.{shaped, clause_start, clause_over, clause_stops, clause_passes, clause_begins, clause_splits_below, clause_finishes_below, clause_splits, clause_finishes}
use Rattle.syntax.proofs.ends.next_clause.Goals as goal

pub loop-q-init : goal.loop-q-init
loop-q-init c = clause_start c.args.text.now c.args.start c.requires

pub returns-in-Stops : goal.returns-in-Stops
returns-in-Stops c = clause_stops (clause_over c.loop-q.invariant c.skip_short-p.ensures.over) (shaped c.args.text.now c.skip_short-p.result _ (sym c.in-Stops.ensures))

pub loop-q-smaller-in-Passes : goal.loop-q-smaller-in-Passes
loop-q-smaller-in-Passes c = omega (arith, c.skip_short-p.ensures.over, (shaped c.args.text.now c.skip_short-p.result _ (sym c.in-Passes.ensures)).place)

pub loop-q-preserved-in-Passes : goal.loop-q-preserved-in-Passes
loop-q-preserved-in-Passes c = clause_passes (clause_over c.loop-q.invariant c.skip_short-p.ensures.over) (shaped c.args.text.now c.skip_short-p.result _ (sym c.in-Passes.ensures))

pub overflow_add-depth : goal.overflow_add-depth
overflow_add-depth c = omega (arith, (shaped c.args.text.now c.skip_short-p.result _ (sym c.in-Begins.ensures)).place, (clause_over c.loop-q.invariant c.skip_short-p.ensures.over).few, c.well_formed)

pub loop-q-smaller-in-Begins : goal.loop-q-smaller-in-Begins
loop-q-smaller-in-Begins c = omega (arith, c.skip_short-p.ensures.over, (shaped c.args.text.now c.skip_short-p.result _ (sym c.in-Begins.ensures)).place)

pub loop-q-preserved-in-Begins : goal.loop-q-preserved-in-Begins
loop-q-preserved-in-Begins c = clause_begins (clause_over c.loop-q.invariant c.skip_short-p.ensures.over) (shaped c.args.text.now c.skip_short-p.result _ (sym c.in-Begins.ensures))

pub returns-then-depth-eq0 : goal.returns-then-depth-eq0
returns-then-depth-eq0 c = clause_splits (clause_over c.loop-q.invariant c.skip_short-p.ensures.over) c.if-depth-eq0.true (shaped c.args.text.now c.skip_short-p.result _ (sym c.in-Splits.ensures))

pub loop-q-smaller-in-Splits : goal.loop-q-smaller-in-Splits
loop-q-smaller-in-Splits c = omega (arith, c.skip_short-p.ensures.over, (shaped c.args.text.now c.skip_short-p.result _ (sym c.in-Splits.ensures)).place)

pub loop-q-preserved-in-Splits : goal.loop-q-preserved-in-Splits
loop-q-preserved-in-Splits c = clause_splits_below (clause_over c.loop-q.invariant c.skip_short-p.ensures.over) c.if-depth-eq0.false (shaped c.args.text.now c.skip_short-p.result _ (sym c.in-Splits.ensures))

pub returns-then-depth-eq0-2 : goal.returns-then-depth-eq0-2
returns-then-depth-eq0-2 c = clause_finishes (clause_over c.loop-q.invariant c.skip_short-p.ensures.over) c.if-depth-eq0-2.true (shaped c.args.text.now c.skip_short-p.result _ (sym c.in-Finishes.ensures))

pub loop-q-smaller : goal.loop-q-smaller
loop-q-smaller c = omega (arith, c.skip_short-p.ensures.over, (shaped c.args.text.now c.skip_short-p.result _ (sym c.in-Finishes.ensures)).place)

pub loop-q-preserved : goal.loop-q-preserved
loop-q-preserved c = clause_finishes_below (clause_over c.loop-q.invariant c.skip_short-p.ensures.over) c.if-depth-eq0-2.false (shaped c.args.text.now c.skip_short-p.result _ (sym c.in-Finishes.ensures))
