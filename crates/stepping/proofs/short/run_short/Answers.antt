-- The loop: whatever is run from here is run from the start. The measure is what is left of the text. Assumes nothing.
use mathlib.Core.Path.{◌≡◌, refl, ◌∙◌}
use native.Mathlib.Omega.{arith}
use lib.ListN.{length}
use Rattle.rules.specs.Table.{view_of}
use Rattle.rules.specs.Text.{levels_at}
use Rattle.std.proofs.Common.{rules}
use Rattle.actions.specs.declared.state.Stop.TheVariants.{Ended}
use Rattle.running.proofs.Strides.{strides_on}
use Rattle.stepping.proofs.short.run_short.Goals as goal

pub returns-then-ne-clause-strides : goal.returns-then-ne-clause-strides
returns-then-ne-clause-strides c =
    let a = c.args in
    let s = levels_at a.text.now in
    let n = length a.text.now in
    let v = view_of a.table.now in
    let puts = c.put_literals-k.ensures.puts.runs v a.first.hand.first.0 a.first.hand.count in
    let one = c.run_one-r.ensures.strides in
    c.loop-hand.invariant.0.ends _ _ (λ level. strides_on s n v a.first.hand.first.0 a.first.hand.count level c.loop-hand.p c.loop-hand.next.0 c.loop-hand.left c.loop-hand.at c.loop-hand.out (puts level c.loop-hand.next.0 c.loop-hand.invariant.0.inside) refl (one level))

pub returns-then-ne-clause-held : goal.returns-then-ne-clause-held
returns-then-ne-clause-held c =
    let a = c.args in
    let s = levels_at a.text.now in
    let n = length a.text.now in
    let v = view_of a.table.now in
    let puts = c.put_literals-k.ensures.puts.runs v a.first.hand.first.0 a.first.hand.count in
    λ x q. c.loop-hand.invariant.0.ends _ _ (λ level. strides_on s n v a.first.hand.first.0 a.first.hand.count level c.loop-hand.p c.loop-hand.next.0 c.loop-hand.left c.loop-hand.at c.loop-hand.out (puts level c.loop-hand.next.0 c.loop-hand.invariant.0.inside) refl (c.run_one-r.ensures.held x q level))

pub returns-then-r-p-clause-strides : goal.returns-then-r-p-clause-strides
returns-then-r-p-clause-strides c =
    let a = c.args in
    let s = levels_at a.text.now in
    let n = length a.text.now in
    let v = view_of a.table.now in
    let puts = c.put_literals-k.ensures.puts.runs v a.first.hand.first.0 a.first.hand.count in
    let one = c.run_one-r.ensures.strides in
    c.loop-hand.invariant.0.ends _ _ (λ level. strides_on s n v a.first.hand.first.0 a.first.hand.count level c.loop-hand.p c.loop-hand.next.0 c.loop-hand.left c.loop-hand.at c.loop-hand.out (puts level c.loop-hand.next.0 c.loop-hand.invariant.0.inside) refl (one level))

pub loop-hand-smaller : goal.loop-hand-smaller
loop-hand-smaller c =
    let a = c.args in
    let s = levels_at a.text.now in
    let n = length a.text.now in
    let v = view_of a.table.now in
    let puts = c.put_literals-k.ensures.puts.runs v a.first.hand.first.0 a.first.hand.count in
    let one = c.run_one-r.ensures.strides in
    let halt : c.run_one-r.result.stop ≡ Ended = search rules in
    omega (arith, (one 0).least halt, (one 0).most halt, c.if-r-p.false)

pub loop-hand-preserved : goal.loop-hand-preserved
loop-hand-preserved c =
    let a = c.args in
    let s = levels_at a.text.now in
    let n = length a.text.now in
    let v = view_of a.table.now in
    let puts = c.put_literals-k.ensures.puts.runs v a.first.hand.first.0 a.first.hand.count in
    let one = c.run_one-r.ensures.strides in
    let halt : c.run_one-r.result.stop ≡ Ended = search rules in (
      record {
        ends = λ e₂ r k. c.loop-hand.invariant.0.ends e₂ r (λ level. strides_on s n v a.first.hand.first.0 a.first.hand.count level c.loop-hand.p c.loop-hand.next.0 c.loop-hand.left c.loop-hand.at c.loop-hand.out (puts level c.loop-hand.next.0 c.loop-hand.invariant.0.inside) refl (strides_on s n v a.first.hand.first.0 a.first.hand.count level _ _ _ _ _ (one level) halt (k level)));
        size = (one 0).does.size ∙ (puts 0 c.loop-hand.next.0 c.loop-hand.invariant.0.inside).does.size ∙ c.loop-hand.invariant.0.size;
        fits = omega (arith, (one 0).does.most, (one 0).does.size);
        falls = omega (arith, (one 0).does.falls, c.loop-hand.invariant.0.falls);
        inside = (one 0).does.inside;
      },
      (one 0).most halt,
    )
