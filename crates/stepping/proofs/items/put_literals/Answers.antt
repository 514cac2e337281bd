-- Each byte that is put is a literal of the text, and what is put so far is a run over as many items. Assumes nothing.
use mathlib.Core.Path.{◌≡◌, refl}
use native.Mathlib.Omega.{arith}
use lib.ListN.{length-set}
use Rattle.stepping.proofs.ItemLaws.{literals_none, literals_more}
use Rattle.stepping.proofs.items.put_literals.Goals as goal

pub loop-k-init : goal.loop-k-init
loop-k-init c = (refl, literals_none c.args.text.now c.args.p c.args.left c.args.at c.args.out.now c.requires.p_in_bounds c.requires.at_in_bounds)

pub returns-then-byte-eq126-clause-puts : goal.returns-then-byte-eq126-clause-puts
returns-then-byte-eq126-clause-puts c = c.loop-k.invariant.1

pub returns-then-byte-eq126-clause-all : goal.returns-then-byte-eq126-clause-all
returns-then-byte-eq126-clause-all c = λ _ _ _. c.if-byte-eq126.true

pub loop-k-preserved : goal.loop-k-preserved
loop-k-preserved c =
    let a = c.args in
    (simp length-set c.loop-k.invariant.0, literals_more a.text.now a.p a.left a.at a.out.now c.loop-k.invariant.1 (omega arith) c.if-byte-eq126.false (omega arith) (omega arith))

pub returns-clause-puts : goal.returns-clause-puts
returns-clause-puts c =
    let e : c.loop-k.k ≡ c.min-most.result = omega arith in
    rw (← e) c.loop-k.invariant.1

pub returns-clause-all : goal.returns-clause-all
returns-clause-all c = λ x y z. absurd (omega (arith, x, y, z, c.min.ensures, c.min-most.ensures))
