-- Each byte that is put is a literal of the text, and what is put so far is a run over as many items. Assumes nothing.
use mathlib.Core.Path.{◌≡◌}
use lib.ListN.{length}
use Rattle.stepping.specs.Stepping.{PutsLiterals}
use Rattle.stepping.proofs.items.put_literals.Given as goal

abbrev pub invariant-loop-k : goal.invariant-loop-k
invariant-loop-k l = (length l.out ≡ length l.initial.out) × PutsLiterals l.text l.p l.left l.at l.initial.out l.out l.k
