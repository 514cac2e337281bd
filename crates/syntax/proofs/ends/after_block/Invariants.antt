-- `after_block` meets its contract: its clauses one after another. The measure is what is left of the text. Assumes nothing.
use Prim.Native.Nat.{◌-◌}
use Rattle.syntax.proofs.EndLaws.{InBlock}
use lib.ListN.{length}
use Rattle.syntax.proofs.ends.after_block.Given as goal

abbrev pub invariant-loop-after : goal.invariant-loop-after
invariant-loop-after l = InBlock l.text l.start l.p

abbrev pub decreases-loop-after : goal.decreases-loop-after
decreases-loop-after l = length l.text - l.p
