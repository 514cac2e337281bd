-- `check_from` meets its contract. The room for blocks falls at each call of itself. The invariant: what is found from
-- here on is what is found from the start, whatever opens the block and whatever other blocks are open; each arm is a law
-- of `CheckLaws`. The measure of the loop is what is left of the text. Assumes nothing.
use Prim.Native.Nat.{◌-◌}
use lib.ListN.{length}
use Rattle.syntax.proofs.CheckLaws.{Checking}
use Rattle.syntax.proofs.text.+check_from.Given as goal

abbrev pub decreases-check_from : goal.decreases-check_from
decreases-check_from l = l.room

abbrev pub invariant-loop-after : goal.invariant-loop-after
invariant-loop-after l = Checking l.text l.start l.room l.around l.opened l.p l.separators l.fallback

abbrev pub decreases-loop-after : goal.decreases-loop-after
decreases-loop-after l = length l.text - l.p
