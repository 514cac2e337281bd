-- `check_vettable` meets its contract: a vet takes the items passed, so those that remain decide. Assumes nothing.
use Prim.Native.Nat.{◌-◌}
use lib.ListN.{length}
use Rattle.vet.proofs.Places.{VettableTo}
use Rattle.vet.proofs.vettable.check_vettable.Given as goal

abbrev pub invariant-loop-p : goal.invariant-loop-p
invariant-loop-p l = VettableTo l.format l.p

abbrev pub decreases-loop-p : goal.decreases-loop-p
decreases-loop-p l = length l.format - l.p
