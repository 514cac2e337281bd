-- What an iteration goes over. Assumes nothing.
use Rattle.std.proofs.Common.{ℕ, ◌≤◌, sym, subst, Bool, true, false, List, Ok, arith}
use Rattle.rules.specs.declared.ArgumentPosition.{ArgumentPosition}
use Rattle.parameters.specs.Settling.{InHand}
use Rattle.parameters.specs.declared.arguments.Hand.{Hand}
use Rattle.blocks.specs.Parts.{OverIn}

-- what is asked of the entries that are gone over
pub over_hand : (t : List ℕ) (hand inner : Hand) (with_at : Bool) (i : ℕ) (first : ArgumentPosition) → OverIn t hand with_at i (Ok (record { hand = inner; first = first })) → InHand t hand → i ≤ hand.count
    → InHand t inner × (first.0 ≤ inner.count)
over_hand t hand inner true i first w h l = (subst (InHand t) (sym w.0) h, subst (λ (x : Hand). first.0 ≤ x.count) (sym w.0) (omega (arith, w.1, l)))
over_hand t hand inner false i first w h l = (w.0, omega (arith, w.1.0))
