-- What the parts of the runners promise that run nothing themselves. Assumes nothing: these are definitions.
use Rattle.std.specs.Prelude.{◌≡◌, true, false, List, ℕ}
use Rattle.rules.specs.Directive.{item_at}
use Rattle.rules.specs.Text.{Level, end, levels_at}
use Rattle.rules.specs.declared.Item.{Item}
use Rattle.rules.specs.declared.refusal.Fault.{Fault}
use Rattle.actions.specs.declared.state.Ran.{Ran}
use Rattle.actions.specs.declared.state.Spot.{Spot}
use Rattle.actions.specs.declared.state.Stop.TheVariants.{Ended, Escaped, Refused}
use Rattle.blocks.specs.Parts.{ends_at}
use Rattle.running.specs.Runs.{rest_at, EndsBlock}

abbrev pub spot_at : ℕ → ℕ → ℕ → ℕ → Spot
spot_at position place left at = record { position = position; place = place; left = left; at = at }

-- x is the item at which the run s ended. One that ends its sequence stands for a run that stopped otherwise as well
pub record ItemAfter (t : List ℕ) (s : Ran) (x : Item) : Type 0 where
  pub ends : ends_at x ≡ true → s.stop ≡ Ended → rest_at (levels_at t) s.place ≡ end
  pub ended : ends_at x ≡ false → s.stop ≡ Ended
  pub is : ends_at x ≡ false → item_at t s.place ≡ x

-- o is what the passes of the block whose inside is at q answer after the pass r, if that was left or refused
pub record LeavesPasses (s : ℕ → List Level) (n q : ℕ) (r o : Ran) : Type 0 where
  pub left : r.stop ≡ Escaped → EndsBlock s n (spot_at q q r.left r.at) q r.next.0 o
  pub refused : (f : Fault) → r.stop ≡ Refused f → o ≡ r
