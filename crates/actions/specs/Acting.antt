-- What a directive that jumps promises, and one that is done at a spot. Assumes nothing: these are definitions.
use Rattle.std.specs.Prelude.{◌≡◌, List, ℕ, ◌≤◌}
use Rattle.rules.specs.Run.{Flow}
use Rattle.rules.specs.Setting.{Setting}
use Rattle.std.specs.Prelude.{None, Some}
use Rattle.rules.specs.declared.Settings.{Settings}
use Rattle.rules.specs.declared.refusal.Fault.{Fault}
use Rattle.actions.specs.declared.state.Ran.{Ran}
use Rattle.actions.specs.declared.state.Spot.{Spot}
use Rattle.actions.specs.declared.state.Stop.TheVariants.{Refused}
use Rattle.actions.specs.Ran.{refused_ran, Performs}

-- the number of a jump
abbrev pub Numbered : Setting → Type 0
Numbered None = Unit {0}
Numbered (Some n) = n ≤ 4096

abbrev pub JumpSet : Settings → Type 0
JumpSet s = Numbered s.first

-- what is done at a spot, after which the text goes on at the spot's place
pub record Performed (f : (ℕ → Flow) → Flow) (count : ℕ) (spot : Spot) (b e : List ℕ) (r : Ran) : Type 0 where
  pub does : Performs f count spot.left spot.at b e r
  pub place : r.place ≡ spot.place

-- "A piece is .. written whole or not at all": what is refused has written nothing and stands where it was begun, and i
-- is the next argument still
pub record Untouched (spot : Spot) (i : ℕ) (b e : List ℕ) (r : Ran) : Type 0 where
  pub is : (f : Fault) → r.stop ≡ Refused f
      → (r ≡ refused_ran f.refusal spot.position i spot.left spot.at spot.place) × (e ≡ b)
