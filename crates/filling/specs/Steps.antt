-- What the parts of a step answer. Assumes nothing: these are definitions.
use Rattle.std.specs.Prelude.{ℕ, ◌+◌, ◌≤◌, ◌≡◌, Bool, true, false, cond, List, Option, None, Some, Result, ⊤, length}
use Rattle.rules.specs.Table.{view_of, table_verdict}
use Rattle.rules.specs.Text.{levels_at}
use Rattle.rules.specs.declared.refusal.Fault.{Fault}
use Rattle.rules.specs.declared.refusal.Refusal.{Refusal}
use Rattle.rules.specs.declared.refusal.Refusal.TheVariants.{NoRoom}
use Rattle.rules.specs.Verdict.{Accepted}
use Rattle.parameters.specs.Settling.{hand_at}
use Rattle.actions.specs.declared.state.Ran.{Ran}
use Rattle.actions.specs.declared.state.Stop.{Stop}
use Rattle.actions.specs.declared.state.Stop.TheVariants.{Ended, Escaped, Refused}
use Rattle.actions.specs.Ran.{no_room, ended_ran}
use Rattle.running.specs.Runs.{Strides}
use Rattle.nesting.specs.Moves.{comes, Sound, weight}
use Rattle.nesting.specs.declared.moves.Here.{Here}
use Rattle.nesting.specs.declared.moves.Moved.{Moved}
use Rattle.nesting.specs.declared.nests.Nest.{Nest}
use Rattle.filling.specs.declared.giving.Progress.{Progress}
use Rattle.filling.specs.declared.giving.Reach.{Reach}
use Rattle.filling.specs.declared.giving.Reach.TheVariants.{On, Over, Full}
use Rattle.filling.specs.declared.steps.Step.{Step}
use Rattle.filling.specs.Filling.{put_at, to_give, Advances, step_of}

abbrev pub reach_of : Option (Result ⊤ Fault) → Reach
reach_of None = On
reach_of (Some out) = Over out

abbrev pub moved_step : Moved → ℕ → ℕ → Step
moved_step r given at = step_of r.nest (put_at (reach_of r.over) r.here given at)

abbrev pub is_on : Reach → Bool
is_on On = true
is_on (Over out) = false
is_on Full = false

-- whether it is for want of room
abbrev pub is_no_room : Refusal → Bool
is_no_room NoRoom = true
is_no_room other = false

-- a run of short directives, where it found no room standing before the one that needs it
abbrev pub unheld_by : Stop → Ran → Ran
unheld_by Ended r = r
unheld_by Escaped r = r
unheld_by (Refused f) r = cond (is_no_room f.refusal) (ended_ran r.next.0 (r.left + 1) r.at f.position) r

abbrev pub unheld : Ran → Ran
unheld r = unheld_by r.stop r

-- the run stands in range of an accepted table, and the window has so much written
pub record Standing (t table : List ℕ) (h : Here) (o : Nest) (at : ℕ) (b : List ℕ) : Type 0 where
  pub accepted : table_verdict table ≡ Accepted
  pub sound : Sound (length t) table h o
  pub room : at ≤ length b

-- r is a step from where the run stands
abbrev pub StepsFrom : List ℕ → List ℕ → Progress → Nest → List ℕ → List ℕ → Step → Type 0
StepsFrom t table p o b e r =
    Advances t table (to_give p.given (comes t table p.here o)) p.here.left (weight p.here o) p.at b e r

-- literal bytes and short directives from where the run stands, none where bytes are given already: refused for another
-- reason than room, or up to what is not short or has no room
pub record RunsAhead (t table : List ℕ) (h : Here) (given at : ℕ) (b e : List ℕ) (r : Ran) : Type 0 where
  pub does : (level : ℕ) → Strides (levels_at t) (length t) (view_of table) (hand_at h.hand) level h.place h.next.0 h.left at b e r
  pub none : (given ≡ 0 → ⊥) → (r ≡ ended_ran h.next.0 h.left at h.place) × (e ≡ b)
  pub stays : r.stop ≡ Escaped → ⊥
  pub finds : (x : ℕ) → r.stop ≡ no_room x → ⊥
