-- How the code's numbers and buffer stand for a flow: what a directive that acts alone promises.
-- Assumes nothing: these are definitions.
use Rattle.std.specs.Prelude.{◌≡◌, List, ℕ, ◌-◌, ◌≤◌, length, take, drop}
use Rattle.rules.specs.Refusals.{code_of}
use Rattle.rules.specs.Table.{View}
use Rattle.rules.specs.Working.{Context}
use Rattle.rules.specs.Flow.{Gives, Lacks}
use Rattle.rules.specs.Run.{Flow, refused, item_acts}
use Rattle.rules.specs.declared.Item.{Item}
use Rattle.rules.specs.declared.refusal.Refusal.{Refusal}
use Rattle.rules.specs.declared.refusal.Refusal.TheVariants.{NoRoom}
use Rattle.parameters.specs.Settling.{InHand}
use Rattle.actions.specs.declared.state.Stop.{Stop}
use Rattle.actions.specs.declared.state.Stop.TheVariants.{Ended, Escaped, Refused}
use Rattle.actions.specs.declared.state.Ran.{Ran}
use Rattle.actions.specs.declared.state.Spot.{Spot}
use Rattle.actions.specs.declared.state.Stand.{Stand}

-- a refusal, and an end after which the text goes on at a place
abbrev pub refused_ran : Refusal → ℕ → ℕ → ℕ → ℕ → ℕ → Ran
refused_ran refusal x i left at place = record { stop = Refused (record { refusal = refusal; position = x }); next = record { 0 = i }; left = left; at = at; place = place }

abbrev pub ended_ran : ℕ → ℕ → ℕ → ℕ → Ran
ended_ran i left at place = record { stop = Ended; next = record { 0 = i }; left = left; at = at; place = place }

-- refused for want of room
abbrev pub no_room : ℕ → Stop
no_room p = Refused (record { refusal = NoRoom; position = p })

-- a directive, begun: a step less is left
abbrev pub begun : Spot → Spot
begun spot = record { position = spot.position; place = spot.place; left = spot.left - 1; at = spot.at }

-- a run can go on so, over the table t and in the buffer b
pub record Stands (t : List ℕ) (stand : Stand) (b : List ℕ) : Type 0 where
  pub held : InHand t stand.hand
  -- the next argument is one of those in hand, or the end of them
  pub reaches : stand.next.0 ≤ stand.hand.count
  pub written : stand.at ≤ length b

-- what comes after a run that stopped so: `on` where it ended and `out` where it was left, by the steps that are left
-- and the next argument
abbrev pub onward : (ℕ → ℕ → Flow) → (ℕ → ℕ → Flow) → Stop → ℕ → ℕ → Flow
onward on out Ended left i = on left i
onward on out Escaped left i = out left i
onward on out (Refused f) left i = refused (code_of f.refusal) f.position left

-- The flow f, from the buffer b at the place `at`, gives what is written in the buffer e up to r's place and then is what
-- comes after r; or, where r is refused for want of room, a piece that does not fit into b. So no room has a say in a run
-- that stops otherwise
pub data Same (f : Flow) (on out : ℕ → ℕ → Flow) (at : ℕ) (b e : List ℕ) (r : Ran) : Type 0 where
  gives : Gives (take at b) f (take r.at e) (onward on out r.stop r.left r.next.0) → Same f on out at b e r
  lacks : {p : ℕ} → r.stop ≡ no_room p → Lacks (length b) (take at b) f (take r.at e) p r.left → Same f on out at b e r

-- r is a run as S says, over `count` arguments, and has changed nothing past its end
pub record Does (S : Type 0) (count left at : ℕ) (b e : List ℕ) (r : Ran) : Type 0 where
  pub same : S
  pub size : length e ≡ length b
  pub rest : drop r.at e ≡ drop r.at b
  pub least : at ≤ r.at
  pub most : r.at ≤ length b
  pub falls : r.left ≤ left
  pub inside : r.next.0 ≤ count

-- the arguments in hand, by the number of the next: `count` entries from `first` on
abbrev pub hand : ℕ → ℕ → ℕ → Context
hand first count i = record { first = first; count = count; next = i }

-- what goes on by f with the number of the next argument, and an item that is begun, with so many steps left
abbrev pub Performs : ((ℕ → Flow) → Flow) → ℕ → ℕ → ℕ → List ℕ → List ℕ → Ran → Type 0
Performs f count left at b e r =
    Does ((on out : ℕ → ℕ → Flow) → Same (f (λ i. on left i)) on out at b e r) count left at b e r

abbrev pub Acts : View → Context → ℕ → Item → ℕ → ℕ → List ℕ → List ℕ → Ran → Type 0
Acts v c p x left at b e r = Performs (λ on. item_acts v p left x c on) c.count left at b e r
