-- What an item of a plain format, or of a clause, does to a vet, by the kinds of the arguments. Assumes nothing: these are
-- definitions.
use Rattle.std.specs.Prelude.{ℕ, cond, List, Result, Ok, Err, length, get_or}
use Rattle.rules.specs.Act.{Act, writes, shows, moves, refuses}
use Rattle.rules.specs.Refusals.{code_of}
use Rattle.rules.specs.Rows.{accepts}
use Rattle.rules.specs.declared.ArgumentPosition.{ArgumentPosition}
use Rattle.rules.specs.declared.Directive.{Directive}
use Rattle.rules.specs.declared.Form.{Form}
use Rattle.rules.specs.declared.Item.{Item}
use Rattle.rules.specs.declared.Settings.{Settings}
use Rattle.rules.specs.declared.refusal.Refusal.{Refusal}
use Rattle.vet_rules.specs.Use.{use_of}
use Rattle.vet_rules.specs.Worst.{worst}
use Rattle.vet_rules.specs.declared.Reach.{Reach}

-- It goes on at the argument that comes next, with a piece of at most so many bytes; or it stops with a code
pub data Turn : Type 0 where
  Goes : ArgumentPosition → ℕ → Turn
  Stops : ℕ → Turn

-- what the answer of a directive says
abbrev pub turn_as : Result Reach Refusal → Turn
turn_as (Ok r) = Goes r.next r.size
turn_as (Err refusal) = Stops (code_of refusal)

-- the number i of an argument
abbrev pub argument : ℕ → ArgumentPosition
argument i = record { 0 = i }

-- its kind
abbrev pub kind_in : List ℕ → ℕ → ℕ
kind_in kinds i = get_or kinds i 0

-- a directive that shows an argument of a kind, after which `next` is the next one: "kind 7", and else the piece's
-- greatest length
abbrev pub shown_turn : ℕ → Form → Directive → Settings → ℕ → ℕ → Turn
shown_turn longest f d s kind next = cond (accepts f kind) (Goes (argument next) (worst longest f d.colon d.atsign s kind)) (Stops 7)

module _ (kinds : List ℕ) (longest : ℕ) where
  abbrev pub turn_by : Act → Turn
  turn_by (writes text next) = Goes (argument next) (length text)
  turn_by (shows f d s i next) = shown_turn longest f d s (kind_in kinds i) next
  turn_by (moves next) = Goes (argument next) 0
  turn_by (refuses code) = Stops code

  unfoldable pub turn_of : Item → ℕ → Turn
  turn_of item next = turn_by (use_of (length kinds) item next)
