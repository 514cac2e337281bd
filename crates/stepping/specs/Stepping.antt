-- What the smaller parts of the runners answer. Assumes nothing: these are definitions.
use Rattle.std.specs.Prelude.{ℕ, ◌+◌, ◌-◌, ◌≤◌, ◌≡◌, Bool, true, false, cond, List, leb, length, get_or}
use Rattle.rules.specs.Directive.{FormRight}
use Rattle.rules.specs.Letters.{letter}
use Rattle.rules.specs.Run.{write_from}
use Rattle.rules.specs.Table.{View, view_of}
use Rattle.rules.specs.Text.{Level, levels_at}
use Rattle.rules.specs.declared.Code.{Code}
use Rattle.rules.specs.declared.Code.TheVariants.{Writes, Jump, Escape, Opens, Separator, Closes, Unknown}
use Rattle.actions.specs.declared.state.Ran.{Ran}
use Rattle.actions.specs.declared.state.Spot.{Spot}
use Rattle.actions.specs.declared.state.Stop.{Stop}
use Rattle.actions.specs.declared.state.Stop.TheVariants.{Ended, Escaped, Refused}
use Rattle.rules.specs.Working.{Context, source_of}
use Rattle.rules.specs.declared.Directive.{Directive}
use Rattle.rules.specs.Setting.{Setting}
use Rattle.std.specs.Prelude.{None}
use Rattle.rules.specs.declared.Settings.{Settings}
use Rattle.reader.specs.Shorts.{short_form, short_at}
use Rattle.reader.specs.declared.short.Kind.{Kind}
use Rattle.parameters.specs.Settling.{hand_at}
use Rattle.parameters.specs.declared.arguments.Hand.{Hand}
use Rattle.actions.specs.Acting.{Performed}
use Rattle.actions.specs.Ran.{no_room, ended_ran, hand}
use Rattle.running.specs.Runs.{Strides}

-- a directive that neither opens a block nor ends a sequence
abbrev pub ActsAlone : Code → Type 0
ActsAlone (Writes f) = FormRight f
ActsAlone Jump = Unit {0}
ActsAlone Escape = Unit {0}
ActsAlone (Opens b) = ⊥
ActsAlone Separator = ⊥
ActsAlone (Closes b) = ⊥
ActsAlone Unknown = ⊥

-- k literal bytes of the text t from p on, put one after another: within the steps, the text and the buffer, and the
-- same whatever arguments are in hand
pub record PutsLiterals (t : List ℕ) (p left at : ℕ) (b e : List ℕ) (k : ℕ) : Type 0 where
  pub steps : k ≤ left
  pub inside : p + k ≤ length t
  pub room : at + k ≤ length b
  pub runs : (v : View) (first count level i : ℕ) → i ≤ count
      → Strides (levels_at t) (length t) v (hand first count) level p i left at b e (ended_ran i (left - k) (at + k) (p + k))

-- what an escape answers: it leaves its sequence where no argument remains, and else goes on
abbrev pub escaped_ran : ℕ → ℕ → ℕ → ℕ → Ran
escaped_ran i left at place = record { stop = Escaped; next = record { 0 = i }; left = left; at = at; place = place }

abbrev pub escaped : Spot → ℕ → ℕ → Ran
escaped spot count i =
    cond (leb count i) (escaped_ran i spot.left spot.at spot.place) (ended_ran i spot.left spot.at spot.place)

abbrev pub is_ended : Stop → Bool
is_ended Ended = true
is_ended Escaped = false
is_ended (Refused f) = false

-- a number x and a character y as settings
abbrev pub short_settings : Setting → Setting → Settings
short_settings x y = record { first = x; second = y; third = None; fourth = None; fifth = None }

-- what a short directive does once it is begun, where i is the next argument
abbrev pub WritesShort : List ℕ → Hand → ℕ → Kind → ℕ → Setting → Setting → Spot → List ℕ → List ℕ → Ran → Type 0
WritesShort t hand i kind detail number byte spot b e r =
    (d : Directive) → d.colon ≡ false → d.atsign ≡ false
    → Performed (λ on. write_from (view_of t) spot.position spot.left (short_form kind detail) d (hand_at hand 0)
    (short_settings number byte) i on
    (source_of (short_form kind detail) false (short_settings number byte))) hand.count spot b e r

-- a directive stands at p that is not short
abbrev pub NotShort : List ℕ → ℕ → Type 0
NotShort t p = (get_or t p 0 ≡ letter "~") × (short_at t p ≡ None)

-- a directive at p that finds no room has done nothing: with its step back, all is as it was met
abbrev pub Unbegun : ℕ → ℕ → ℕ → ℕ → List ℕ → List ℕ → Ran → Type 0
Unbegun p i left at b e r =
    (x : ℕ) → r.stop ≡ no_room x → (ended_ran r.next.0 (r.left + 1) r.at x ≡ ended_ran i left at p) × (e ≡ b)

-- items from p on, where the directive at x finds no room: all before it is done, and the run stands before it. So it
-- can go on from there in another buffer
abbrev pub HeldUp : (ℕ → List Level) → ℕ → View → (ℕ → Context) → ℕ → ℕ → ℕ → ℕ → List ℕ → List ℕ → Ran → Type 0
HeldUp s n v c p i left at b e r =
    (x : ℕ) → r.stop ≡ no_room x → (level : ℕ)
    → Strides s n v c level p i left at b e (ended_ran r.next.0 (r.left + 1) r.at x)
