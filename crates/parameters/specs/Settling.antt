-- What working out the parameters of a directive promises: what the definitions of a run say (rules: Working), that the
-- next argument stays in reach, and the range that each parameter's place gives. Assumes nothing: these are definitions.
use Rattle.std.specs.Prelude.{ℕ, ◌+◌, ◌≤◌, ◌≡◌, Bool, true, false, List, [], ◌∷◌}
use Rattle.rules.specs.Choice.{both}
use Rattle.rules.specs.Rows.{places_in, suits, in_row, in_order, each_suits}
use Rattle.rules.specs.Table.{View, entry_count, table_verdict, view_of}
use Rattle.rules.specs.Working.{Context, Worked, worked, wrong, work_out, Settled, settled, unsettled, settle_all, InPlace, InPlaces}
use Rattle.rules.specs.declared.ArgumentPosition.{ArgumentPosition}
use Rattle.rules.specs.declared.Directive.{Directive}
use Rattle.rules.specs.declared.Parameter.{Parameter}
use Rattle.rules.specs.declared.Parameter.TheVariants.{Default, Number, Character, Next, Remaining}
use Rattle.rules.specs.declared.Parameters.{Parameters}
use Rattle.rules.specs.declared.Place.{Place}
use Rattle.rules.specs.declared.Places.{Places}
use Rattle.rules.specs.Setting.{Setting}
use Rattle.rules.specs.declared.Settings.{Settings}
use Rattle.rules.specs.Verdict.{Accepted}
use Rattle.parameters.specs.declared.arguments.Hand.{Hand}
use Rattle.parameters.specs.declared.places.WorkedOut.{WorkedOut}
use Rattle.parameters.specs.declared.settling.SettledOut.{SettledOut}
use Rattle.std.specs.Prelude.{Result, Ok, Err}
use Rattle.rules.specs.Refusals.{code_of}
use Rattle.rules.specs.declared.refusal.Refusal.{Refusal}

-- the arguments in hand, with the number of the next one
abbrev pub hand_at : Hand → ℕ → Context
hand_at hand next = record { first = hand.first.0; count = hand.count; next = next }

-- they are entries of an accepted table
pub record InHand (t : List ℕ) (hand : Hand) : Type 0 where
  pub accepted : table_verdict t ≡ Accepted
  pub within : hand.first.0 + hand.count ≤ entry_count t

-- a `v` has a table to read its argument from; other parameters need none
abbrev pub Supplied : List ℕ → Hand → Parameter → Type 0
Supplied t hand x = x ≡ Next → InHand t hand

pub record AllSupplied (t : List ℕ) (hand : Hand) (ps : Parameters) : Type 0 where
  pub first : Supplied t hand ps.first
  pub second : Supplied t hand ps.second
  pub third : Supplied t hand ps.third
  pub fourth : Supplied t hand ps.fourth
  pub fifth : Supplied t hand ps.fifth

-- an answer for one parameter, as the definition gives it
abbrev pub worked_as : Result WorkedOut Refusal → Worked
worked_as (Ok w) = worked w.setting w.next.0
worked_as (Err refusal) = wrong (code_of refusal)

abbrev pub Reaches : ℕ → Worked → Type 0
Reaches count (worked s next) = next ≤ count
Reaches count (wrong code) = Unit {0}

abbrev pub Lies : Place → Worked → Type 0
Lies y (worked s next) = InPlace y s
Lies y (wrong code) = Unit {0}

-- what working out one parameter x in the place y promises of its answer r
pub record Works (t : List ℕ) (hand : Hand) (y : Place) (x : Parameter) (next : ℕ) (r : Result WorkedOut Refusal) : Type 0 where
  -- it is what the definition says
  pub as_defined : worked_as r ≡ work_out (view_of t) (hand_at hand 0) y x next
  -- the next argument is one of those in hand, or the end of them
  pub reaches : Reaches hand.count (worked_as r)
  -- and where the parameter suits the place, its setting is in range
  pub lies : suits y x ≡ true → Lies y (worked_as r)

-- a parameter is written out, and not `v` or `#`
abbrev pub is_written : Parameter → Bool
is_written Default = true
is_written (Number n) = true
is_written (Character b) = true
is_written Next = false
is_written Remaining = false

abbrev pub all_written : Parameters → Bool
all_written ps =
    both (is_written ps.first)
    (both (is_written ps.second) (both (is_written ps.third) (both (is_written ps.fourth) (is_written ps.fifth))))

-- what is promised of the answer s for a parameter x that is written out: x is worked out to s in every place, and takes no
-- argument
pub record WrittenAs (x : Parameter) (s : Setting) : Type 0 where
  pub is : (v : View) (c : Context) (y : Place) (next : ℕ) → work_out v c y x next ≡ worked s next
  pub lies : (y : Place) → suits y x ≡ true → InPlace y s

-- an answer for all parameters, as the definition gives it
abbrev pub listed : Settings → List Setting
listed s = s.first ∷ s.second ∷ s.third ∷ s.fourth ∷ s.fifth ∷ []

abbrev pub settled_as : Result SettledOut Refusal → Settled
settled_as (Ok o) = settled (listed o.settings) o.next.0
settled_as (Err refusal) = unsettled (code_of refusal)

abbrev pub AllReach : ℕ → Result SettledOut Refusal → Type 0
AllReach count (Ok o) = o.next.0 ≤ count
AllReach count (Err refusal) = Unit {0}

abbrev pub AllLie : Places → Result SettledOut Refusal → Type 0
AllLie ys (Ok o) = InPlaces ys o.settings
AllLie ys (Err refusal) = Unit {0}

-- what working out parameters in places promises of its answer r. The number i of the argument that the context calls
-- the next one plays no part
pub record Settles (t : List ℕ) (hand : Hand) (ys : Places) (ps : Parameters) (next : ℕ) (r : Result SettledOut Refusal) : Type 0 where
  pub as_defined : (i : ℕ) → settled_as r ≡ settle_all (view_of t) (hand_at hand i) ys ps next
  pub reaches : AllReach hand.count r
  pub lies : each_suits (in_row ys) (in_order ps) ≡ true → AllLie ys r

-- the same of a directive, in its own places
pub record SettlesDirective (t : List ℕ) (hand : Hand) (d : Directive) (next : ℕ) (r : Result SettledOut Refusal) : Type 0 where
  pub in_places : Settles t hand (places_in d) d.parameters next r

-- what is promised of the answer r for parameters that are all written out, whatever their places are
pub record SettlesWritten (ps : Parameters) (next : ArgumentPosition) (r : Result SettledOut Refusal) : Type 0 where
  pub is : (t : List ℕ) (hand : Hand) (ys : Places) → next.0 ≤ hand.count → Settles t hand ys ps next.0 r
