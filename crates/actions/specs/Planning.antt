-- What planning a directive promises: where its argument comes from, which one it is, and what is shown. No buffer and
-- no room: every engine that runs a directive plans it so. Assumes nothing: these are definitions.
use Rattle.rules.specs.Refusals.{code_of}
use Rattle.std.specs.Prelude.{◌≡◌, Bool, List, ℕ, ◌≤◌, Option, None, Some, Result, Ok, Err}
use Rattle.rules.specs.Table.{Value, meant, view_of}
use Rattle.rules.specs.Piece.{text_of}
use Rattle.rules.specs.Working.{WellSet, Source, own, back, given, source_of}
use Rattle.rules.specs.Run.{Flow, refused, put, write, write_from, item_acts}
use Rattle.rules.specs.declared.Directive.{Directive}
use Rattle.rules.specs.declared.Form.{Form}
use Rattle.rules.specs.declared.Item.TheVariants.{Written}
use Rattle.rules.specs.declared.Origin.{Origin}
use Rattle.rules.specs.declared.Origin.TheVariants.{Nowhere, Next as NextArgument, NextOrBack, NextOrNumber}
use Rattle.rules.specs.Setting.{Setting}
use Rattle.rules.specs.declared.refusal.Refusal.{Refusal}
use Rattle.rules.specs.declared.Settings.{Settings}
use Rattle.pieces.specs.Given.{Reachable}
use Rattle.parameters.specs.Settling.{hand_at}
use Rattle.parameters.specs.declared.arguments.Hand.{Hand}
use Rattle.actions.specs.declared.planning.Plan.{Plan}
use Rattle.actions.specs.declared.planning.Source.{Source as TakenFrom}
use Rattle.actions.specs.declared.planning.Source.TheVariants.{Own, Back, Given}
use Rattle.actions.specs.declared.planning.Taken.{Taken}

abbrev pub source_as : List ℕ → TakenFrom → Source
source_as t Own = own
source_as t Back = back
source_as t (Given x) = given (meant t x)

abbrev pub SourceReachable : List ℕ → TakenFrom → Type 0
SourceReachable t Own = Unit {0}
SourceReachable t Back = Unit {0}
SourceReachable t (Given x) = Reachable t x

-- how a directive at p goes on by the answer for its argument, with m steps left: a value and the next argument, or
-- code 6
abbrev pub on_taken : List ℕ → ℕ → ℕ → (Value → ℕ → Flow) → Option Taken → Flow
on_taken t p m on None = refused 6 p m
on_taken t p m on (Some x) = on (meant t x.argument) x.next.0

abbrev pub TakenReaches : List ℕ → ℕ → Option Taken → Type 0
TakenReaches t count None = Unit {0}
TakenReaches t count (Some x) = Reachable t x.argument × (x.next.0 ≤ count)

-- what taking the argument of a directive promises of its answer r
pub record Takes (t : List ℕ) (hand : Hand) (source : TakenFrom) (i : ℕ) (r : Option Taken) : Type 0 where
  -- it is what the definition says
  pub as_defined :
      (p m : ℕ) (form : Form) (d : Directive) (s : Settings) (on : ℕ → Flow)
      → write_from (view_of t) p m form d (hand_at hand 0) s i on (source_as t source)
      ≡ on_taken t p m (λ x next. write p m form d s x next on) r
  -- the argument lies in its table, and the next one is one of those in hand or the end of them
  pub reaches : TakenReaches t hand.count r

-- a charnum is a character's code
abbrev pub Coded : Setting → Type 0
Coded None = Unit {0}
Coded (Some n) = n ≤ 127

-- what the settings have to be for where the argument comes from
abbrev pub OriginRight : Origin → Settings → Type 0
OriginRight Nowhere s = Unit {0}
OriginRight NextArgument s = Unit {0}
OriginRight NextOrBack s = Unit {0}
OriginRight NextOrNumber s = Coded s.first

-- how a directive d of a form at p goes on by its plan, with m steps left: its text is put and the next argument follows,
-- or it is refused
abbrev pub on_planned : List ℕ → Form → Directive → ℕ → ℕ → (ℕ → Flow) → Result Plan Refusal → Flow
on_planned t form d p m on (Ok x) = put p m (text_of form d.colon d.atsign x.settings (meant t x.argument)) (on x.next.0)
on_planned t form d p m on (Err refusal) = refused (code_of refusal) p m

-- what a piece is made from, and the next argument is one of those in hand or the end of them
abbrev pub PlanReaches : List ℕ → Form → ℕ → Result Plan Refusal → Type 0
PlanReaches t form count (Ok x) = WellSet form x.settings × (Reachable t x.argument × (x.next.0 ≤ count))
PlanReaches t form count (Err refusal) = Unit {0}

-- what planning by parameters s that are worked out promises of its answer r. Of the directive d only the colon has a
-- say in it
pub record PlansSettled (t : List ℕ) (form : Form) (colon : Bool) (s : Settings) (hand : Hand) (i : ℕ) (r : Result Plan Refusal) : Type 0 where
  pub as_defined :
      (d : Directive) (p m : ℕ) (on : ℕ → Flow)
      → write_from (view_of t) p m form d (hand_at hand 0) s i on (source_of form colon s) ≡ on_planned t form d p m on r
  pub reaches : PlanReaches t form hand.count r

-- what planning a directive d promises of its answer r
pub record Plans (t : List ℕ) (form : Form) (d : Directive) (hand : Hand) (next : ℕ) (r : Result Plan Refusal) : Type 0 where
  pub as_defined :
      (p m : ℕ) (on : ℕ → Flow)
      → item_acts (view_of t) p m (Written d) (hand_at hand next) on ≡ on_planned t form d p m on r
  pub reaches : PlanReaches t form hand.count r
