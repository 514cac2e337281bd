-- Which clause a conditional runs, by its place in the text. Assumes nothing: these are definitions.
use Rattle.std.specs.Prelude.{◌≡◌, Bool, false, cond, List, ℕ, ◌+◌, ◌-◌, ◌≤◌, length, Option, Some, None, option_map, Result, Ok, Err}
use Rattle.rules.specs.Table.{View, view_of}
use Rattle.rules.specs.Text.{Sequence, end, Clauses, Level, innermost, outer, as_clauses, levels_at}
use Rattle.rules.specs.Working.{Context}
use Rattle.rules.specs.Choice.{both}
use Rattle.rules.specs.Refusals.{code_of}
use Rattle.rules.specs.Run.{Flow, refused, fallback_of, clause_at, is_false, with_argument, pick_by, pick}
use Rattle.rules.specs.declared.Directive.{Directive}
use Rattle.rules.specs.declared.Settings.{Settings}
use Rattle.rules.specs.declared.refusal.Refusal.{Refusal}
use Rattle.parameters.specs.Settling.{hand_at}
use Rattle.parameters.specs.declared.arguments.Hand.{Hand}
use Rattle.blocks.specs.declared.wanting.Sought.{Sought}
use Rattle.blocks.specs.declared.wanting.Wanted.{Wanted}
use Rattle.blocks.specs.declared.clauses.Chosen.{Chosen}
use Rattle.blocks.specs.declared.clauses.Chosen.TheVariants.{At, Nothing}

-- what runs where no clause has the number: with a fallback, the clause after a last `~:;`
abbrev pub last_of : Bool → Clauses → Sequence
last_of fb cs = cond fb (fallback_of cs) end

-- the clause of a number, where there is one
abbrev pub wanted_of : Option ℕ → Bool → Clauses → Sequence
wanted_of (Some n) fb cs = clause_at cs n (last_of fb cs)
wanted_of None fb cs = last_of fb cs

-- the clause that is sought, or none
abbrev pub sought_of : Option Sought → Clauses → Sequence
sought_of (Some s) cs = wanted_of s.number s.fallback cs
sought_of None cs = end

-- the same clause, where those before clause n are counted no longer
abbrev pub counted_from : ℕ → Sought → Sought
counted_from n s = record { number = option_map (λ m. m - n) s.number; fallback = s.fallback }

-- z is a place of the block whose inside is at start, or of one of its clauses
pub record InsideAt (t : List ℕ) (start z : ℕ) : Type 0 where
  pub outside : outer (levels_at t z) ≡ outer (levels_at t start)
  pub least : start ≤ z
  pub most : z ≤ length t

-- the sequence is the clause at z, one of those from start on
pub record FoundAt (t : List ℕ) (start : ℕ) (wanted : Sequence) (z : ℕ) : Type 0 where
  pub is : wanted ≡ (innermost (levels_at t z)).rest
  pub inside : InsideAt t start z

abbrev pub Finds : List ℕ → ℕ → Sequence → Result ℕ ℕ → Type 0
Finds t start wanted (Ok z) = FoundAt t start wanted z
Finds t start wanted (Err z) = (wanted ≡ end) × InsideAt t start z

-- the search for what is wanted: at z stands the first of the clauses that are left, after a `~:;` or not, and s is what is
-- sought of those
pub record Seeking (t : List ℕ) (start : ℕ) (wanted : Sequence) (s : Sought) (z : ℕ) (colon : Bool) : Type 0 where
  pub same : wanted ≡ wanted_of s.number s.fallback (as_clauses colon (levels_at t z))
  pub inside : InsideAt t start z

-- the last clause, at z after a `~:;` or not: it runs as the fallback, or none does
abbrev pub fallen_back : ℕ → Bool → Bool → Result ℕ ℕ
fallen_back z fb colon = cond (both fb colon) (Ok z) (Err z)

-- the three ways to pick a clause by an argument
abbrev pub pick_two : View → ℕ → ℕ → Clauses → Context → ℕ → (Sequence → ℕ → Flow) → Flow
pick_two v p m cs c next on =
    with_argument v p m c next (λ x. on (clause_at cs (cond (is_false x) 0 1) end) (next + 1))

abbrev pub pick_one : View → ℕ → ℕ → Clauses → Context → ℕ → (Sequence → ℕ → Flow) → Flow
pick_one v p m cs c next on =
    with_argument v p m c next (λ x. on (cond (is_false x) end (clause_at cs 0 end)) (cond (is_false x) (next + 1) next))

abbrev pub pick_own : View → ℕ → ℕ → Clauses → Context → ℕ → (Sequence → ℕ → Flow) → Flow
pick_own v p m cs c next on = with_argument v p m c next (λ x. pick_by v p m cs c next on x)

-- how a run goes on from what is wanted of the clauses cs
abbrev pub on_wanted : ℕ → ℕ → Clauses → Result Wanted Refusal → (Sequence → ℕ → Flow) → Flow
on_wanted p m cs (Ok w) on = on (sought_of w.clause cs) w.next.0
on_wanted p m cs (Err refusal) on = refused (code_of refusal) p m

abbrev pub WantedIn : ℕ → Result Wanted Refusal → Type 0
WantedIn count (Ok w) = w.next.0 ≤ count
WantedIn count (Err refusal) = Unit {0}

-- r is what f wants, whatever the clauses: a directive at p with m steps left, whatever number j the arguments in hand
-- call the next
pub record Wants (count : ℕ) (f : ℕ → ℕ → ℕ → Clauses → (Sequence → ℕ → Flow) → Flow) (r : Result Wanted Refusal) : Type 0 where
  pub is : (p m j : ℕ) (cs : Clauses) (on : Sequence → ℕ → Flow) → f p m j cs on ≡ on_wanted p m cs r on
  pub inside : WantedIn count r

-- how a run goes on from a choice, where s gives the sequences that are open at each place
abbrev pub on_chosen : (ℕ → List Level) → ℕ → ℕ → Result Chosen Refusal → (Sequence → ℕ → Flow) → Flow
on_chosen s p m (Ok (At z k)) on = on (innermost (s z)).rest k.0
on_chosen s p m (Ok (Nothing z k)) on = on end k.0
on_chosen s p m (Err refusal) on = refused (code_of refusal) p m

-- what is chosen is a place of the block whose inside is at start, with the next argument of `count`
abbrev pub ChosenIn : List ℕ → ℕ → ℕ → Result Chosen Refusal → Type 0
ChosenIn t start count (Ok (At z k)) = InsideAt t start z × (k.0 ≤ count)
ChosenIn t start count (Ok (Nothing z k)) = InsideAt t start z × (k.0 ≤ count)
ChosenIn t start count (Err refusal) = Unit {0}

-- r is what f picks: a directive at p with m steps left, whatever number j the arguments in hand call the next
pub record Picks (t : List ℕ) (start count : ℕ) (f : ℕ → ℕ → ℕ → (Sequence → ℕ → Flow) → Flow) (r : Result Chosen Refusal) : Type 0 where
  pub is : (p m j : ℕ) (on : Sequence → ℕ → Flow) → f p m j on ≡ on_chosen (levels_at t) p m r on
  pub inside : ChosenIn t start count r

-- r is what the conditional d picks, whose inside is at its next place
abbrev pub Chooses : List ℕ → List ℕ → Hand → Directive → Settings → ℕ → Result Chosen Refusal → Type 0
Chooses t table hand d settings i r =
    Picks t d.after hand.count
    (λ p m j on. pick (view_of table) p m d (as_clauses false (levels_at t d.after)) (hand_at hand j) settings i on) r
