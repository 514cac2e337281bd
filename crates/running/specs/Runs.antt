-- What each runner promises, whatever blocks are open around it. Assumes nothing: these are definitions.
use Rattle.std.specs.Prelude.{◌≡◌, List, ◌∷◌, Bool, true, false, ℕ, ◌<◌, ◌≤◌, ◌+◌, length}
use Rattle.rules.specs.Table.{View}
use Rattle.rules.specs.Text.{Sequence, end, acts, escapes, iterates, chooses, Level, innermost, outer, before, as_clauses, deepest}
use Rattle.rules.specs.Working.{Context}
use Rattle.rules.specs.Run.{Flow, Frame, iteration, conditional, Outside, afterwards, with_settings, pick, enter, leave, run}
use Rattle.rules.specs.declared.Code.{Code}
use Rattle.rules.specs.declared.Code.TheVariants.{Writes, Jump, Escape, Opens, Separator, Closes, Unknown}
use Rattle.rules.specs.declared.Directive.{Directive}
use Rattle.rules.specs.declared.Item.{Item}
use Rattle.rules.specs.declared.Item.TheVariants.{Written}
use Rattle.rules.specs.Setting.{Setting}
use Rattle.rules.specs.declared.Settings.{Settings}
use Rattle.actions.specs.declared.state.Stop.TheVariants.{Ended}
use Rattle.actions.specs.declared.state.Ran.{Ran}
use Rattle.actions.specs.declared.state.Spot.{Spot}
use Rattle.actions.specs.Ran.{ended_ran, Same, Does}

-- What stands at a place, where s gives the sequences that are open at each place: those of a text, or of an array that
-- it was read into. Each has the position x that it reports and the place q of what follows it, or of its inside
pub record ActsAt (s : ℕ → List Level) (p x : ℕ) (i : Item) (q : ℕ) : Type 0 where
  pub is : s p ≡ before (acts x i) (s q)

pub record EscapesAt (s : ℕ → List Level) (p x q : ℕ) : Type 0 where
  pub is : s p ≡ before (escapes x) (s q)

-- a directive d that acts or escapes, by its code; of the other codes nothing is said
abbrev pub AloneAt : (ℕ → List Level) → ℕ → ℕ → Directive → Code → Type 0
AloneAt s p x d (Writes f) = ActsAt s p x (Written d) d.after
AloneAt s p x d Jump = ActsAt s p x (Written d) d.after
AloneAt s p x d Escape = EscapesAt s p x d.after
AloneAt s p x d (Opens b) = Unit {0}
AloneAt s p x d Separator = Unit {0}
AloneAt s p x d (Closes b) = Unit {0}
AloneAt s p x d Unknown = Unit {0}

pub record IteratesAt (s : ℕ → List Level) (p x : ℕ) (d : Directive) (q : ℕ) : Type 0 where
  pub is : s p ≡ before (iterates x d (innermost (s q)).rest) (outer (s q))

pub record ChoosesAt (s : ℕ → List Level) (p x : ℕ) (d : Directive) (q : ℕ) : Type 0 where
  pub is : s p ≡ before (chooses x d (as_clauses false (s q))) (outer (s q))

-- the place q is behind the place p, of n
pub record Ahead (n p q : ℕ) : Type 0 where
  pub least : p < q
  pub most : q ≤ n

-- the sequence that is open at p ends at the place q, of n
pub record EndsAt (s : ℕ → List Level) (n p q : ℕ) : Type 0 where
  pub stop : (innermost (s q)).rest ≡ end
  pub around : outer (s q) ≡ outer (s p)
  pub least : p ≤ q
  pub most : q ≤ n

-- q is the place after the block whose inside, or a clause of it, is at p
pub record After (s : ℕ → List Level) (n p q : ℕ) : Type 0 where
  pub is : s q ≡ outer (s p)
  pub least : p ≤ q
  pub most : q ≤ n

-- what is left of a sequence at a place, and how a run goes on where it is left
abbrev pub rest_at : (ℕ → List Level) → ℕ → Sequence
rest_at s p = (innermost (s p)).rest

abbrev pub leaving : View → List Frame → (ℕ → Context) → ℕ → ℕ → Flow
leaving v ks c left i = leave v (λ x₂ ks₂ c₂. run v left x₂ ks₂ c₂) left ks (c i)

-- A run of a kind: from f, whatever blocks are open and with `level` levels left for blocks; where it ends, `on` comes
-- next. c gives the arguments in hand by the number of the next
abbrev pub RunsTo : View → (ℕ → Context) → ℕ → (List Frame → Flow) → (List Frame → ℕ → ℕ → Flow) → ℕ → List ℕ → List ℕ → Ran → Type 0
RunsTo v c level f on at b e r =
    (ks : List Frame) → length ks + level ≡ deepest → Same (f ks) (on ks) (leaving v ks c) at b e r

-- the sequence that is open at p
pub record Runs (s : ℕ → List Level) (n : ℕ) (v : View) (c : ℕ → Context) (level p i left at : ℕ) (b e : List ℕ) (r : Ran) : Type 0 where
  pub does : Does (RunsTo v c level (λ ks. run v left (rest_at s p) ks (c i)) (λ ks l j. run v l end ks (c j)) at b e r) (c 0).count left at b e r
  pub ends : r.stop ≡ Ended → EndsAt s n p r.place

-- items from p on, after which the text goes on at r's place, which is low or behind it
pub record Covers (s : ℕ → List Level) (n : ℕ) (v : View) (c : ℕ → Context) (level p low i left at : ℕ) (b e : List ℕ) (r : Ran) : Type 0 where
  pub does : Does (RunsTo v c level (λ ks. run v left (rest_at s p) ks (c i)) (λ ks l j. run v l (rest_at s r.place) ks (c j)) at b e r) (c 0).count left at b e r
  pub around : r.stop ≡ Ended → outer (s r.place) ≡ outer (s p)
  pub least : r.stop ≡ Ended → low ≤ r.place
  pub most : r.stop ≡ Ended → r.place ≤ n

-- the item at p
abbrev pub Steps : (ℕ → List Level) → ℕ → View → (ℕ → Context) → ℕ → ℕ → ℕ → ℕ → ℕ → List ℕ → List ℕ → Ran → Type 0
Steps s n v c level p i left at b e r = Covers s n v c level p (p + 1) i left at b e r

-- any number of items from p on, none perhaps
abbrev pub Strides : (ℕ → List Level) → ℕ → View → (ℕ → Context) → ℕ → ℕ → ℕ → ℕ → ℕ → List ℕ → List ℕ → Ran → Type 0
Strides s n v c level p i left at b e r = Covers s n v c level p p i left at b e r

-- a block whose inside is at q and which does f once it is begun, with `level` levels left inside it
pub record Blocks (s : ℕ → List Level) (n : ℕ) (v : View) (c : ℕ → Context) (level q : ℕ) (f : List Frame → Flow) (left at : ℕ) (b e : List ℕ) (r : Ran) : Type 0 where
  pub does : Does (RunsTo v c (level + 1) f (λ ks l j. run v l (rest_at s r.place) ks (c j)) at b e r) (c 0).count left at b e r
  pub after : r.stop ≡ Ended → After s n q r.place

-- what a conditional at p does once its parameters are worked out, st, and j is the next argument
abbrev pub picking : (ℕ → List Level) → View → (ℕ → Context) → ℕ → Directive → ℕ → ℕ → ℕ → Settings → ℕ → List Frame → Flow
picking s v c p d q i left st j ks =
    pick v p left d (as_clauses false (s q)) (c i) st j (λ x after. run v left x (conditional (innermost (outer (s q))).rest ∷ ks) (c after))

-- what an iteration does
abbrev pub entering : (ℕ → List Level) → View → (ℕ → Context) → ℕ → Directive → ℕ → ℕ → ℕ → Settings → ℕ → List Frame → Flow
entering s v c p d q i left st j ks =
    enter v p left d (rest_at s q) (innermost (outer (s q))).rest (c i) st j (λ k inner. run v left end (k ∷ ks) inner)

-- what a block at p does once it is begun, an iteration or a conditional
abbrev pub inside : Bool → (ℕ → List Level) → View → (ℕ → Context) → ℕ → Directive → ℕ → ℕ → ℕ → Settings → ℕ → List Frame → Flow
inside true = entering
inside false = picking

abbrev pub opening : Bool → (ℕ → List Level) → View → (ℕ → Context) → ℕ → Directive → ℕ → ℕ → ℕ → List Frame → Flow
opening looped s v c p d q i left ks = with_settings v p left d (c i) (λ st j. inside looped s v c p d q i left st j ks)

-- the passes of the iteration at p whose inside is at q, over the arguments that c gives; it ends as the arguments in
-- hand outside want it
pub record Passes (s : ℕ → List Level) (n : ℕ) (v : View) (c : ℕ → Context) (level p q i : ℕ) (passes : Setting) (left at : ℕ) (b e : List ℕ) (r : Ran) : Type 0 where
  pub does : Does ((ks : List Frame) (out : Outside) (away : ℕ → ℕ → Flow) → length ks + (level + 1) ≡ deepest
      → Same (run v left end (iteration p passes (rest_at s q) (innermost (outer (s q))).rest out ∷ ks) (c i)) (λ l j. run v l (rest_at s r.place) ks (afterwards out (c j))) away at b e r) (c 0).count left at b e r
  pub after : r.stop ≡ Ended → After s n q r.place

-- the clause at z of the block whose inside is at q
pub record RunsClause (s : ℕ → List Level) (n : ℕ) (v : View) (c : ℕ → Context) (level q z i left at : ℕ) (b e : List ℕ) (r : Ran) : Type 0 where
  pub is : (f : List Frame → Flow) → ((ks : List Frame) → f ks ≡ run v left (rest_at s z) (conditional (innermost (outer (s q))).rest ∷ ks) (c i))
      → Blocks s n v c level q f left at b e r

-- nothing is written, and the text goes on after the block whose inside is at q
pub record EndsBlock (s : ℕ → List Level) (n : ℕ) (spot : Spot) (q i : ℕ) (r : Ran) : Type 0 where
  pub is : r ≡ ended_ran i spot.left spot.at r.place
  pub after : After s n q r.place
