-- How large the numbers of a vet are: a way leads within the arguments, with at most a piece for each of its elements, or
-- fails with 6 to 8 or 11; and a count is at most 67,112,960. Assumes nothing.
use Prim.Native.Nat.{ℕ, zero, suc, ◌+◌, ◌*◌, ◌≤◌, ◌<◌}
use mathlib.Core.Bool.{Bool}
use mathlib.Core.Logic.{inl, inr}
use mathlib.Core.Path.{refl}
use mathlib.Core.List.{List}
use native.Mathlib.Omega.{arith}
use lib.Dec.{eqb}
use lib.ListN.{length}
use Rattle.rules.specs.Text.{Sequence, end, acts, escapes, iterates, chooses, Clauses, none, clause, deepest, sequence_of}
use Rattle.rules.specs.declared.Directive.{Directive}
use Rattle.vet_rules.specs.Turns.{argument, turn_of, Turn, Goes, Stops}
use Rattle.vet_rules.specs.Vet.{answer_by, vet_of}
use Rattle.vet_rules.specs.Ways.{Way, leads, fails, Ways, ending, failing, meeting, has_fallback, with_none, on_turn, on_way, on_ends, on_ways, start_of, way_of, ways_of}
use Rattle.vet_rules.specs.declared.Ends.{Ends}
use Rattle.vet_rules.specs.declared.Ends.TheVariants.{Nowhere, Equal, Unequal}
use Rattle.vet_rules.proofs.Clauses.{Each, clauses_in}
pub use Rattle.vet_rules.proofs.TurnLaws.{Turned, item_turned}
use Rattle.vet_rules.specs.Worst.{most_piece}
use Rattle.vet_rules.proofs.PieceSizes.{larger_most}
use Rattle.vet_rules.proofs.Stages.{Running, stages}
use Rattle.vet_rules.proofs.Starts.{Reason, Started, start_turned}
use Rattle.vet_rules.proofs.Vettable.{Choosing, Vettable, VettableClauses, text_vettable}
use Rattle.vet_rules.proofs.Uses.{by_test}
use Rattle.vet_rules.proofs.Weights.{weight, weights, text_weight}

abbrev pub most_count : ℕ
most_count = 67112960

-- a way, among so many arguments and with so many bytes at the most
abbrev pub Sized : ℕ → ℕ → Way → Type 0
Sized count most (leads n s) = (n ≤ count) × (s ≤ most)
Sized count most (fails code p) = Reason code

-- the ends of the ways, of which there is one at least
abbrev pub EndsSized : ℕ → ℕ → Ends → Type 0
EndsSized count most Nowhere = ⊥
EndsSized count most (Equal n s) = (n.0 ≤ count) × (s ≤ most)
EndsSized count most Unequal = Unit {0}

abbrev WaysSized : ℕ → ℕ → Ways → Type 0
WaysSized count most (ending e) = EndsSized count most e
WaysSized count most (failing code p) = Reason code

module _ (count : ℕ) where
  -- one way more
  pub meeting_sized : (most : ℕ) (e : Ends) (n s : ℕ) → EndsSized count most e → s ≤ most
      → EndsSized count most (meeting e n s)
  unfolding meeting
  meeting_sized most Nowhere n s h l = absurd h
  meeting_sized most (Equal a b) n s h l =
      by_test (EndsSized count most) (eqb a.0 n) _ Unequal (λ _. (h.0, larger_most b s most h.1 l)) (λ _. tt)
  meeting_sized most Unequal n s h l = tt

  pub none_sized : (most : ℕ) (d : Directive) (fallback : Bool) (start : ℕ) (e : Ends) → EndsSized count most e
      → EndsSized count most (with_none d fallback start e)
  none_sized most d fallback start e h =
      by_test (EndsSized count most) d.colon e _ (λ _. h)
      (λ _. by_test (EndsSized count most) d.atsign _ _ (λ _. meeting_sized most e (start + 1) 0 h (omega arith))
      (λ _. by_test (EndsSized count most) fallback e _ (λ _. h) (λ _. meeting_sized most e start 0 h (omega arith))))

  longer : (w : Way) {most more : ℕ} → most ≤ more → Sized count most w → Sized count more w
  longer (leads n s) l h = (h.0, omega arith)
  longer (fails code p) l h = h

  after_way : (m most : ℕ) (w : Way) (on : ℕ → ℕ → Ways) → Sized count m w
      → ((n s : ℕ) → n ≤ count → s ≤ m → WaysSized count most (on n s)) → WaysSized count most (on_way w on)
  after_way m most (leads n s) on h f = f n s h.0 h.1
  after_way m most (fails code p) on h f = h

module _ (kinds : List ℕ) (longest : ℕ) where
  abbrev count : ℕ
  count = length kinds

  -- a sequence from any argument, with `sum` bytes before it
  abbrev pub WaySized : Sequence → Type 0
  WaySized x = (next sum : ℕ) → next ≤ count → Sized count (sum + most_piece * weight x) (way_of kinds longest x next sum)

  -- the clauses after one that has ended
  more_sized : (most : ℕ) (cs : Clauses) → most_piece * weights cs ≤ most → Each WaySized cs → (start : ℕ) → start ≤ count
      → (e : Ends) → EndsSized count most e
      → WaysSized count most (ways_of kinds longest cs start e)
  unfolding way_of weight
  more_sized most none l a start g e h = h
  more_sized most (clause colon x more) l a start g e h =
      after_way count (0 + most_piece * weight x) most (way_of kinds longest x start 0) _ (a.0 start 0 g)
      (λ n s i k. more_sized most more (omega arith) a.1 start g (meeting e n s)
      (meeting_sized count most e n s h (omega arith)))

  -- all of them
  clauses_sized : (cs : Clauses) → 0 < clauses_in cs → Each WaySized cs → (start : ℕ) → start ≤ count
      → WaysSized count (most_piece * weights cs) (ways_of kinds longest cs start Nowhere)
  unfolding way_of weight meeting clauses_in
  clauses_sized none z a start g = absurd (omega arith)
  clauses_sized (clause colon x more) z a start g =
      let most = most_piece * (weight x + weights more) in
      after_way count (0 + most_piece * weight x) most (way_of kinds longest x start 0) _ (a.0 start 0 g)
      (λ n s i k. more_sized most more (omega arith) a.1 start g (Equal (argument n) s) (i, omega arith))

  -- an item and what follows it
  by_turn : (p : ℕ) (rest : Sequence) → WaySized rest → (sum : ℕ) (t : Turn) → Turned count t
      → Sized count (sum + most_piece * suc (weight rest)) (on_turn p t sum (λ n s. way_of kinds longest rest n s))
  by_turn p rest after sum (Goes next size) h =
      longer count (way_of kinds longest rest next.0 (sum + size)) (omega arith) (after next.0 (sum + size) h.0)
  by_turn p rest after sum (Stops code) h = inl h

  -- a conditional and what follows it
  module _ (p : ℕ) (d : Directive) (cs : Clauses) (rest : Sequence) (b : Choosing d cs) (each : Each WaySized cs)
      (after : WaySized rest) (sum : ℕ) where
    abbrev inside : ℕ
    inside = most_piece * weights cs

    abbrev Goal : Way → Type 0
    Goal w = Sized count (sum + most_piece * weight (chooses p d cs rest)) w

    by_ends : (e : Ends) → EndsSized count inside e
        → Goal (on_ends p e (λ n size. way_of kinds longest rest n (sum + 0 + size)))
    unfolding weight
    by_ends Nowhere h = absurd h
    by_ends (Equal n s) h =
        longer count (way_of kinds longest rest n.0 (sum + 0 + s)) (omega arith) (after n.0 (sum + 0 + s) h.0)
    by_ends Unequal h = inr refl

    by_ways : (start : ℕ) (w : Ways) → WaysSized count inside w
        → Goal (on_ways p (with_none d (has_fallback cs) start) w (λ n size. way_of kinds longest rest n (sum + 0 + size)))
    by_ways start (ending e) h =
        by_ends (with_none d (has_fallback cs) start e) (none_sized count inside d (has_fallback cs) start e h)
    by_ways start (failing code q) h = h

    by_start : (t : Turn) → Started count t
        → Goal (on_turn p t sum
        (λ start sum₂. on_ways p (with_none d (has_fallback cs) start) (ways_of kinds longest cs start Nowhere)
        (λ n size. way_of kinds longest rest n (sum₂ + size))))
    by_start (Goes start size) h =
        rw h.1 (by_ways start.0 (ways_of kinds longest cs start.0 Nowhere) (clauses_sized cs b.some each start.0 h.0))
    by_start (Stops code) h = h

  module _ (hl : longest ≤ 4096) where
    mutual
      unfolding Vettable way_of weight

      pub way_sized : (x : Sequence) (k : ℕ) → Vettable k x → WaySized x
      way_sized end k t = λ next sum h. (h, omega arith)
      way_sized (acts p x rest) k t = λ next sum h.
          by_turn p rest (way_sized rest k t.1) sum (turn_of kinds longest x next)
          (item_turned kinds longest hl x t.0 next h)
      way_sized (escapes p rest) k t = absurd t
      way_sized (iterates p d body rest) k t = absurd t
      way_sized (chooses p d cs rest) zero t = absurd t
      way_sized (chooses p d cs rest) (suc k) t = λ next sum h.
          by_start p d cs rest t.0 (each_sized cs k t.1) (way_sized rest (suc k) t.2) sum
          (start_of kinds longest d next) (start_turned kinds longest d next h t.0.opener)

      each_sized : (cs : Clauses) (k : ℕ) → VettableClauses k cs → Each WaySized cs
      each_sized none k t = tt
      each_sized (clause colon x more) k t = (way_sized x k t.0, each_sized more k t.1)

-- the way through a text
pub text_sized : (format kinds : List ℕ) (longest : ℕ) → Running format kinds longest
    → Sized (length kinds) (most_piece * 4096) (way_of kinds longest (sequence_of format) 0 0)
text_sized format kinds longest r =
    let x = sequence_of format in
    longer (length kinds) (way_of kinds longest x 0 0) (omega (arith, text_weight format r.text))
    (way_sized kinds longest r.asked.long x deepest (text_vettable format r.text r.vettable) 0 0 (omega arith))

-- the count of an answer, whatever was asked
pub vet_count : (format kinds : List ℕ) (longest : ℕ) → (vet_of format kinds longest).count ≤ most_count
vet_count format kinds longest =
    stages format kinds longest (λ r. r.count ≤ most_count) (λ _. omega arith) (λ _ code p e l h. omega arith)
    (λ _ t p e. omega arith) (λ r. by (way_of kinds longest (sequence_of format) 0 0) (text_sized format kinds longest r))
  where
    by : (w : Way) → Sized (length kinds) (most_piece * 4096) w → (answer_by w).count ≤ most_count
    by (leads n s) h = omega arith
    by (fails code p) h = omega arith
