-- Over all values of the kinds, a sequence that a vet takes runs to where its way leads, and gives no more bytes. Assumes
-- nothing.
use Prim.Native.Nat.{ℕ, zero, suc, ◌+◌, ◌-◌, ◌≤◌, ◌<◌}
use mathlib.Core.Path.{◌≡◌}
use mathlib.Core.List.{List, ◌∷◌}
use native.Mathlib.Omega.{arith}
use lib.ListN.{length}
use Rattle.rules.specs.Flow.{Flow}
use Rattle.rules.specs.Piece.{kind_of}
use Rattle.rules.specs.Run.{conditional, run}
use Rattle.rules.specs.Table.{View}
use Rattle.rules.specs.Text.{Sequence, end, acts, escapes, iterates, chooses, Clauses, none, clause}
use Rattle.rules.specs.declared.Directive.{Directive}
use Rattle.rules.proofs.RunLaws.{begin_yes, run_chooses, nested_yes}
use Rattle.vet_rules.specs.Turns.{kind_in, Turn, Goes, Stops}
use Rattle.vet_rules.specs.Use.{in_hand}
use Rattle.vet_rules.specs.Ways.{Way, Ways, ending, failing, has_fallback, with_none, on_turn, on_ends, on_ways, start_of, way_of, ways_of}
use Rattle.vet_rules.specs.declared.Ends.{Ends}
use Rattle.vet_rules.specs.declared.Ends.TheVariants.{Nowhere, Equal, Unequal}
use Rattle.vet_rules.proofs.Clauses.{Each, each_on}
use Rattle.vet_rules.proofs.ItemRuns.{acts_walks}
use Rattle.vet_rules.proofs.Meetings.{Led, Met, AllMet, led_on, NoneEnds, clauses_met, none_met}
use Rattle.vet_rules.proofs.Picks.{chosen, Any, picks}
use Rattle.vet_rules.proofs.PlainRun.{value_in}
use Rattle.vet_rules.proofs.Reached.{Reached, Runs, Walks, reached_weaker, runs_grow, reached_end, reached_after}
use Rattle.vet_rules.proofs.Starts.{Begun}
use Rattle.vet_rules.proofs.Vettable.{Vettable, VettableClauses}
use Rattle.vet_rules.proofs.Values.{Allowed}
use Rattle.vet_rules.proofs.Weights.{weight, weights}

module _ (kinds : List ℕ) (longest : ℕ) (v : View) where
  abbrev count : ℕ
  count = length kinds

  -- every clause of a conditional, from the argument `start`
  clauses_walk : (k most start : ℕ) (cs : Clauses) → weights cs ≤ most → Each (Walks kinds longest v k) cs
      → Each (λ x. Led (Runs v count k most x start 0) (way_of kinds longest x start 0)) cs
  unfolding weight
  clauses_walk k most start none h a = tt
  clauses_walk k most start (clause colon x more) h a = (
    led_on (Runs v count k (weight x) x start 0) (Runs v count k most x start 0)
        (λ n s r ks d left l. reached_weaker v count (omega arith) (omega arith) (omega arith) (r ks d left (omega arith)))
        (way_of kinds longest x start 0) (a.0 start 0),
    clauses_walk k most start more (omega arith) a.1,
  )

  -- a conditional and what follows it
  module _ (k p : ℕ) (d : Directive) (cs : Clauses) (rest : Sequence) (walk : Walks kinds longest v (suc k) rest)
      (next sum : ℕ) where
    abbrev most : ℕ
    most = weights cs

    abbrev Goal : Way → Type 0
    Goal w = Led (Runs v count (suc k) (weight (chooses p d cs rest)) (chooses p d cs rest) next sum) w

    -- what is known where the clauses meet: each runs to there
    abbrev Together : ℕ → ℕ → ℕ → Type 0
    Together start n s = Each (λ x. Runs v count k most x start 0 n s) cs

    -- what holds of whatever may be run from `start` holds of the conditional
    abbrev Begins : ℕ → Type 1
    Begins start = (m : ℕ) (on : Sequence → ℕ → Flow) (P : Flow → Type 0) → Any d cs (λ x i. P (on x i)) start
        → P (chosen v count p m d cs next on)

    -- the ways meet at the argument a with c bytes, where the clauses start with z bytes
    met_runs : (start z a c : ℕ) → Begins start → Together start a c × NoneEnds d (has_fallback cs) start a → (n s : ℕ)
        → Runs v count (suc k) (weight rest) rest a (sum + z + c) n s
        → Runs v count (suc k) (suc (most + weight rest)) (chooses p d cs rest) next sum n s
    met_runs start z a c begins met n s after ks h left l =
        let m = left - 1 in
        let inside = conditional rest ∷ ks in
        let on : Sequence → ℕ → Flow = λ x i. run v m x inside (in_hand count i) in
        let P : Flow → Type 0 = λ f. Reached v count f inside (m - most) 0 a c in
        let nothing : P (on end a) = reached_end v count m inside (m - most) 0 a c (omega arith) (omega arith) in
        let one = begins m on P (record {
          each =
              each_on (λ x. Runs v count k most x start 0 a c) (λ x. P (on x start))
              (λ x r. r inside (omega arith) m (omega arith)) cs met.0;
          boolean = λ e f. rw (met.1.boolean e f) nothing;
          number = λ e f g. rw (met.1.number e f g) nothing;
        }) in
        rw (
          run_chooses v (in_hand count next) p rest d cs ks left,
          nested_yes v p left ks _ (omega arith),
          begin_yes p left _ (λ z. omega arith),
        )
        (reached_weaker v count (omega arith) (omega arith) (omega arith)
        (reached_after v count rest a c (m - most) (weight rest) (sum + z) one (λ i g. after ks h i (omega arith))))

    by_ends : (start z : ℕ) → Begins start → (e : Ends)
        → Met (λ n s. Together start n s × NoneEnds d (has_fallback cs) start n) e
        → Goal (on_ends p e (λ n size. way_of kinds longest rest n (sum + z + size)))
    unfolding weight
    by_ends start z begins Nowhere h = tt
    by_ends start z begins (Equal a c) h =
        led_on (Runs v count (suc k) (weight rest) rest a.0 (sum + z + c))
        (Runs v count (suc k) (suc (most + weight rest)) (chooses p d cs rest) next sum) (met_runs start z a.0 c begins h)
        (way_of kinds longest rest a.0 (sum + z + c)) (walk a.0 (sum + z + c))
    by_ends start z begins Unequal h = tt

    by_ways : (start z : ℕ) → Begins start → (w : Ways) → AllMet (Together start) w
        → Goal (on_ways p (with_none d (has_fallback cs) start) w (λ n size. way_of kinds longest rest n (sum + z + size)))
    by_ways start z begins (ending e) h =
        by_ends start z begins (with_none d (has_fallback cs) start e)
        (none_met d (has_fallback cs) start (Together start)
        (λ n s more l r. each_on _ _ (λ x t. runs_grow v count k most x start 0 n s more l t) cs r) e h)
    by_ways start z begins (failing code q) h = tt

    by_start : Each (Walks kinds longest v k) cs → (t : Turn)
        → ((m : ℕ) (on : Sequence → ℕ → Flow) (P : Flow → Type 0)
        → Begun (λ start. Any d cs (λ x i. P (on x i)) start → P (chosen v count p m d cs next on)) t)
        → Goal (on_turn p t sum
        (λ start sum₂. on_ways p (with_none d (has_fallback cs) start) (ways_of kinds longest cs start Nowhere)
        (λ n size. way_of kinds longest rest n (sum₂ + size))))
    by_start walks (Goes start z) begins =
        let i = start.0 in
        by_ways i z begins (ways_of kinds longest cs i Nowhere)
        (clauses_met kinds longest i (λ x. Runs v count k most x i 0) (λ x. runs_grow v count k most x i 0) cs
        (clauses_walk k most i cs (omega arith) walks))
    by_start walks (Stops code) begins = tt

module _ (kinds : List ℕ) (longest : ℕ) (v : View)
    (agree : (i : ℕ) → i < length kinds → kind_of (value_in v (length kinds) i) ≡ kind_in kinds i)
    (allowed : (i : ℕ) → i < length kinds → Allowed longest (value_in v (length kinds) i)) where
  mutual
    unfolding Vettable way_of weight

    pub sequence_walks : (x : Sequence) (k : ℕ) → Vettable k x → Walks kinds longest v k x
    sequence_walks end k t = λ next sum ks h left l.
        reached_end v (length kinds) left ks (left - 0) sum next sum (omega arith) (omega arith)
    sequence_walks (acts p x rest) k t =
        acts_walks kinds longest v agree allowed k p x rest t.0 (sequence_walks rest k t.1)
    sequence_walks (escapes p rest) k t = absurd t
    sequence_walks (iterates p d body rest) k t = absurd t
    sequence_walks (chooses p d cs rest) zero t = absurd t
    sequence_walks (chooses p d cs rest) (suc k) t = λ next sum.
        by_start kinds longest v k p d cs rest (sequence_walks rest (suc k) t.2) next sum (clauses_walks cs k t.1)
        (start_of kinds longest d next) (λ m on P. picks kinds longest v agree p m d cs t.0 next on P)

    clauses_walks : (cs : Clauses) (k : ℕ) → VettableClauses k cs → Each (Walks kinds longest v k) cs
    clauses_walks none k t = tt
    clauses_walks (clause colon x more) k t = (sequence_walks x k t.0, clauses_walks more k t.1)
