-- A way that fails with 11 fails at a conditional's tilde: nowhere else does a run over kinds meet it. Assumes nothing.
use Prim.Native.Nat.{ℕ, zero, suc, ◌+◌}
use mathlib.Core.Path.{◌≡◌}
use mathlib.Core.List.{List}
use native.Mathlib.Omega.{arith}
use Rattle.rules.specs.Text.{Sequence, end, acts, escapes, iterates, chooses, Clauses, none, clause, deepest, text_verdict, sequence_of}
use Rattle.rules.specs.Verdict.{Accepted}
use Rattle.rules.proofs.WellFormed.{WellFormed, WellFormedClauses, sequence_formed}
use Rattle.vet_rules.specs.Demand.{OpensAt}
use Rattle.vet_rules.specs.Plain.{vettable_verdict}
use Rattle.vet_rules.specs.Turns.{turn_of, Turn, Goes, Stops}
use Rattle.vet_rules.specs.Ways.{Way, leads, fails, Ways, ending, failing, on_turn, on_way, on_ends, on_ways, meeting, with_none, has_fallback, start_of, way_of, ways_of}
use Rattle.vet_rules.specs.declared.Ends.{Ends}
use Rattle.vet_rules.specs.declared.Ends.TheVariants.{Nowhere, Equal, Unequal}
use Rattle.vet_rules.proofs.TurnLaws.{Low, item_low}
use Rattle.vet_rules.proofs.Vettable.{Vettable, VettableClauses, text_vettable}

module _ (t : List ℕ) where
  -- 11 is met at a conditional
  abbrev AtBlock : ℕ → ℕ → Type 0
  AtBlock code p = code ≡ 11 → OpensAt t p

  abbrev pub Blocked : Way → Type 0
  Blocked (leads n s) = Unit {0}
  Blocked (fails code p) = AtBlock code p

  abbrev AllBlocked : Ways → Type 0
  AllBlocked (ending e) = Unit {0}
  AllBlocked (failing code p) = AtBlock code p

  -- an item stops with 6 to 8
  by_item : (p : ℕ) (x : Turn) → Low x → (sum : ℕ) (on : ℕ → ℕ → Way) → ((n s : ℕ) → Blocked (on n s))
      → Blocked (on_turn p x sum on)
  by_item p (Goes n s) l sum on h = h n.0 (sum + s)
  by_item p (Stops code) l sum on h = λ e. absurd (omega arith)

  by_way : (w : Way) (on : ℕ → ℕ → Ways) → Blocked w → ((n s : ℕ) → AllBlocked (on n s)) → AllBlocked (on_way w on)
  by_way (leads n s) on b h = h n s
  by_way (fails code p) on b h = b

  -- a conditional at p
  module _ (p : ℕ) (here : OpensAt t p) (on : ℕ → ℕ → Way) (h : (n s : ℕ) → Blocked (on n s)) where
    by_ends : (e : Ends) → Blocked (on_ends p e on)
    by_ends Nowhere = λ _. here
    by_ends (Equal n s) = h n.0 s
    by_ends Unequal = λ _. here

    by_ways : (closing : Ends → Ends) (w : Ways) → AllBlocked w → Blocked (on_ways p closing w on)
    by_ways closing (ending e) b = by_ends (closing e)
    by_ways closing (failing code q) b = b

  by_start : (p : ℕ) → OpensAt t p → (x : Turn) (sum : ℕ) (on : ℕ → ℕ → Way) → ((n s : ℕ) → Blocked (on n s))
      → Blocked (on_turn p x sum on)
  by_start p here (Goes n s) sum on h = h n.0 (sum + s)
  by_start p here (Stops code) sum on h = λ _. here

  module _ (kinds : List ℕ) (longest : ℕ) where
    mutual
      unfolding WellFormed Vettable way_of

      blocked : (x : Sequence) (k : ℕ) → WellFormed t k x → Vettable k x → (next sum : ℕ)
          → Blocked (way_of kinds longest x next sum)
      blocked end k f v next sum = tt
      blocked (acts p x rest) k f v next sum =
          by_item p (turn_of kinds longest x next) (item_low kinds longest x v.0 next) sum
          (λ n s. way_of kinds longest rest n s) (λ n s. blocked rest k f.1 v.1 n s)
      blocked (escapes p rest) k f v next sum = absurd v
      blocked (iterates p d body rest) k f v next sum = absurd v
      blocked (chooses p d cs rest) zero f v next sum = absurd v
      blocked (chooses p d cs rest) (suc k) f v next sum =
          let here : OpensAt t p = record { opener = d; is = f.0.is; code = v.0.opener.code } in
          by_start p here (start_of kinds longest d next) sum
          (λ start sum₂. on_ways p (with_none d (has_fallback cs) start) (ways_of kinds longest cs start Nowhere)
          (λ n s. way_of kinds longest rest n (sum₂ + s)))
          (λ start sum₂. by_ways p here (λ n s. way_of kinds longest rest n (sum₂ + s))
          (λ n s. blocked rest (suc k) f.2 v.2 n (sum₂ + s))
          (with_none d (has_fallback cs) start) (ways_of kinds longest cs start Nowhere)
          (all_blocked cs k f.1 v.1 start Nowhere))

      all_blocked : (cs : Clauses) (k : ℕ) → WellFormedClauses t k cs → VettableClauses k cs → (start : ℕ) (e : Ends)
          → AllBlocked (ways_of kinds longest cs start e)
      all_blocked none k f v start e = tt
      all_blocked (clause colon x more) k f v start e =
          by_way (way_of kinds longest x start 0) (λ n s. ways_of kinds longest more start (meeting e n s))
          (blocked x k f.0 v.0 start 0) (λ n s. all_blocked more k f.1 v.1 start (meeting e n s))

    pub text_blocked : text_verdict t ≡ Accepted → vettable_verdict t ≡ Accepted
        → Blocked (way_of kinds longest (sequence_of t) 0 0)
    text_blocked a v = blocked (sequence_of t) deepest (sequence_formed t a) (text_vettable t a v) 0 0
