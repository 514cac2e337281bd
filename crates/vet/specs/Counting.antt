-- What the parts of a count promise, in terms of the ways through the sequences that are open at a place of the text.
-- Assumes nothing: these are definitions.
use Rattle.std.specs.Prelude.{ℕ, ◌+◌, ◌*◌, ◌-◌, ◌≤◌, ◌<◌, ◌≡◌, true, false, List, Result, Ok, Err, length}
use Rattle.rules.specs.Refusals.{code_of}
use Rattle.rules.specs.Text.{Block, tokens_at, verdict_at, end, innermost, outer, as_clauses, levels_at}
use Rattle.rules.specs.declared.Directive.{Directive}
use Rattle.rules.specs.declared.refusal.Fault.{Fault}
use Rattle.rules.specs.Verdict.{Accepted}
use Rattle.syntax.specs.Ends.{AfterBlock, EndsClause}
use Rattle.syntax.specs.declared.ends.ClauseEnd.{ClauseEnd}
use Rattle.syntax.specs.declared.ends.ClauseEnd.TheVariants.{Last, Another}
use Rattle.vet_rules.specs.Plain.{plain_from}
use Rattle.vet_rules.specs.Ways.{Way, leads, fails, with_none, has_fallback, on_ends, on_ways, way_of, ways_of}
use Rattle.vet_rules.specs.declared.Ends.{Ends}
use Rattle.vet_rules.specs.declared.Ends.TheVariants.{Nowhere, Equal, Unequal}
use Rattle.vet_rules.specs.Worst.{most_piece}
use Rattle.vet.specs.declared.counting.Clauses.{Clauses}
use Rattle.vet.specs.declared.counting.Counted.{Counted}
use Rattle.vet.specs.declared.counting.Element.{Element}
use Rattle.vet.specs.declared.counting.Element.TheVariants.{Leads, Ends as ElementEnds}

-- Reading on from p meets no fault inside some open blocks, and nothing that a vet does not take
pub record VettableAt (t : List ℕ) (p : ℕ) : Type 0 where
  pub blocks : List Block
  pub accepted : verdict_at t blocks p ≡ Accepted
  pub plain : plain_from true (tokens_at t p) ≡ Accepted
  pub inside : p ≤ length t
  pub short : length t ≤ 4096

-- what the ways through a block come to: an argument that there is, and no more bytes than that
abbrev pub EndsIn : ℕ → ℕ → Ends → Type 0
EndsIn count most Nowhere = Unit {0}
EndsIn count most (Equal n s) = (n.0 ≤ count) × (s ≤ most)
EndsIn count most Unequal = Unit {0}

-- where a clause stops, and where the text goes on after its end
abbrev pub stop_of : ClauseEnd → ℕ
stop_of (Last q next) = q
stop_of (Another q colon next) = q

abbrev pub after_of : ClauseEnd → ℕ
after_of (Last q next) = next
after_of (Another q colon next) = next

-- the sequence has no element at p
pub record AtEnd (t : List ℕ) (p : ℕ) (e : ClauseEnd) : Type 0 where
  pub rest : (innermost (levels_at t p)).rest ≡ end
  pub ends : EndsClause t p e
  pub here : stop_of e ≡ p
  pub vettable : VettableAt t (after_of e)

module _ (t kinds : List ℕ) (longest : ℕ) where
  -- the way through the rest of the sequence at p
  abbrev pub way_at : ℕ → ℕ → ℕ → Way
  way_at p next sum = way_of kinds longest (innermost (levels_at t p)).rest next sum

  -- From p on the text goes on at q with the argument `after`, and at most `size` bytes are between: no more than a
  -- piece's for each byte of the text
  pub record Reaches (p q after size : ℕ) : Type 0 where
    pub reached : after ≤ length kinds
    pub small : size ≤ most_piece * (q - p)
    pub vettable : VettableAt t q

  -- the element at p, and what follows it at q in the same sequence
  pub record Onward (p next after size q : ℕ) : Type 0 where
    pub way : (sum : ℕ) → way_at p next sum ≡ way_at q after (sum + size)
    pub more : (innermost (levels_at t p)).more ≡ (innermost (levels_at t q)).more
    pub outside : outer (levels_at t p) ≡ outer (levels_at t q)
    pub ahead : p < q
    pub reaches : Reaches p q after size

  abbrev pub LeadsTo : ℕ → ℕ → Element → Type 0
  LeadsTo p next (Leads r q) = Onward p next r.next.0 r.size q
  LeadsTo p next (ElementEnds e) = AtEnd t p e

  abbrev pub ElementIs : ℕ → ℕ → Result Element Fault → Type 0
  ElementIs p next (Ok e) = LeadsTo p next e
  ElementIs p next (Err f) = (sum : ℕ) → way_at p next sum ≡ fails (code_of f.refusal) f.position

  -- the sequence at start from the argument `first`, to its end
  pub record Walked (start first next size : ℕ) (e : ClauseEnd) : Type 0 where
    pub way : way_at start first 0 ≡ leads next size
    pub ends : EndsClause t start e
    pub least : start ≤ stop_of e
    pub reached : next ≤ length kinds
    pub small : size ≤ most_piece * (stop_of e - start)
    pub vettable : VettableAt t (after_of e)

  abbrev pub SequenceIs : ℕ → ℕ → Result Counted Fault → Type 0
  SequenceIs start first (Ok c) = Walked start first c.reach.next.0 c.reach.size c.end
  SequenceIs start first (Err f) = way_at start first 0 ≡ fails (code_of f.refusal) f.position

  -- the clauses of the conditional d, whose inside is at its next place, from the argument `start`: where their ways end,
  -- the one by which none runs among them
  abbrev pub clauses_way : Directive → ℕ → ℕ → (ℕ → ℕ → Way) → Way
  clauses_way d start p on =
      let cs = as_clauses false (levels_at t d.after) in
      on_ways p (with_none d (has_fallback cs) start) (ways_of kinds longest cs start Nowhere) on

  pub record Through (d : Directive) (start : ℕ) (e : Ends) (q : ℕ) : Type 0 where
    pub way : (p : ℕ) (on : ℕ → ℕ → Way) → clauses_way d start p on ≡ on_ends p e on
    pub behind : AfterBlock t d.after q
    pub within : EndsIn (length kinds) (most_piece * (q - d.after)) e
    pub vettable : VettableAt t q

  abbrev pub ClausesAre : Directive → ℕ → Result Clauses Fault → Type 0
  ClausesAre d start (Ok c) = Through d start c.ends c.place
  ClausesAre d start (Err f) =
      (p : ℕ) (on : ℕ → ℕ → Way) → clauses_way d start p on ≡ fails (code_of f.refusal) f.position
