-- The sequences of an accepted text that a vet takes: ordinary items, and conditionals that have the clauses they must and
-- levels left for them. Assumes nothing.
use Prim.Native.Nat.{ℕ, zero, suc, ◌+◌, ◌≤◌, ◌<◌}
use mathlib.Core.Path.{◌≡◌, refl}
use mathlib.Core.Bool.{true, false}
use mathlib.Core.List.{List, [], ◌∷◌}
use native.Mathlib.Omega.{arith}
use lib.Dec.{eqb}
use lib.ListN.{length}
use borrow.Author.Tests.{eqb-true, not-true}
use Rattle.rules.specs.Choice.{both}
use Rattle.rules.specs.Directive.{CodeRight, item_at}
use Rattle.rules.specs.Rows.{in_order}
use Rattle.rules.specs.Text.{Block, opened, separated, is_conditional, right_count, is_closer_of, is_whole, deepest, tokens_at, text_verdict, Sequence, end, acts, escapes, iterates, chooses, Clauses, none, clause, Level, innermost, outer, before, as_clauses, levels_at, sequence_of, place_after}
use Rattle.rules.specs.declared.Bracket.{Bracket}
use Rattle.rules.specs.declared.Bracket.TheVariants.{Conditional, Iteration}
use Rattle.rules.specs.declared.Code.{Code}
use Rattle.rules.specs.declared.Code.TheVariants.{Writes, Jump, Escape, Opens, Separator, Closes, Unknown}
use Rattle.rules.specs.declared.Directive.{Directive}
use Rattle.rules.specs.declared.Item.{Item}
use Rattle.rules.specs.declared.Item.TheVariants.{End, Literal, Written, BadNumber, Unfinished}
use Rattle.rules.specs.Verdict.{Accepted}
use Rattle.rules.proofs.Bases.{code_right}
use Rattle.rules.proofs.Tests.{both_true, not_both_ways}
use Rattle.rules.proofs.TextLaws.{stands, next_inside, tokens_is, levels_end, levels_literal, levels_writes, levels_conditional, levels_separator, levels_closer, Sound, sound_start, sound_end, sound_literal, sound_bad, sound_unfinished, sound_known, sound_writes, sound_opener, sound_separator, sound_closer}
use Rattle.vet_rules.specs.Plain.{Opener, plain_code, none_next, plain_item, plain_from, vettable_verdict}
use Rattle.vet_rules.proofs.Clauses.{clauses_in}
use Rattle.vet_rules.proofs.Ordinary.{Ordinary, past_test}

-- a conditional of an accepted text: there is a clause, and two under `~:[`
pub record Choosing (d : Directive) (cs : Clauses) : Type 0 where
  pub opener : Opener d
  pub some : 0 < clauses_in cs
  pub two : d.colon ≡ true → 1 < clauses_in cs

-- a sequence that a vet takes, with k levels left for its blocks
unfoldable mutual
  pub Vettable : ℕ → Sequence → Type 0
  Vettable k end = Unit {0}
  Vettable k (acts p x rest) = Ordinary x × Vettable k rest
  Vettable k (escapes p rest) = ⊥
  Vettable k (iterates p d body rest) = ⊥
  Vettable zero (chooses p d cs rest) = ⊥
  Vettable (suc k) (chooses p d cs rest) = Choosing d cs × VettableClauses k cs × Vettable (suc k) rest

  pub VettableClauses : ℕ → Clauses → Type 0
  VettableClauses k none = Unit {0}
  VettableClauses k (clause colon x more) = Vettable k x × VettableClauses k more

-- an open conditional has the right number of clauses, once n more have come
abbrev with : Block → ℕ → Block
with o n = record { position = o.position; opener = o.opener; separators = o.separators + n; fallback = o.fallback }

abbrev RightWith : Block → ℕ → Type 0
RightWith o n = is_conditional o ≡ true → right_count (with o n) ≡ true

-- what is still to come of the open sequences, inside these blocks, with k levels left inside the innermost
unfoldable VettableLevels : ℕ → List Block → List Level → Type 0
VettableLevels k [] ls = Vettable k (innermost ls).rest
VettableLevels k (o ∷ os) ls =
    Vettable k (innermost ls).rest × VettableClauses k (innermost ls).more × RightWith o (clauses_in (innermost ls).more)
    × VettableLevels (suc k) os (outer ls)

-- one element more in the innermost sequence
before_vettable : (k : ℕ) (os : List Block) (ls : List Level) (f : Sequence → Sequence)
    → ((x : Sequence) → Vettable k x → Vettable k (f x)) → VettableLevels k os ls → VettableLevels k os (before f ls)
unfolding VettableLevels
before_vettable k [] ls f h l = h (innermost ls).rest l
before_vettable k (o ∷ os) ls f h l = (h (innermost ls).rest l.0, l.1, l.2, l.3)

-- a conditional, inside which the clauses were taken
opened_vettable : (k p : ℕ) (d : Directive) (os : List Block) (ls : List Level) → Opener d
    → VettableLevels k (opened p d ∷ os) ls → VettableLevels (suc k) os (before (chooses p d (as_clauses false ls)) (outer ls))
unfolding VettableLevels Vettable clauses_in
opened_vettable k p d os ls o l =
    before_vettable (suc k) os (outer ls) (chooses p d (as_clauses false ls))
    (λ x t. (record { opener = o; some = omega arith; two = two }, (l.0, l.1), t)) l.3
  where
    two : d.colon ≡ true → 1 < suc (clauses_in (innermost ls).more)
    two e =
        let r : eqb (0 + clauses_in (innermost ls).more) 1 ≡ true = rw e at (l.2 (rw o.code)) in
        omega (arith, eqb-true (0 + clauses_in (innermost ls).more) 1 r)

module _ (k p : ℕ) (d : Directive) (o : Block) (os : List Block) (ls : List Level) where
  -- a clause ends, and another is still to come
  separated_vettable : VettableLevels k (separated o d ∷ os) ls
      → VettableLevels k (o ∷ os) (record { rest = end; more = as_clauses d.colon ls } ∷ outer ls)
  unfolding VettableLevels Vettable clauses_in
  separated_vettable l =
      let n = clauses_in (innermost ls).more in
      let e : suc o.separators + n ≡ o.separators + suc n = omega arith in
      (tt, (l.0, l.1), (λ c. rw e at (l.2 c)), l.3)

  -- a block ends
  closed_vettable : (is_conditional o ≡ true → right_count o ≡ true) → VettableLevels (suc k) os ls
      → VettableLevels k (o ∷ os) (record { rest = end; more = none } ∷ ls)
  unfolding VettableLevels Vettable clauses_in
  closed_vettable h l = let n : o.separators + 0 ≡ o.separators = omega arith in (tt, tt, (λ c. rw n (h c)), l)

-- a closed conditional has the right number of clauses
closed_right : (b : Bracket) (o : Block) (p : ℕ) → is_closer_of b o ≡ true → is_whole b o p ≡ true → is_conditional o ≡ true
    → right_count o ≡ true
closed_right Conditional o p own w z = w
closed_right Iteration o p own w z = absurd (not_both_ways z (not-true (is_conditional o) own))

-- the items from a place on are such as a vet takes
abbrev pub VettableItems : List ℕ → ℕ → Type 0
VettableItems t p = plain_from true (tokens_at t p) ≡ Accepted

pub item_on : (t : List ℕ) (p : ℕ) (i : Item) → item_at t p ≡ i → p < length t → VettableItems t p
    → (plain_item true i ≡ true) × VettableItems t (place_after p i)
unfolding plain_from
item_on t p i e h v =
    past_test (plain_item true i) 11 p (λ _. plain_from true (tokens_at t (place_after p i))) (rw (tokens_is t p i e h) at v)

-- what is to be shown of each place, inside any open blocks
abbrev Shown : List ℕ → ℕ → Type 0
Shown t p =
    (os : List Block) (k : ℕ) → length os + k ≡ deepest → Sound t os p → VettableItems t p → VettableLevels k os (levels_at t p)

-- a directive at p, where it is shown of what follows it
module _ (t : List ℕ) (p : ℕ) (d : Directive) (e : item_at t p ≡ Written d) (on : Shown t d.after)
    (v : VettableItems t d.after) (os : List Block) (s : Sound t os p) where
  directive_vettable : (c : Code) → d.code ≡ c → CodeRight c
      → both (plain_code true c) (none_next (in_order d.parameters)) ≡ true
      → (k : ℕ) → length os + k ≡ deepest
      → VettableLevels k os (levels_at t p)
  unfolding Vettable
  directive_vettable (Writes f) q b n k h =
      let r = sound_writes t os p s d e f q in
      rw (levels_writes t p d e f q)
      (before_vettable k os (levels_at t d.after) (acts p (Written d))
      (λ x y. (record { form = f; code = q; written = r.0; fixed = (both_true (plain_code true (Writes f)) _ n).1; based = b }, y)) (on os k h r.1 v))
  directive_vettable Jump q b n k h = absurd (not_both_ways n refl)
  directive_vettable Escape q b n k h = absurd (not_both_ways n refl)
  directive_vettable (Opens Iteration) q b n k h = absurd (not_both_ways n refl)
  directive_vettable (Opens Conditional) q b n zero h =
      let r = sound_opener t os p s d e Conditional q in
      absurd (omega (arith, r.room))
  directive_vettable (Opens Conditional) q b n (suc k) h =
      let r = sound_opener t os p s d e Conditional q in
      rw (levels_conditional t p d e q)
      (opened_vettable k p d os (levels_at t d.after) (record { code = q; written = r.written; fixed = n })
      (on (opened p d ∷ os) k (omega arith) r.on v))
  directive_vettable Separator q b n k h =
      let r = sound_separator t os p s d e q in
      let l : suc (length r.others) + k ≡ deepest = rw r.is at h in
      rw (r.is, levels_separator t p d e q)
      (separated_vettable k p d r.block r.others (levels_at t d.after)
      (on (separated r.block d ∷ r.others) k l r.on v))
  directive_vettable (Closes c) q b n k h =
      let r = sound_closer t os p s d e c q in
      let l : suc (length r.others) + k ≡ deepest = rw r.is at h in
      rw (r.is, levels_closer t p d e c q)
      (closed_vettable k p d r.block r.others (levels_at t d.after) (closed_right c r.block p r.own r.whole)
      (on r.others (suc k) (omega arith) r.on v))
  directive_vettable Unknown q b n k h = absurd (sound_known t os p s d e q)

item_vettable : (t : List ℕ) (p : ℕ) → ((q : ℕ) → p < q → q ≤ length t → Shown t q) → Shown t p
unfolding VettableLevels Vettable plain_item
item_vettable t p on os k h s v = by (item_at t p) refl
  where
    by : (i : Item) → item_at t p ≡ i → VettableLevels k os (levels_at t p)
    by End e = rw (levels_end t p e, sound_end t os p s e) tt
    by (Literal b) e =
        let w : p < length t = stands t p (Literal b) e in
        let m = (item_on t p (Literal b) e w v).1 in
        rw (levels_literal t p b e)
        (before_vettable k os (levels_at t (p + 1)) (acts p (Literal b)) (λ x y. (tt, y))
        (on (p + 1) (omega arith) (omega arith) os k h (sound_literal t os p s b e) m))
    by (Written d) e =
        let w = next_inside t p d e in
        let m = item_on t p (Written d) e (omega (arith, w.above)) v in
        directive_vettable t p d e (on d.after (omega (arith, w.above)) w.most) m.1 os s d.code refl
        (code_right t p d e) m.0 k h
    by BadNumber e = absurd (sound_bad t os p s e)
    by Unfinished e = absurd (sound_unfinished t os p s e)

-- n is at least the number of bytes from p on
shown : (t : List ℕ) (n p : ℕ) → length t ≤ p + n → Shown t p
shown t zero p h = item_vettable t p (λ q a b. absurd (omega arith))
shown t (suc n) p h = item_vettable t p (λ q a b. shown t n q (omega arith))

pub text_vettable : (t : List ℕ) → text_verdict t ≡ Accepted → vettable_verdict t ≡ Accepted → Vettable deepest (sequence_of t)
unfolding VettableLevels
text_vettable t e v = shown t (length t) 0 (omega arith) [] deepest refl (sound_start t e).1 v
