-- The sequences that an accepted text is made of: every element stands in the text where it says, every directive is well
-- written, and no block lies deeper than the levels allow. Assumes nothing.
use Prim.Native.Nat.{ℕ, zero, suc, ◌+◌, ◌<◌, ◌≤◌}
use mathlib.Core.Path.{◌≡◌, refl}
use mathlib.Core.Bool.{true, false}
use mathlib.Core.List.{List, [], ◌∷◌}
use native.Mathlib.Omega.{arith}
use lib.ListN.{length}
use Rattle.rules.specs.Directive.{item_at}
use Rattle.rules.specs.Rows.{well_written}
use Rattle.rules.specs.Text.{Block, deepest, text_verdict, Sequence, end, acts, escapes, iterates, chooses, Clauses, none, clause, Level, innermost, outer, before, as_clauses, levels_at, sequence_of}
use Rattle.rules.specs.declared.Bracket.TheVariants.{Conditional, Iteration}
use Rattle.rules.specs.declared.Code.{Code}
use Rattle.rules.specs.declared.Code.TheVariants.{Writes, Jump, Escape, Opens, Separator, Closes, Unknown}
use Rattle.rules.specs.declared.Directive.{Directive}
use Rattle.rules.specs.declared.Item.{Item}
use Rattle.rules.specs.declared.Item.TheVariants.{End, Literal, Written, BadNumber, Unfinished}
use Rattle.rules.specs.Verdict.{Accepted}
use Rattle.rules.proofs.TextLaws.{stands, next_inside, levels_end, levels_literal, levels_writes, levels_jump, levels_escape, levels_iteration, levels_conditional, levels_separator, levels_closer, Sound, sound_start, sound_literal, sound_bad, sound_unfinished, sound_known, sound_writes, sound_jump, sound_escape, sound_opener, sound_separator, sound_closer}

-- the directive d stands at p in the text t, and is well written
pub record WrittenAt (t : List ℕ) (p : ℕ) (d : Directive) : Type 0 where
  pub inside : p < length t
  pub is : item_at t p ≡ Written d
  pub written : well_written d ≡ true

abbrev pub ActsIn : List ℕ → ℕ → Item → Type 0
ActsIn t p End = p < length t
ActsIn t p (Literal b) = p < length t
ActsIn t p (Written d) = WrittenAt t p d
ActsIn t p BadNumber = p < length t
ActsIn t p Unfinished = p < length t

-- a sequence of the text t, with k levels left for its blocks
unfoldable mutual
  pub WellFormed : List ℕ → ℕ → Sequence → Type 0
  WellFormed t k end = Unit {0}
  WellFormed t k (acts p x rest) = ActsIn t p x × WellFormed t k rest
  WellFormed t k (escapes p rest) = (p < length t) × WellFormed t k rest
  WellFormed t zero (iterates p d body rest) = ⊥
  WellFormed t (suc k) (iterates p d body rest) = WrittenAt t p d × WellFormed t k body × WellFormed t (suc k) rest
  WellFormed t zero (chooses p d cs rest) = ⊥
  WellFormed t (suc k) (chooses p d cs rest) = WrittenAt t p d × WellFormedClauses t k cs × WellFormed t (suc k) rest

  pub WellFormedClauses : List ℕ → ℕ → Clauses → Type 0
  WellFormedClauses t k none = Unit {0}
  WellFormedClauses t k (clause colon x more) = WellFormed t k x × WellFormedClauses t k more

-- what is still to come of the open sequences, the innermost first, with k levels left inside it
unfoldable pub WellFormedLevels : List ℕ → ℕ → List Level → Type 0
WellFormedLevels t k [] = Unit {0}
WellFormedLevels t k (x ∷ xs) = WellFormed t k x.rest × WellFormedClauses t k x.more × WellFormedLevels t (suc k) xs

-- the innermost and those around it
parted : (t : List ℕ) (k : ℕ) (xs : List Level) → WellFormedLevels t k xs
    → WellFormed t k (innermost xs).rest × WellFormedClauses t k (innermost xs).more
    × WellFormedLevels t (suc k) (outer xs)
unfolding WellFormedLevels WellFormed
parted t k [] w = (tt, tt, tt)
parted t k (x ∷ xs) w = w

-- one element more
module _ (t : List ℕ) (k p : ℕ) (xs : List Level) (w : WellFormedLevels t k xs) where
  acts_formed : (i : Item) → ActsIn t p i → WellFormedLevels t k (before (acts p i) xs)
  unfolding WellFormedLevels WellFormed
  acts_formed i a = let h = parted t k xs w in ((a, h.0), h.1, h.2)

  escapes_formed : p < length t → WellFormedLevels t k (before (escapes p) xs)
  unfolding WellFormedLevels WellFormed
  escapes_formed a = let h = parted t k xs w in ((a, h.0), h.1, h.2)

  iterates_formed : (d : Directive) → WrittenAt t p d
      → WellFormedLevels t (suc k) (before (iterates p d (innermost xs).rest) (outer xs))
  unfolding WellFormedLevels WellFormed
  iterates_formed d a =
      let h = parted t k xs w in
      let o = parted t (suc k) (outer xs) h.2 in
      ((a, h.0, o.0), o.1, o.2)

  chooses_formed : (d : Directive) → WrittenAt t p d
      → WellFormedLevels t (suc k) (before (chooses p d (as_clauses false xs)) (outer xs))
  unfolding WellFormedLevels WellFormed
  chooses_formed d a =
      let h = parted t k xs w in
      let o = parted t (suc k) (outer xs) h.2 in
      ((a, (h.0, h.1), o.0), o.1, o.2)

  separator_formed : (d : Directive)
      → WellFormedLevels t k (record { rest = end; more = as_clauses d.colon xs } ∷ outer xs)
  unfolding WellFormedLevels WellFormed
  separator_formed d = let h = parted t k xs w in (tt, (h.0, h.1), h.2)

-- a block ends
closer_formed : (t : List ℕ) (k : ℕ) (xs : List Level) → WellFormedLevels t (suc k) xs
    → WellFormedLevels t k (record { rest = end; more = none } ∷ xs)
unfolding WellFormedLevels WellFormed
closer_formed t k xs w = (tt, tt, w)

-- the text from the place q on, inside any open blocks
abbrev FormedFrom : List ℕ → ℕ → Type 0
FormedFrom t q =
    (os : List Block) (k : ℕ) → length os + k ≡ deepest → Sound t os q → WellFormedLevels t k (levels_at t q)

module _ (t : List ℕ) (p : ℕ) (d : Directive) (e : item_at t p ≡ Written d) (on : FormedFrom t d.after)
    (os : List Block) (s : Sound t os p) where
  within : p < length t
  within = let w = next_inside t p d e in omega arith

  atsign : well_written d ≡ true → WrittenAt t p d
  atsign w = record { inside = within; is = e; written = w }

  directive_formed : (c : Code) → d.code ≡ c → (k : ℕ) → length os + k ≡ deepest → WellFormedLevels t k (levels_at t p)
  directive_formed (Writes f) q k h =
      let r = sound_writes t os p s d e f q in
      rw (levels_writes t p d e f q) (acts_formed t k p (levels_at t d.after) (on os k h r.1) (Written d) (atsign r.0))
  directive_formed Jump q k h =
      let r = sound_jump t os p s d e q in
      rw (levels_jump t p d e q) (acts_formed t k p (levels_at t d.after) (on os k h r.1) (Written d) (atsign r.0))
  directive_formed Escape q k h =
      let r = sound_escape t os p s d e q in
      rw (levels_escape t p d e q) (escapes_formed t k p (levels_at t d.after) (on os k h r.1) within)
  directive_formed (Opens Conditional) q zero h = let r = sound_opener t os p s d e Conditional q in absurd (omega (arith, r.room))
  directive_formed (Opens Conditional) q (suc k) h =
      let r = sound_opener t os p s d e Conditional q in
      rw (levels_conditional t p d e q)
      (chooses_formed t k p (levels_at t d.after) (on (_ ∷ os) k (omega arith) r.on) d (atsign r.written))
  directive_formed (Opens Iteration) q zero h = let r = sound_opener t os p s d e Iteration q in absurd (omega (arith, r.room))
  directive_formed (Opens Iteration) q (suc k) h =
      let r = sound_opener t os p s d e Iteration q in
      rw (levels_iteration t p d e q)
      (iterates_formed t k p (levels_at t d.after) (on (_ ∷ os) k (omega arith) r.on) d (atsign r.written))
  directive_formed Separator q k h =
      let r = sound_separator t os p s d e q in
      let n : suc (length r.others) + k ≡ deepest = rw r.is at h in
      rw (levels_separator t p d e q) (separator_formed t k p (levels_at t d.after) (on (_ ∷ r.others) k n r.on) d)
  directive_formed (Closes b) q k h =
      let r = sound_closer t os p s d e b q in
      let n : suc (length r.others) + k ≡ deepest = rw r.is at h in
      rw (levels_closer t p d e b q)
      (closer_formed t k (levels_at t d.after) (on r.others (suc k) (omega arith) r.on))
  directive_formed Unknown q k h = absurd (sound_known t os p s d e q)

item_formed : (t : List ℕ) (p : ℕ) → ((q : ℕ) → p < q → q ≤ length t → FormedFrom t q) → FormedFrom t p
unfolding WellFormedLevels
item_formed t p on os k h s = by (item_at t p) refl
  where
    by : (i : Item) → item_at t p ≡ i → WellFormedLevels t k (levels_at t p)
    by End e = rw (levels_end t p e) tt
    by (Literal b) e =
        let w : p < length t = stands t p (Literal b) e in
        let more = on (p + 1) (omega arith) (omega arith) os k h (sound_literal t os p s b e) in
        rw (levels_literal t p b e) (acts_formed t k p (levels_at t (p + 1)) more (Literal b) w)
    by (Written d) e =
        let w = next_inside t p d e in
        directive_formed t p d e (on d.after (omega (arith, w.above)) w.most) os s d.code refl k h
    by BadNumber e = absurd (sound_bad t os p s e)
    by Unfinished e = absurd (sound_unfinished t os p s e)

-- n is at least the number of bytes from p on
formed : (t : List ℕ) (n p : ℕ) → length t ≤ p + n → FormedFrom t p
formed t zero p h = item_formed t p (λ q a b. absurd (omega arith))
formed t (suc n) p h = item_formed t p (λ q a b. formed t n q (omega arith))

pub sequence_formed : (t : List ℕ) → text_verdict t ≡ Accepted → WellFormed t deepest (sequence_of t)
sequence_formed t e =
    (parted t deepest (levels_at t 0) (formed t (length t) 0 (omega arith) [] deepest refl (sound_start t e).1)).0
