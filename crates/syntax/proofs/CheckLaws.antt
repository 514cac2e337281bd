-- How the check of a text goes on by one item: what is found from here on is what is found from the start, whatever
-- directive of the kind opens the block and whatever other blocks are open. Assumes nothing.
use Prim.Native.Nat.{ℕ, suc, ◌+◌, ◌-◌, ◌<◌, ◌≤◌}
use mathlib.Core.Path.{◌≡◌, refl, sym, ap, subst, ◌∙◌}
use mathlib.Core.Bool.{Bool, true, false, cond, not}
use mathlib.Core.List.{List, [], ◌∷◌}
use native.Mathlib.Omega.{arith}
use native.Mathlib.Decide.{dec_lt}
use native.Mathlib.Numerals.{add-one}
use lib.Dec.{ltb, eqb}
use lib.ListN.{length}
use borrow.Author.Tests.{lt-ltb, le-ltb, ltb-true}
use Rattle.rules.specs.Choice.{both}
use Rattle.rules.specs.Directive.{blank, item_at}
use Rattle.rules.specs.Rows.{well_written}
use Rattle.rules.specs.Text.{Block, opened, opens_conditional, may_separate, right_count, is_closer_of, provided, deepest, directive_met, verdict_at, longest, text_verdict}
use Rattle.rules.specs.declared.Bracket.{Bracket}
use Rattle.rules.specs.declared.Bracket.TheVariants.{Conditional, Iteration}
use Rattle.rules.specs.declared.Code.{Code}
use Rattle.rules.specs.declared.Code.TheVariants.{Writes, Jump, Escape, Opens, Separator, Closes, Unknown}
use Rattle.rules.specs.declared.Directive.{Directive}
use Rattle.rules.specs.declared.Item.{Item}
use Rattle.rules.specs.declared.Item.TheVariants.{End, Literal, Written, BadNumber, Unfinished}
use Rattle.rules.specs.Verdict.{Verdict, Accepted, Refused, verdict_as}
use Rattle.rules.specs.Refusals.{code_of}
use Rattle.rules.specs.declared.refusal.Fault.{Fault}
use Rattle.rules.specs.declared.refusal.Refusal.{Refusal}
use Rattle.rules.specs.declared.refusal.Refusal.TheVariants.{BadBlock, BadParameter}
use Rattle.std.specs.Prelude.{Option, None, Some, Result, Ok, Err}
use Rattle.rules.proofs.TextLaws.{Within, stands, next_inside, verdict_end, verdict_literal, verdict_bad, verdict_unfinished, verdict_written}
use Rattle.syntax.specs.declared.meeting.Around.{Around}
use Rattle.syntax.specs.declared.meeting.Around.TheVariants.{Top, Numbered, TwoClauses, OneClause, Repeated}
use Rattle.syntax.specs.declared.meeting.Scope.{Scope}
use Rattle.syntax.specs.declared.meeting.Met.{Met}
use Rattle.syntax.specs.declared.meeting.Met.TheVariants.{Ends, Stays, Enters, Parts, Leaves}
use Rattle.reader.specs.Shorts.{Skips}
use Rattle.reader.specs.Marks.{mark_size, mark_directive, IsMark}
use Rattle.reader.specs.declared.marks.Mark.{Mark}
use Rattle.syntax.specs.Checks.{has_clauses, is_repeated, may_part, count_in, block_by, unless, met_separator, met_end_conditional, met_end_iteration, met_by, met_mark, met_end, met_item, block_of, blocks, levels, Kind, Opener, onward, Room, Goes, Checks}

-- 1. What a block is asked for depends on the kind of its opener, not on the opener.

parted_numbered : (f c : Bool) → both (not f) (not (both c false)) ≡ cond f false true
parted_numbered true c = refl
parted_numbered false true = refl
parted_numbered false false = refl

parted_other : (f c : Bool) → both (not f) (not (both c true)) ≡ cond f false (not c)
parted_other true c = refl
parted_other false true = refl
parted_other false false = refl

no_block : levels Top [] ≡ 1 → ⊥
no_block l = omega (arith, l)

module _ (q : ℕ) (o : Directive) (n : ℕ) (f : Bool) where
  may_part_lem : (a : Around) → levels a [] ≡ 1 → Kind a o → (d : Directive) → may_separate (block_of q o n f) d ≡ may_part a f d.colon
  may_part_lem Top l k d = absurd (no_block l)
  may_part_lem Numbered l k d = rw (k.0, k.1.0, k.1.1) (parted_numbered f d.colon)
  may_part_lem TwoClauses l k d = rw (k.0, k.1) (parted_other f d.colon)
  may_part_lem OneClause l k d = rw (k.0, k.1.0, k.1.1) (parted_other f d.colon)
  may_part_lem Repeated l k d = rw k (never f)
    where
      never : (x : Bool) → false ≡ cond x false false
      never true = refl
      never false = refl

  own_conditional : (a : Around) → levels a [] ≡ 1 → Kind a o → is_closer_of Conditional (block_of q o n f) ≡ has_clauses a
  own_conditional Top l k = absurd (no_block l)
  own_conditional Numbered l k = k.0
  own_conditional TwoClauses l k = k.0
  own_conditional OneClause l k = k.0
  own_conditional Repeated l k = k

  own_iteration : (a : Around) → levels a [] ≡ 1 → Kind a o → is_closer_of Iteration (block_of q o n f) ≡ is_repeated a
  own_iteration Top l k = absurd (no_block l)
  own_iteration Numbered l k = ap not k.0
  own_iteration TwoClauses l k = ap not k.0
  own_iteration OneClause l k = ap not k.0
  own_iteration Repeated l k = ap not k

-- 2. What a directive does, as the definition has it.

-- a block of the kind is opened at p by some directive
record Entered (t : List ℕ) (p : ℕ) (bs : List Block) (v : Verdict) (block : Around) (after : ℕ) : Type 0 where
  opener : Directive
  is : Opener block after opener
  deeper : levels block bs ≡ suc (length bs)
  same : v ≡ verdict_at t (blocks block p opener 0 false bs) after

-- v is found after an item at p that does m, inside the blocks bs, which are ps after a `~;` and os after a closer
abbrev After : List ℕ → ℕ → List Block → (Bool → List Block) → List Block → Verdict → Result Met Fault → Type 0
After t p bs ps os v (Err f) = v ≡ verdict_as (Err f)
After t p bs ps os v (Ok Ends) = v ≡ Accepted
After t p bs ps os v (Ok (Stays after)) = v ≡ verdict_at t bs after
After t p bs ps os v (Ok (Enters block after)) = Entered t p bs v block after
After t p bs ps os v (Ok (Parts colon after)) = v ≡ verdict_at t (ps colon) after
After t p bs ps os v (Ok (Leaves after)) = v ≡ verdict_at t os after

room_same : (l room : ℕ) → l + room ≡ deepest → ltb l deepest ≡ ltb 0 room
room_same l room h = by (dec_lt 0 room)
  where
    by : Dec (0 < room) → ltb l deepest ≡ ltb 0 room
    by (yes y) = lt-ltb l deepest (omega arith) ∙ sym (lt-ltb 0 room y)
    by (no z) = le-ltb l deepest (omega arith) ∙ sym (le-ltb 0 room (omega arith))

depth_same : (a : Around) (q : ℕ) (o : Directive) (n : ℕ) (f : Bool) (os : List Block) → length (blocks a q o n f os) ≡ levels a os
depth_same Top q o n f os = refl
depth_same Numbered q o n f os = refl
depth_same TwoClauses q o n f os = refl
depth_same OneClause q o n f os = refl
depth_same Repeated q o n f os = refl

module _ (t : List ℕ) (p : ℕ) (bs : List Block) (ps : Bool → List Block) (os : List Block) where
  unless_after : (y : Bool) (r : Refusal) (q : ℕ) (m : Result Met Fault) (v : Verdict) → After t p bs ps os v m
      → After t p bs ps os (provided y (code_of r) q (λ _. v)) (unless y r q m)
  unless_after true r q m v e = e
  unless_after false r q m v e = refl

  two_after : (y z : Bool) (m : Result Met Fault) (v : Verdict) → After t p bs ps os v m
      → After t p bs ps os (provided y 4 p (λ _. provided z 5 p (λ _. v))) (unless y BadBlock p (unless z BadParameter p m))
  two_after y z m v e = unless_after y BadBlock p (unless z BadParameter p m) (provided z 5 p (λ _. v)) (unless_after z BadParameter p m v e)

  three_after : (x y w z : Bool) (q after : ℕ) → (x ≡ true → w ≡ y)
      → After t p bs ps os (provided x 4 p (λ _. provided w 4 q (λ _. provided z 5 p (λ _. verdict_at t os after))))
      (unless x BadBlock p (unless y BadBlock q (unless z BadParameter p (Ok (Leaves after)))))
  three_after true y w z q after e =
      rw (e refl)
      (unless_after y BadBlock q (unless z BadParameter p (Ok (Leaves after))) (provided z 5 p (λ _. verdict_at t os after))
      (unless_after z BadParameter p (Ok (Leaves after)) (verdict_at t os after) refl))
  three_after false y w z q after e = refl

  module _ (d : Directive) where
    opens_is : (b : Bracket) (colon atsign : Bool) → d.colon ≡ colon → d.atsign ≡ atsign → d.code ≡ Opens b
        → Entered t p bs (verdict_at t (opened p d ∷ bs) d.after) (block_by b colon atsign) d.after
    opens_is Conditional true atsign x y z =
        record { opener = d; is = record { kind = (ap opens_conditional z, x); after = refl }; deeper = refl; same = refl }
    opens_is Conditional false true x y z =
        record { opener = d; is = record { kind = (ap opens_conditional z, (x, y)); after = refl }; deeper = refl; same = refl }
    opens_is Conditional false false x y z =
        record { opener = d; is = record { kind = (ap opens_conditional z, (x, y)); after = refl }; deeper = refl; same = refl }
    opens_is Iteration colon atsign x y z =
        record { opener = d; is = record { kind = ap opens_conditional z; after = refl }; deeper = refl; same = refl }

abbrev pub scope_of : Around → ℕ → ℕ → ℕ → Bool → ℕ → Scope
scope_of a q start n f room = record { around = a; opened = q; start = start; separators = n; fallback = f; room = room }

module _ (t : List ℕ) (p q start n : ℕ) (f : Bool) (room : ℕ) (o : Directive) (os : List Block) where
  abbrev Does : Around → Verdict → Result Met Fault → Type 0
  Does a v m = After t p (blocks a q o n f os) (λ colon. blocks a q o (n + 1) colon os) os v m

  module _ (d : Directive) where
    abbrev found : Code → List Block → Verdict
    found c bs = directive_met p d c bs (λ bs₂. verdict_at t bs₂ d.after)

    -- inside a block of a kind
    module _ (bs : List Block) (ps : Bool → List Block) (a : Around) (l : levels a [] ≡ 1) (k : Opener a start o) where
      part_in : ps d.colon ≡ block_of q o (n + 1) d.colon ∷ os
          → After t p bs ps os (found Separator (block_of q o n f ∷ os)) (met_separator p d.after (well_written d) d.colon a f)
      unfolding directive_met
      part_in e =
          rw (may_part_lem q o n f a l k.kind d)
          (two_after t p bs ps os (may_part a f d.colon) (well_written d) (Ok (Parts d.colon d.after)) _
          (ap (λ (x : ℕ). verdict_at t (block_of q o x d.colon ∷ os) d.after) (sym (add-one n)) ∙ ap (λ bs₂. verdict_at t bs₂ d.after) (sym e)))

      iteration_in : After t p bs ps os (found (Closes Iteration) (block_of q o n f ∷ os)) (met_end_iteration p d.after (well_written d) a q start)
      unfolding directive_met
      iteration_in =
          rw (own_iteration q o n f a l k.kind)
          (three_after t p bs ps os (is_repeated a) (not (eqb start p)) _ (well_written d) q d.after
          (λ _. ap (λ (x : ℕ). not (eqb x p)) k.after))

      conditional_in : (has_clauses a ≡ true → right_count (block_of q o n f) ≡ count_in a n)
          → After t p bs ps os (found (Closes Conditional) (block_of q o n f ∷ os)) (met_end_conditional p d.after (well_written d) a q n)
      unfolding directive_met
      conditional_in e =
          rw (own_conditional q o n f a l k.kind)
          (three_after t p bs ps os (has_clauses a) (count_in a n) _ (well_written d) q d.after e)

    count_is : (a : Around) → Kind a o → has_clauses a ≡ true → right_count (block_of q o n f) ≡ count_in a n
    count_is Top k h = absurd (subst (λ (x : Bool). cond x ⊥ Unit) h tt)
    count_is Numbered k h = rw (k.1.0, k.1.1)
    count_is TwoClauses k h = rw k.1
    count_is OneClause k h = rw (k.1.0, k.1.1)
    count_is Repeated k h = absurd (subst (λ (x : Bool). cond x ⊥ Unit) h tt)

    separator_is : (a : Around) → Opener a start o
        → Does a (found Separator (blocks a q o n f os)) (met_separator p d.after (well_written d) d.colon a f)
    unfolding directive_met
    separator_is Top k = top f
      where
        top : (x : Bool) → Does Top (Refused 4 p) (met_separator p d.after (well_written d) d.colon Top x)
        top true = refl
        top false = refl
    separator_is Numbered k = part_in (blocks Numbered q o n f os) (λ colon. blocks Numbered q o (n + 1) colon os) Numbered refl k refl
    separator_is TwoClauses k = part_in (blocks TwoClauses q o n f os) (λ colon. blocks TwoClauses q o (n + 1) colon os) TwoClauses refl k refl
    separator_is OneClause k = part_in (blocks OneClause q o n f os) (λ colon. blocks OneClause q o (n + 1) colon os) OneClause refl k refl
    separator_is Repeated k = part_in (blocks Repeated q o n f os) (λ colon. blocks Repeated q o (n + 1) colon os) Repeated refl k refl

    conditional_is : (a : Around) → Opener a start o
        → Does a (found (Closes Conditional) (blocks a q o n f os)) (met_end_conditional p d.after (well_written d) a q n)
    unfolding directive_met
    conditional_is Top k = refl
    conditional_is Numbered k = conditional_in (blocks Numbered q o n f os) (λ colon. blocks Numbered q o (n + 1) colon os) Numbered refl k (count_is Numbered k.kind)
    conditional_is TwoClauses k = conditional_in (blocks TwoClauses q o n f os) (λ colon. blocks TwoClauses q o (n + 1) colon os) TwoClauses refl k (count_is TwoClauses k.kind)
    conditional_is OneClause k = conditional_in (blocks OneClause q o n f os) (λ colon. blocks OneClause q o (n + 1) colon os) OneClause refl k (count_is OneClause k.kind)
    conditional_is Repeated k = conditional_in (blocks Repeated q o n f os) (λ colon. blocks Repeated q o (n + 1) colon os) Repeated refl k (count_is Repeated k.kind)

    iteration_is : (a : Around) → Opener a start o
        → Does a (found (Closes Iteration) (blocks a q o n f os)) (met_end_iteration p d.after (well_written d) a q start)
    unfolding directive_met
    iteration_is Top k = refl
    iteration_is Numbered k = iteration_in (blocks Numbered q o n f os) (λ colon. blocks Numbered q o (n + 1) colon os) Numbered refl k
    iteration_is TwoClauses k = iteration_in (blocks TwoClauses q o n f os) (λ colon. blocks TwoClauses q o (n + 1) colon os) TwoClauses refl k
    iteration_is OneClause k = iteration_in (blocks OneClause q o n f os) (λ colon. blocks OneClause q o (n + 1) colon os) OneClause refl k
    iteration_is Repeated k = iteration_in (blocks Repeated q o n f os) (λ colon. blocks Repeated q o (n + 1) colon os) Repeated refl k

    directive_is : (a : Around) → Opener a start o → Room a os room → (c : Code) → d.code ≡ c
        → Does a (found c (blocks a q o n f os)) (met_by p d.after (well_written d) d.colon d.atsign c (scope_of a q start n f room))
    unfolding directive_met met_by
    directive_is a k h (Writes x) e = unless_after t p _ _ os (well_written d) BadParameter p (Ok (Stays d.after)) _ refl
    directive_is a k h Jump e = unless_after t p _ _ os (well_written d) BadParameter p (Ok (Stays d.after)) _ refl
    directive_is a k h Escape e = unless_after t p _ _ os (well_written d) BadParameter p (Ok (Stays d.after)) _ refl
    directive_is a k h (Opens b) e =
        rw (depth_same a q o n f os, room_same (levels a os) room h.is)
        (two_after t p _ _ os (ltb 0 room) (well_written d) (Ok (Enters (block_by b d.colon d.atsign) d.after)) _
        (opens_is t p (blocks a q o n f os) (λ colon. blocks a q o (n + 1) colon os) os d b d.colon d.atsign refl refl e))
    directive_is a k h Separator e = separator_is a k
    directive_is a k h (Closes Conditional) e = conditional_is a k
    directive_is a k h (Closes Iteration) e = iteration_is a k
    directive_is a k h Unknown e = refl

  end_is : (a : Around) → item_at t p ≡ End → Does a (verdict_at t (blocks a q o n f os) p) (met_end a q)
  end_is Top e = verdict_end t _ p e
  end_is Numbered e = verdict_end t _ p e
  end_is TwoClauses e = verdict_end t _ p e
  end_is OneClause e = verdict_end t _ p e
  end_is Repeated e = verdict_end t _ p e

  item_is : (a : Around) → Opener a start o → Room a os room → (i : Item) → item_at t p ≡ i
      → Does a (verdict_at t (blocks a q o n f os) p) (met_item p i (scope_of a q start n f room))
  item_is a k h End e = end_is a e
  item_is a k h (Literal b) e = verdict_literal t _ p b e
  item_is a k h (Written d) e = rw (verdict_written t (blocks a q o n f os) p d e) (directive_is d a k h d.code refl)
  item_is a k h BadNumber e = verdict_bad t _ p e
  item_is a k h Unfinished e = verdict_unfinished t _ p e

-- 3. Where the text goes on. A block is opened only where there is room, and only a block is closed.

abbrev Fair : List ℕ → Around → ℕ → ℕ → Result Met Fault → Type 0
Fair t a room p (Err f) = Unit
Fair t a room p (Ok Ends) = Unit
Fair t a room p (Ok (Stays after)) = Within p (length t) after
Fair t a room p (Ok (Enters block after)) = (0 < room) × Within p (length t) after
Fair t a room p (Ok (Parts colon after)) = Within p (length t) after
Fair t a room p (Ok (Leaves after)) = (levels a [] ≡ 1) × Within p (length t) after

module _ (t : List ℕ) (room p : ℕ) where
  unless_fair : (a : Around) (y : Bool) (r : Refusal) (q : ℕ) (m : Result Met Fault) → (y ≡ true → Fair t a room p m) → Fair t a room p (unless y r q m)
  unless_fair a true r q m e = e refl
  unless_fair a false r q m e = tt

  module _ (after : ℕ) (w : Within p (length t) after) where
    closes_fair : (a : Around) → levels a [] ≡ 1 → (x y z : Bool) (q : ℕ)
        → Fair t a room p (unless x BadBlock p (unless y BadBlock q (unless z BadParameter p (Ok (Leaves after)))))
    closes_fair a l x y z q =
        unless_fair a x BadBlock p (unless y BadBlock q (unless z BadParameter p (Ok (Leaves after))))
        (λ _. unless_fair a y BadBlock q (unless z BadParameter p (Ok (Leaves after)))
        (λ _. unless_fair a z BadParameter p (Ok (Leaves after)) (λ _. (l, w))))

    conditional_fair : (a : Around) (z : Bool) (q n : ℕ) → Fair t a room p (met_end_conditional p after z a q n)
    conditional_fair Top z q n = tt
    conditional_fair Numbered z q n = closes_fair Numbered refl true true z q
    conditional_fair TwoClauses z q n = closes_fair TwoClauses refl true (eqb n 1) z q
    conditional_fair OneClause z q n = closes_fair OneClause refl true (eqb n 0) z q
    conditional_fair Repeated z q n = tt

    iteration_fair : (a : Around) (z : Bool) (q start : ℕ) → Fair t a room p (met_end_iteration p after z a q start)
    iteration_fair Top z q start = tt
    iteration_fair Numbered z q start = tt
    iteration_fair TwoClauses z q start = tt
    iteration_fair OneClause z q start = tt
    iteration_fair Repeated z q start = closes_fair Repeated refl true (not (eqb start p)) z q

    directive_fair : (a : Around) (q start n : ℕ) (f : Bool) (z colon atsign : Bool) (c : Code)
        → Fair t a room p (met_by p after z colon atsign c (scope_of a q start n f room))
    unfolding met_by
    directive_fair a q start n f z colon atsign (Writes x) = unless_fair a z BadParameter p (Ok (Stays after)) (λ _. w)
    directive_fair a q start n f z colon atsign Jump = unless_fair a z BadParameter p (Ok (Stays after)) (λ _. w)
    directive_fair a q start n f z colon atsign Escape = unless_fair a z BadParameter p (Ok (Stays after)) (λ _. w)
    directive_fair a q start n f z colon atsign (Opens b) =
        unless_fair a (ltb 0 room) BadBlock p (unless z BadParameter p (Ok (Enters (block_by b colon atsign) after)))
        (λ y. unless_fair a z BadParameter p (Ok (Enters (block_by b colon atsign) after)) (λ _. (ltb-true 0 room y, w)))
    directive_fair a q start n f z colon atsign Separator =
        unless_fair a (may_part a f colon) BadBlock p (unless z BadParameter p (Ok (Parts colon after)))
        (λ _. unless_fair a z BadParameter p (Ok (Parts colon after)) (λ _. w))
    directive_fair a q start n f z colon atsign (Closes Conditional) = conditional_fair a z q n
    directive_fair a q start n f z colon atsign (Closes Iteration) = iteration_fair a z q start
    directive_fair a q start n f z colon atsign Unknown = tt

  end_fair : (a : Around) (q : ℕ) → Fair t a room p (met_end a q)
  end_fair Top q = tt
  end_fair Numbered q = tt
  end_fair TwoClauses q = tt
  end_fair OneClause q = tt
  end_fair Repeated q = tt

  fair : (a : Around) (q start n : ℕ) (f : Bool) (i : Item) → item_at t p ≡ i → Fair t a room p (met_item p i (scope_of a q start n f room))
  fair a q start n f End e = end_fair a q
  fair a q start n f (Literal b) e = let l = stands t p (Literal b) e in record { above = omega arith; most = omega arith }
  fair a q start n f (Written d) e =
      let w = next_inside t p d e in
      directive_fair d.after (record { above = omega arith; most = w.most }) a q start n f (well_written d) d.colon d.atsign d.code
  fair a q start n f BadNumber e = tt
  fair a q start n f Unfinished e = tt

-- 4. One item more.

-- reading stands at p, inside a block that has n separators so far, the last a `~:;` or not: what is found from here on is
-- what is found from the start
pub record Checking (t : List ℕ) (start room : ℕ) (a : Around) (q p n : ℕ) (f : Bool) : Type 0 where
  pub same : (o : Directive) → Opener a start o → (os : List Block) → Room a os room
      → verdict_at t (blocks a q o 0 false os) start ≡ verdict_at t (blocks a q o n f os) p
  pub from : start ≤ p
  pub few : n ≤ p

pub check_start : (t : List ℕ) (start room : ℕ) (a : Around) (q : ℕ) → Checking t start room a q start 0 false
check_start t start room a q = record { same = λ o z os h. refl; from = omega arith; few = omega arith }

check_skips : {t : List ℕ} {start room : ℕ} {a : Around} {q p n : ℕ} {f : Bool} {p₂ : ℕ} → Checking t start room a q p n f → Skips t p p₂
    → Checking t start room a q p₂ n f
check_skips {a = a} {q = q} {n = n} {f = f} k s = record {
  same = λ o z os r. k.same o z os r ∙ s.same (blocks a q o n f os);
  from = omega (arith, k.from, s.least);
  few = omega (arith, k.few, s.least);
}

-- reading stood at p₀, and goes on at p behind literal bytes and short directives
module _ {t : List ℕ} {start room : ℕ} {a : Around} {q p₀ p n : ℕ} {f : Bool} (before : Checking t start room a q p₀ n f) (over : Skips t p₀ p) where
  k : Checking t start room a q p n f
  k = check_skips before over

  module _ {r : Result Met Fault} (met : r ≡ met_item p (item_at t p) (scope_of a q start n f room)) where
    did : (o : Directive) → Opener a start o → (os : List Block) → Room a os room
        → Does t p q start n f room o os a (verdict_at t (blocks a q o 0 false os) start) r
    did o z os h =
        subst (Does t p q start n f room o os a (verdict_at t (blocks a q o 0 false os) start)) (sym met)
        (rw (k.same o z os h) (item_is t p q start n f room o os a z h (item_at t p) refl))

    was : Fair t a room p r
    was = subst (Fair t a room p) (sym met) (fair t room p a q start n f (item_at t p) refl)

  pub check_wrong : {fault : Fault} → Err fault ≡ met_item p (item_at t p) (scope_of a q start n f room) → Checks t start room a q (Err fault)
  check_wrong e = record { same = did e; goes = tt }

  module _ {m : Met} (met : Ok m ≡ met_item p (item_at t p) (scope_of a q start n f room)) where
    -- the same, where the item is known
    does : {m₂ : Met} → m ≡ m₂ → Ok m₂ ≡ met_item p (item_at t p) (scope_of a q start n f room)
    does h = sym (ap Ok h) ∙ met

    pub check_ends : m ≡ Ends → Checks t start room a q (Ok None)
    check_ends h = record { same = did (does h); goes = tt }

    pub stays_inside : {after : ℕ} → m ≡ Stays after → Within p (length t) after
    stays_inside h = was (does h)

    pub check_stays : {after : ℕ} → m ≡ Stays after → Checking t start room a q after n f
    check_stays h = let w = was (does h) in record { same = did (does h); from = omega (arith, k.from); few = omega (arith, k.few) }

    pub parts_inside : {colon : Bool} {after : ℕ} → m ≡ Parts colon after → Within p (length t) after
    parts_inside h = was (does h)

    pub check_parts : {colon : Bool} {after : ℕ} → m ≡ Parts colon after → Checking t start room a q after (n + 1) colon
    check_parts h = let w = was (does h) in record { same = did (does h); from = omega (arith, k.from); few = omega (arith, k.few) }

    pub check_leaves : {after : ℕ} → m ≡ Leaves after → Checks t start room a q (Ok (Some after))
    check_leaves h = let w = was (does h) in record { same = did (does h); goes = (w.0, (omega (arith, k.from, w.1), w.1.most)) }

    module _ {block : Around} {after : ℕ} (h : m ≡ Enters block after) where
      pub check_room : 0 < room
      check_room = (was (does h)).0

      module _ {c : Result (Option ℕ) Fault} (i : Checks t after (room - 1) block p c) where
        inner : (o : Directive) → Opener a start o → (os : List Block) → Room a os room
            → verdict_at t (blocks a q o 0 false os) start ≡ onward t c (blocks a q o n f os)
        inner o z os r =
            let g = did (does h) o z os r in
            let l = check_room in
            g.same ∙ i.same g.opener g.is (blocks a q o n f os) (record { is = omega (arith, r.is, g.deeper, depth_same a q o n f os) })

        pub check_failed : {fault : Fault} → c ≡ Err fault → Checks t start room a q (Err fault)
        check_failed g = record { same = λ o z os r. inner o z os r ∙ ap (λ x. onward t x (blocks a q o n f os)) g; goes = tt }

        pub check_ended : c ≡ Ok None → Checks t start room a q (Ok None)
        check_ended g = record { same = λ o z os r. inner o z os r ∙ ap (λ x. onward t x (blocks a q o n f os)) g; goes = tt }

        pub closed_inside : {p₂ : ℕ} → c ≡ Ok (Some p₂) → Within p (length t) p₂
        closed_inside g =
            let l = subst (Goes t after block) g i.goes in
            record { above = omega (arith, (was (does h)).1.above, l.1.0); most = l.1.1 }

        pub check_closed : {p₂ : ℕ} → c ≡ Ok (Some p₂) → Checking t start room a q p₂ n f
        check_closed g = let w = closed_inside g in record {
          same = λ o z os r. inner o z os r ∙ ap (λ x. onward t x (blocks a q o n f os)) g;
          from = omega (arith, k.from);
          few = omega (arith, k.few);
        }

-- 5. A mark.

-- what a mark at p does is what the item there does
pub mark_met : (t : List ℕ) (p : ℕ) (m : Mark) (s : Scope) → IsMark t p m → met_mark p (p + mark_size m) m s ≡ met_item p (item_at t p) s
unfolding mark_directive
mark_met t p m s i = rw (i.item, i.well (p + mark_size m))

-- 6. The whole text.

pub text_long : (t : List ℕ) → longest < length t → Refused 2 longest ≡ text_verdict t
unfolding text_verdict
text_long t h = rw (lt-ltb longest (length t) h)

pub text_fault : {t : List ℕ} {f : Fault} → Checks t 0 deepest Top 0 (Err f) → length t ≤ longest → verdict_as (Err f) ≡ text_verdict t
unfolding text_verdict
text_fault {t} k h = rw (le-ltb longest (length t) h) (sym (k.same blank (record { kind = tt; after = refl }) [] (record { is = refl })))

pub text_right : {t : List ℕ} (o : Option ℕ) → Checks t 0 deepest Top 0 (Ok o) → length t ≤ longest → Accepted ≡ text_verdict t
unfolding text_verdict
text_right {t} None k h = rw (le-ltb longest (length t) h) (sym (k.same blank (record { kind = tt; after = refl }) [] (record { is = refl })))
text_right (Some q) k h = absurd (no_block k.goes.0)
