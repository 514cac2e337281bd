-- How the search for the end of a clause or a block goes on by one item. Assumes nothing.
use Prim.Native.Nat.{ℕ, zero, suc, ◌+◌, ◌-◌, ◌<◌, ◌≤◌}
use mathlib.Core.Path.{◌≡◌, refl, sym, ap, subst, ◌∙◌}
use mathlib.Core.Bool.{Bool, false}
use mathlib.Core.List.{List, [], ◌∷◌}
use native.Mathlib.Omega.{arith}
use native.Mathlib.Numerals.{add-one}
use lib.ListN.{length, drop}
use lib.Seq.{drop-nil}
use Rattle.rules.specs.Directive.{item_at}
use Rattle.rules.specs.Text.{Sequence, end, acts, escapes, iterates, chooses, Clauses, none, Level, innermost, outer, before, as_clauses, levels_at}
use Rattle.rules.specs.declared.Bracket.TheVariants.{Conditional, Iteration}
use Rattle.rules.specs.declared.Code.{Code}
use Rattle.rules.specs.declared.Code.TheVariants.{Writes, Jump, Escape, Opens, Separator, Closes, Unknown}
use Rattle.rules.specs.declared.Directive.{Directive}
use Rattle.rules.specs.declared.Item.{Item}
use Rattle.rules.specs.declared.Item.TheVariants.{End, Literal, Written, BadNumber, Unfinished}
use Rattle.rules.proofs.TextLaws.{Within, stands, next_inside, levels_end, levels_literal, levels_bad, levels_unfinished, levels_written}
use Rattle.syntax.specs.declared.ends.Shape.{Shape}
use Rattle.syntax.specs.declared.ends.Shape.TheVariants.{Stops, Passes, Begins, Splits, Finishes}
use Rattle.reader.specs.Shorts.{Skips}
use Rattle.syntax.specs.Ends.{shape_of_code, shape_of, ClauseAt, LastClause, AnotherClause}

-- 1. What the shape of an item says of the sequences that are open there.

pub record Passed (t : List ℕ) (p q : ℕ) : Type 0 where
  pub with : Sequence → Sequence
  pub is : levels_at t p ≡ before with (levels_at t q)
  pub place : Within p (length t) q

pub record Begun (t : List ℕ) (p q : ℕ) : Type 0 where
  pub with : Sequence → Sequence
  pub is : levels_at t p ≡ before with (outer (levels_at t q))
  pub place : Within p (length t) q

pub record Split (t : List ℕ) (p : ℕ) (colon : Bool) (q : ℕ) : Type 0 where
  pub is : levels_at t p ≡ record { rest = end; more = as_clauses colon (levels_at t q) } ∷ outer (levels_at t q)
  pub place : Within p (length t) q

pub record Finished (t : List ℕ) (p q : ℕ) : Type 0 where
  pub is : levels_at t p ≡ record { rest = end; more = none } ∷ levels_at t q
  pub place : Within p (length t) q

abbrev pub Shaped : List ℕ → ℕ → Shape → Type 0
Shaped t p Stops = levels_at t p ≡ []
Shaped t p (Passes q) = Passed t p q
Shaped t p (Begins q) = Begun t p q
Shaped t p (Splits colon q) = Split t p colon q
Shaped t p (Finishes q) = Finished t p q

shaped_code : (t : List ℕ) (p : ℕ) (d : Directive) → item_at t p ≡ Written d → Within p (length t) d.after
    → (c : Code) → d.code ≡ c → Shaped t p (shape_of_code c d.colon d.after)
shaped_code t p d e w (Writes f) k = record { with = acts p (Written d); is = levels_written t p d e (Writes f) k; place = w }
shaped_code t p d e w Jump k = record { with = acts p (Written d); is = levels_written t p d e Jump k; place = w }
shaped_code t p d e w Escape k = record { with = escapes p; is = levels_written t p d e Escape k; place = w }
shaped_code t p d e w (Opens Conditional) k =
    record { with = chooses p d (as_clauses false (levels_at t d.after)); is = levels_written t p d e (Opens Conditional) k; place = w }
shaped_code t p d e w (Opens Iteration) k =
    record { with = iterates p d (innermost (levels_at t d.after)).rest; is = levels_written t p d e (Opens Iteration) k; place = w }
shaped_code t p d e w Separator k = record { is = levels_written t p d e Separator k; place = w }
shaped_code t p d e w (Closes b) k = record { is = levels_written t p d e (Closes b) k; place = w }
shaped_code t p d e w Unknown k = levels_written t p d e Unknown k

shaped_item : (t : List ℕ) (p : ℕ) (i : Item) → item_at t p ≡ i → Shaped t p (shape_of p i)
shaped_item t p End e = levels_end t p e
shaped_item t p (Literal b) e =
    let h : p < length t = stands t p (Literal b) e in
    record { with = acts p (Literal b); is = levels_literal t p b e; place = record { above = omega arith; most = omega arith } }
shaped_item t p (Written d) e =
    let w = next_inside t p d e in
    shaped_code t p d e (record { above = omega arith; most = w.most }) d.code refl
shaped_item t p BadNumber e = levels_bad t p e
shaped_item t p Unfinished e = levels_unfinished t p e

pub shaped : (t : List ℕ) (p : ℕ) (s : Shape) → shape_of p (item_at t p) ≡ s → Shaped t p s
shaped t p s e = subst (Shaped t p) e (shaped_item t p (item_at t p) refl)

-- 2. The end of a clause. The blocks that began since its start, so many, have their levels above that of the clause.

-- the level of the clause has these clauses to come, and stands above those levels
pub record Clause (xs : List Level) (more : Clauses) (outside : List Level) : Type 0 where
  pub more_is : (innermost xs).more ≡ more
  pub outside_is : outer xs ≡ outside

down : (n : ℕ) (xs : List Level) → drop (suc n) xs ≡ drop n (outer xs)
down n [] = sym (drop-nil n)
down n (x ∷ xs) = refl

module _ (xs ys : List Level) {more : Clauses} {outside : List Level} (e : outer xs ≡ outer ys) where
  -- below the innermost level nothing changes
  keep_below : (n : ℕ) → Clause (drop (suc n) xs) more outside → Clause (drop (suc n) ys) more outside
  keep_below n c = subst (λ (zs : List Level). Clause zs more outside) (down n xs ∙ ap (drop n) e ∙ sym (down n ys)) c

  keep : (innermost xs).more ≡ (innermost ys).more → (n : ℕ) → Clause (drop n xs) more outside → Clause (drop n ys) more outside
  keep m zero c = record { more_is = sym m ∙ c.more_is; outside_is = sym e ∙ c.outside_is }
  keep m (suc n) c = keep_below n c

-- reading stands at p, in the clause that start stands in or in `depth` blocks of it
pub record InClause (t : List ℕ) (start depth p : ℕ) : Type 0 where
  pub clause : Clause (drop depth (levels_at t p)) (innermost (levels_at t start)).more (outer (levels_at t start))
  pub least : start ≤ p
  pub most : p ≤ length t
  pub few : depth ≤ p

pub clause_start : (t : List ℕ) (start : ℕ) → start ≤ length t → InClause t start 0 start
clause_start t start h = record { clause = record { more_is = refl; outside_is = refl }; least = omega arith; most = h; few = omega arith }

module _ {t : List ℕ} {start depth p : ℕ} (k : InClause t start depth p) where
  abbrev ClauseHere : List Level → Type 0
  ClauseHere xs = Clause xs (innermost (levels_at t start)).more (outer (levels_at t start))

  -- literal bytes and short directives
  pub clause_over : {q : ℕ} → Skips t p q → InClause t start depth q
  clause_over {q} s = record {
    clause = keep (levels_at t p) (levels_at t q) s.outside s.more depth k.clause;
    least = omega (arith, k.least, s.least);
    most = s.most k.most;
    few = omega (arith, k.few, s.least);
  }

  onward : {q n : ℕ} → Within p (length t) q → n ≤ depth + 1 → ClauseHere (drop n (levels_at t q)) → InClause t start n q
  onward w h c = record { clause = c; least = omega (arith, k.least, w.above); most = w.most; few = omega (arith, k.few, w.above) }

  pub clause_passes : {q : ℕ} → Passed t p q → InClause t start depth q
  clause_passes {q} s = onward s.place (omega arith) (keep (levels_at t p) (levels_at t q) (ap outer s.is) (ap (λ xs. (innermost xs).more) s.is) depth k.clause)

  pub clause_begins : {q : ℕ} → Begun t p q → InClause t start (depth + 1) q
  clause_begins {q} s =
      let up : drop depth (outer (levels_at t q)) ≡ drop (depth + 1) (levels_at t q) = sym (rw (add-one) (down depth (levels_at t q))) in
      onward s.place (omega arith) (subst ClauseHere up (keep (levels_at t p) (outer (levels_at t q)) (ap outer s.is) (ap (λ xs. (innermost xs).more) s.is) depth k.clause))

  -- in a block of the clause
  module _ (z : depth ≡ 0 → ⊥) where
    deep : suc (depth - 1) ≡ depth
    deep = omega arith

    within : ClauseHere (drop (suc (depth - 1)) (levels_at t p))
    within = subst (λ (n : ℕ). ClauseHere (drop n (levels_at t p))) (sym deep) k.clause

    pub clause_splits_below : {colon : Bool} {q : ℕ} → Split t p colon q → InClause t start depth q
    clause_splits_below {colon} {q} s =
        onward s.place (omega arith)
        (subst (λ (n : ℕ). ClauseHere (drop n (levels_at t q))) deep (keep_below (levels_at t p) (levels_at t q) (ap outer s.is) (depth - 1) within))

    pub clause_finishes_below : {q : ℕ} → Finished t p q → InClause t start (depth - 1) q
    clause_finishes_below {q} s =
        onward s.place (omega arith) (subst ClauseHere (down (depth - 1) (levels_at t p) ∙ ap (λ xs. drop (depth - 1) (outer xs)) s.is) within)

  pub clause_stops : levels_at t p ≡ [] → LastClause t start p p
  clause_stops e =
      let c : ClauseHere [] = subst ClauseHere (ap (drop depth) e ∙ drop-nil depth) k.clause in
      record {
        here = record {
          rest = ap (λ xs. (innermost xs).rest) e;
          more = ap (λ xs. (innermost xs).more) e ∙ c.more_is;
          outside = ap outer e ∙ c.outside_is;
          least = k.least;
        };
        more = sym c.more_is;
        on = e ∙ c.outside_is;
        least = omega arith;
        most = k.most;
      }

  -- in the clause itself
  module _ (z : depth ≡ 0) where
    own : ClauseHere (levels_at t p)
    own = subst (λ (n : ℕ). ClauseHere (drop n (levels_at t p))) z k.clause

    here : (innermost (levels_at t p)).rest ≡ end → ClauseAt t start p
    here e = record { rest = e; more = own.more_is; outside = own.outside_is; least = k.least }

    pub clause_splits : {colon : Bool} {q : ℕ} → Split t p colon q → AnotherClause t start p colon q
    clause_splits {colon} {q} s =
        let w = s.place in
        record {
          here = here (ap (λ xs. (innermost xs).rest) s.is);
          more = sym own.more_is ∙ ap (λ xs. (innermost xs).more) s.is;
          on = sym (ap outer s.is) ∙ own.outside_is;
          least = omega (arith, w.above);
          most = w.most;
        }

    pub clause_finishes : {q : ℕ} → Finished t p q → LastClause t start p q
    clause_finishes {q} s =
        let w = s.place in
        record {
          here = here (ap (λ xs. (innermost xs).rest) s.is);
          more = sym own.more_is ∙ ap (λ xs. (innermost xs).more) s.is;
          on = sym (ap outer s.is) ∙ own.outside_is;
          least = omega (arith, w.above);
          most = w.most;
        }

-- 3. The end of a block: its clauses one after another.

pub record InBlock (t : List ℕ) (start z : ℕ) : Type 0 where
  pub outside : outer (levels_at t z) ≡ outer (levels_at t start)
  pub least : start ≤ z
  pub most : z ≤ length t
