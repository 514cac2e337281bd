-- Which clause is wanted, clause by clause, and which one a conditional picks. Assumes nothing.
use Rattle.std.proofs.Common.{ℕ, zero, suc, ◌-◌, ◌<◌, ◌≤◌, ◌≡◌, refl, sym, ap, subst, ◌∙◌, Bool, true, false, cond, List, length, arith, Option, Some, None, Result, Ok, Err}
use Rattle.std.specs.Prelude.{option_map, nat_eq}
use Rattle.std.specs.Option.{option_eq}
use borrow.Author.Tests.{eqb-true}
use Rattle.rules.specs.Choice.{both}
use Rattle.rules.specs.Text.{Sequence, end, Clauses, none, clause, innermost, as_clauses, levels_at}
use Rattle.rules.specs.Run.{fallback_of, clause_at}
use Rattle.syntax.specs.Ends.{AnotherClause}
use Rattle.blocks.specs.declared.wanting.Sought.{Sought}
use Rattle.blocks.specs.Clauses.{wanted_of, counted_from, InsideAt, FoundAt, Finds, Seeking, fallen_back}

-- the next clause stands in the same block
pub inside_on : {t : List ℕ} {start z q next : ℕ} {colon : Bool} → InsideAt t start z → AnotherClause t z q colon next → InsideAt t start next
inside_on h a = record { outside = a.on ∙ h.outside; least = omega (arith, h.least, a.here.least, a.least); most = a.most }

unfoldable pub clauses_in : Clauses → ℕ
clauses_in none = 0
clauses_in (clause colon x more) = suc (clauses_in more)

-- the first clause is not wanted by its number, and another follows it, or none
pub wanted_next : (number : Option ℕ) (fb : Bool) (colon colon₂ : Bool) (x y : Sequence) (more : Clauses) → (number ≡ Some 0 → ⊥)
    → wanted_of number fb (clause colon x (clause colon₂ y more)) ≡ wanted_of (option_map (λ n. n - 1) number) fb (clause colon₂ y more)
unfolding clause_at fallback_of
wanted_next (Some zero) fb colon colon₂ x y more e = absurd (e refl)
wanted_next (Some (suc n)) fb colon colon₂ x y more e =
    ap (λ (k : ℕ). wanted_of (Some k) fb (clause colon₂ y more)) (let z : n ≡ suc n - 1 = omega arith in z)
wanted_next None fb colon colon₂ x y more e = refl

wanted_last : (number : Option ℕ) (fb : Bool) (colon : Bool) (x : Sequence) → (number ≡ Some 0 → ⊥) → wanted_of number fb (clause colon x none) ≡ cond (both fb colon) x end
unfolding clause_at fallback_of
wanted_last (Some zero) fb colon x e = absurd (e refl)
wanted_last (Some (suc n)) true colon x e = refl
wanted_last (Some (suc n)) false colon x e = refl
wanted_last None true colon x e = refl
wanted_last None false colon x e = refl

pub seek_less : {t : List ℕ} {z q next : ℕ} {another : Bool} → AnotherClause t z q another next
    → clauses_in (innermost (levels_at t next)).more < clauses_in (innermost (levels_at t z)).more
unfolding clauses_in
seek_less {t} {z} {q} {next} a =
    let e : clauses_in (innermost (levels_at t z)).more ≡ suc (clauses_in (innermost (levels_at t next)).more) = ap clauses_in a.more in
    omega (arith, e)

-- whether the first clause is wanted by its number
is_first : (number : Option ℕ) → option_eq nat_eq number (Some 0) ≡ true → number ≡ Some 0
is_first (Some n) e = ap Some (eqb-true n 0 e)
is_first None e = cc

not_first : (number : Option ℕ) → option_eq nat_eq number (Some 0) ≡ false → number ≡ Some 0 → ⊥
not_first (Some zero) e k = cc
not_first (Some (suc n)) e k = cc
not_first None e k = cc

module _ {t : List ℕ} {start : ℕ} {wanted : Sequence} {s : Sought} {z : ℕ} {colon : Bool} (h : Seeking t start wanted s z colon) where
  pub seek_here : option_eq nat_eq s.number (Some 0) ≡ true → FoundAt t start wanted z
  unfolding clause_at
  seek_here e = record { is = h.same ∙ ap (λ (n : Option ℕ). wanted_of n s.fallback (as_clauses colon (levels_at t z))) (is_first s.number e); inside = h.inside }

  module _ (e : option_eq nat_eq s.number (Some 0) ≡ false) where
    -- the last clause is not wanted by its number
    pub seek_last : {r : Result ℕ ℕ} → (innermost (levels_at t z)).more ≡ none → r ≡ fallen_back z s.fallback colon → Finds t start wanted r
    seek_last {r} l q = subst (Finds t start wanted) (sym q) (by (both s.fallback colon) refl)
      where
        is : wanted ≡ cond (both s.fallback colon) (innermost (levels_at t z)).rest end
        is =
            h.same
            ∙ ap (λ (more : Clauses). wanted_of s.number s.fallback (clause colon (innermost (levels_at t z)).rest more)) l
            ∙ wanted_last s.number s.fallback colon _ (not_first s.number e)

        by : (b : Bool) → both s.fallback colon ≡ b → Finds t start wanted (cond b (Ok z) (Err z))
        by true k = record { is = is ∙ ap (λ (b : Bool). cond b (innermost (levels_at t z)).rest end) k; inside = h.inside }
        by false k = (is ∙ ap (λ (b : Bool). cond b (innermost (levels_at t z)).rest end) k, h.inside)

    pub seek_on : {q next : ℕ} {less : Sought} {another : Bool} → AnotherClause t z q another next → less ≡ counted_from 1 s → Seeking t start wanted less next another
    seek_on {q} {next} {less} {another} a k =
        record {
          same =
              h.same
              ∙ ap (λ (more : Clauses). wanted_of s.number s.fallback (clause colon (innermost (levels_at t z)).rest more)) a.more
              ∙ wanted_next s.number s.fallback colon another _ _ _ (not_first s.number e)
              ∙ ap (λ (n : Sought). wanted_of n.number n.fallback (as_clauses another (levels_at t next))) (sym k);
          inside = inside_on h.inside a;
        }

-- the inside of a block is a place in it
pub inside_start : (t : List ℕ) (q : ℕ) → q ≤ length t → InsideAt t q q
inside_start t q h = record { outside = refl; least = omega arith; most = h }
