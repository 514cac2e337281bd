-- Landmarks: what one says of its block, and how one is laid. Assumes nothing.
use Rattle.std.proofs.Common.{ℕ, ◌+◌, ◌-◌, ◌≤◌, ◌≡◌, refl, sym, ap, ◌∙◌, ◌⊎◌, inl, inr, Bool, true, false, cond, List, [], length, arith, Option, Some, None, IfSome, is_some}
use Rattle.std.specs.Prelude.{option_map}
use Rattle.std.proofs.lemmas.Option.{same_Some}
use Rattle.std.proofs.lemmas.List.Elements.{All-replicate}
use borrow.Author.Tests.{eq-eqb}
use lib.Dec.{eqb}
use lib.ListN.{replicate}
use Rattle.rules.specs.Text.{Clauses, none, clause, innermost, as_clauses, levels_at}
use Rattle.rules.specs.Directive.{item_at}
use Rattle.syntax.specs.Ends.{AnotherClause, shape_of}
use Rattle.syntax.specs.declared.ends.Shape.{Shape}
use Rattle.syntax.specs.declared.ends.Shape.TheVariants.{Passes, Begins, Splits, Finishes}
use Rattle.syntax.proofs.EndLaws.{shaped}
use Rattle.rules.proofs.TextLaws.{Within}
use Rattle.blocks.specs.declared.landmarks.Landmark.{Landmark}
use Rattle.blocks.specs.Clauses.{wanted_of}
use Rattle.blocks.specs.Landmarks.{StandsAt, Sound, end_of, Landmarks, Lays, Marks}
use Rattle.blocks.proofs.ClauseLaws.{wanted_next, inside_on}

-- 1. The clauses of a block, one after another.

from_start : (number : Option ℕ) → number ≡ option_map (λ m. m - 0) number
from_start None = refl
from_start (Some m) = ap Some (let z : m ≡ m - 0 = omega arith in z)

on_from : (n : ℕ) (number : Option ℕ) → option_map (λ m. m - 1) (option_map (λ m. m - n) number) ≡ option_map (λ m. m - (n + 1)) number
on_from n None = refl
on_from n (Some m) = ap Some (let z : m - n - 1 ≡ m - (n + 1) = omega arith in z)

-- a number above n is not that of clause n
above : (n : ℕ) (number : Option ℕ) → IfSome number (λ m. n + 1 ≤ m) → option_map (λ m. m - n) number ≡ Some 0 → ⊥
above n None h e = cc
above n (Some m) h e = let z : m - n ≡ 0 = same_Some (m - n) 0 e in omega (arith, h, z)

at_least : (n : ℕ) (number : Option ℕ) → IfSome number (λ m. n + 1 ≤ m) → IfSome number (λ m. n ≤ m)
at_least n None h = h
at_least n (Some m) h = omega (arith, h)

stands_first : (t : List ℕ) → StandsAt t 0 0 0 false 0
stands_first t = record {
  same = λ fb number _. ap (λ (m : Option ℕ). wanted_of m fb (as_clauses false (levels_at t 0))) (from_start number);
  inside = record { outside = refl; least = omega arith; most = omega arith };
  last = λ z. absurd (z refl);
}

stands_next : {t : List ℕ} {start n z q next after : ℕ} {colon another : Bool} → StandsAt t start n z colon after → AnotherClause t z q another next
    → StandsAt t start (n + 1) next another 0
stands_next {t} {start} {n} {z} {q} {next} {after} {colon} {another} h a = record {
  same = λ fb number k.
      h.same fb number (at_least n number k)
      ∙ ap (λ (more : Clauses). wanted_of (option_map (λ m. m - n) number) fb (clause colon (innermost (levels_at t z)).rest more)) a.more
      ∙ wanted_next (option_map (λ m. m - n) number) fb colon another _ _ _ (above n number k)
      ∙ ap (λ (m : Option ℕ). wanted_of m fb (as_clauses another (levels_at t next))) (on_from n number);
  inside = inside_on h.inside a;
  last = λ e. absurd (e refl);
}

-- 2. What is found by a landmark.

pub ends_it : {t : List ℕ} (l : Landmark) → Sound t l → is_some (end_of l) ≡ true → (innermost (levels_at t l.place)).more ≡ none
ends_it l u e = (u.last (λ z. by (eqb l.after 0) (eq-eqb l.after 0 z) e)).more
  where
    by : (b : Bool) → b ≡ true → is_some (cond b None (Some l.after)) ≡ true → ⊥
    by true q e = cc
    by false q e = cc

-- no landmark is laid yet
pub none_laid : (t : List ℕ) → Landmarks t []
none_laid t = record { each = λ k d h. absurd (omega (arith, h)) }

-- zeros say that the text begins at its start
abbrev pub empty : Landmark
empty = record { inside = 0; number = 0; place = 0; colon = false; after = 0 }

pub none_laid_in : (t : List ℕ) (n : ℕ) → Landmarks t (replicate n empty)
none_laid_in t n = record { each = All-replicate (λ l. l.inside ≤ length t → Sound t l) n empty (λ h. stands_first t) }

-- 3. The landmarks of a block: up to the clause l.

pub record Marking (t : List ℕ) (m₀ m : List Landmark) (l : Landmark) : Type 0 where
  pub marks : Marks t m₀ m
  pub here : Sound t l
  pub counts : l.number ≤ l.place

pub marking_next : {t : List ℕ} {m₀ m m₂ : List Landmark} {l : Landmark} {q next : ℕ} {colon : Bool} → Marking t m₀ m l → AnotherClause t l.place q colon next
    → Lays (record { inside = l.inside; number = l.number + 1; place = next; colon = colon; after = 0 }) m m₂
    → Marking t m₀ m₂ (record { inside = l.inside; number = l.number + 1; place = next; colon = colon; after = 0 })
marking_next {t} h a u =
    let s = stands_next h.here a in
    record { marks = record { sound = u.keeps t h.marks.sound s; size = u.size ∙ h.marks.size }; here = s; counts = omega (arith, h.counts, a.here.least, a.least) }

-- 4. The text goes on behind whatever stands at p.

module _ (t : List ℕ) (p : ℕ) {q : ℕ} {s : Shape} (e : s ≡ shape_of p (item_at t p)) where
  pub goes_in : s ≡ Begins q → Within p (length t) q
  goes_in k = (shaped t p _ (sym e ∙ k)).place

  pub goes_on : (s ≡ Passes q) ⊎ ((s ≡ Finishes q) ⊎ ((colon : Bool) × (s ≡ Splits colon q))) → Within p (length t) q
  goes_on (inl k) = (shaped t p _ (sym e ∙ k)).place
  goes_on (inr (inl k)) = (shaped t p _ (sym e ∙ k)).place
  goes_on (inr (inr k)) = (shaped t p _ (sym e ∙ k.1)).place
