-- How many steps a sequence without iterations takes at the most: no more than the text has items, so that no accepted text
-- meets the step limit. Assumes nothing.
use Prim.Native.Nat.{ℕ, suc, ◌+◌, ◌≤◌}
use mathlib.Core.Path.{◌≡◌, refl}
use mathlib.Core.List.{List, [], ◌∷◌}
use native.Mathlib.Omega.{arith}
use lib.ListN.{length}
use Rattle.rules.specs.Text.{Token, Sequence, end, acts, escapes, iterates, chooses, Clauses, none, clause, Level, innermost, outer, directive_before, item_before, levels_of, levels_at, sequence_of, tokens_at, text_verdict}
use Rattle.rules.specs.declared.Bracket.TheVariants.{Conditional, Iteration}
use Rattle.rules.specs.declared.Code.{Code}
use Rattle.rules.specs.declared.Code.TheVariants.{Writes, Jump, Escape, Opens, Separator, Closes, Unknown}
use Rattle.rules.specs.declared.Directive.{Directive}
use Rattle.rules.specs.declared.Item.{Item}
use Rattle.rules.specs.declared.Item.TheVariants.{End, Literal, Written, BadNumber, Unfinished}
use Rattle.rules.specs.Verdict.{Accepted}
use Rattle.vet_rules.proofs.Ordinary.{items_few}

-- one for each element, those of all clauses too
unfoldable mutual
  pub weight : Sequence → ℕ
  weight end = 0
  weight (acts p x rest) = suc (weight rest)
  weight (escapes p rest) = suc (weight rest)
  weight (iterates p d body rest) = suc (weight rest)
  weight (chooses p d cs rest) = suc (weights cs + weight rest)

  pub weights : Clauses → ℕ
  weights none = 0
  weights (clause colon x more) = weight x + weights more

-- of all open sequences together
unfoldable total : List Level → ℕ
total [] = 0
total (l ∷ ls) = weight l.rest + weights l.more + total ls

total_is : (ls : List Level)
    → total ls ≡ weight (innermost ls).rest + weights (innermost ls).more + total (outer ls)
unfolding total weight
total_is [] = refl
total_is (l ∷ ls) = refl

directive_weight : (p : ℕ) (d : Directive) (c : Code) (ls : List Level) → total (directive_before p d c ls) ≤ suc (total ls)
unfolding total weight
directive_weight p d (Writes f) ls = omega (arith, total_is ls)
directive_weight p d Jump ls = omega (arith, total_is ls)
directive_weight p d Escape ls = omega (arith, total_is ls)
directive_weight p d (Opens Conditional) ls = omega (arith, total_is ls, total_is (outer ls))
directive_weight p d (Opens Iteration) ls = omega (arith, total_is ls, total_is (outer ls))
directive_weight p d Separator ls = omega (arith, total_is ls)
directive_weight p d (Closes b) ls = omega arith
directive_weight p d Unknown ls = omega arith

item_weight : (p : ℕ) (x : Item) (ls : List Level) → total (item_before p x ls) ≤ suc (total ls)
unfolding total weight
item_weight p End ls = omega arith
item_weight p (Literal b) ls = omega (arith, total_is ls)
item_weight p (Written d) ls = directive_weight p d d.code ls
item_weight p BadNumber ls = omega arith
item_weight p Unfinished ls = omega arith

levels_weight : (xs : List Token) → total (levels_of xs) ≤ length xs
unfolding levels_of total
levels_weight [] = omega arith
levels_weight (x ∷ xs) = omega (arith, item_weight x.position x.item (levels_of xs), levels_weight xs)

pub text_weight : (t : List ℕ) → text_verdict t ≡ Accepted → weight (sequence_of t) ≤ 4096
unfolding levels_at
text_weight t v =
    let xs = tokens_at t 0 in
    omega (arith, levels_weight xs, total_is (levels_of xs), items_few t v)
