-- A sequence, element by element, as the counting loop goes through it. Assumes nothing.
use Prim.Native.Nat.{ℕ, ◌+◌, ◌*◌, ◌-◌, ◌≤◌}
use mathlib.Core.Path.{◌≡◌, refl, sym, ap, subst, ◌∙◌}
use mathlib.Core.List.{List}
use native.Mathlib.Omega.{arith}
use lib.ListN.{length}
use Rattle.std.specs.Prelude.{Ok, Err}
use Rattle.rules.specs.declared.refusal.Fault.{Fault}
use Rattle.rules.specs.Text.{Sequence, innermost, outer, levels_at}
use Rattle.syntax.specs.Ends.{ClauseAt, EndsClause}
use Rattle.syntax.specs.declared.ends.ClauseEnd.{ClauseEnd}
use Rattle.syntax.specs.declared.ends.ClauseEnd.TheVariants.{Last, Another}
use Rattle.vet_rules.specs.Ways.{fails, way_of}
use Rattle.vet_rules.specs.Worst.{most_piece}
use Rattle.vet_rules.specs.Vet.{vetted_as, answer_by, run_answer}
use Rattle.vet.specs.Counting.{VettableAt, way_at, Onward, AtEnd, Walked, SequenceIs}
use Rattle.vet.specs.declared.counting.Counted.{Counted}

-- from `start` with the argument `first` on, the elements before p are counted: `sum` bytes at the most, and the argument
-- `next` comes next
pub record Walking (t kinds : List ℕ) (longest start first p next sum : ℕ) : Type 0 where
  pub way : way_at t kinds longest start first 0 ≡ way_at t kinds longest p next sum
  pub more : (innermost (levels_at t p)).more ≡ (innermost (levels_at t start)).more
  pub outside : outer (levels_at t p) ≡ outer (levels_at t start)
  pub least : start ≤ p
  pub reached : next ≤ length kinds
  pub small : sum ≤ most_piece * (p - start)
  pub vettable : VettableAt t p

pub walk_start : (t kinds : List ℕ) (longest start first : ℕ) → VettableAt t start → first ≤ length kinds
    → Walking t kinds longest start first start first 0
walk_start t kinds longest start first k h =
    record { way = refl; more = refl; outside = refl; least = omega arith; reached = h; small = omega arith; vettable = k }

-- a clause that is read from a later place on ends where it ends
ends_from : (t : List ℕ) (start p : ℕ) (e : ClauseEnd)
    → (innermost (levels_at t p)).more ≡ (innermost (levels_at t start)).more
    → outer (levels_at t p) ≡ outer (levels_at t start) → start ≤ p → EndsClause t p e → EndsClause t start e
ends_from t start p e m o l = by e
  where
    here : (q : ℕ) → ClauseAt t p q → ClauseAt t start q
    here q c = record { rest = c.rest; more = c.more ∙ m; outside = c.outside ∙ o; least = omega (arith, c.least) }

    by : (e : ClauseEnd) → EndsClause t p e → EndsClause t start e
    by (Last q next) c =
        record { here = here q c.here; more = sym m ∙ c.more; on = c.on ∙ o; least = c.least; most = c.most }
    by (Another q colon next) c =
        record { here = here q c.here; more = sym m ∙ c.more; on = c.on ∙ o; least = c.least; most = c.most }

module _ {t kinds : List ℕ} {longest start first p next sum : ℕ} (w : Walking t kinds longest start first p next sum) where
  -- the sum of all that a text of 4,096 bytes can come to
  pub walk_small : {after size q : ℕ} → Onward t kinds longest p next after size q → sum + size ≤ 67112960
  walk_small o =
      omega (arith, w.small, w.least, o.ahead, o.reaches.small, o.reaches.vettable.inside, o.reaches.vettable.short)

  pub walk_on : {after size q : ℕ} → Onward t kinds longest p next after size q
      → Walking t kinds longest start first q after (sum + size)
  walk_on o = record {
    way = w.way ∙ o.way sum;
    more = sym o.more ∙ w.more;
    outside = sym o.outside ∙ w.outside;
    least = omega (arith, w.least, o.ahead);
    reached = o.reaches.reached;
    small = omega (arith, w.small, w.least, o.ahead, o.reaches.small);
    vettable = o.reaches.vettable;
  }

  pub walk_fails : {code position : ℕ} → ((n : ℕ) → way_at t kinds longest p next n ≡ fails code position)
      → way_at t kinds longest start first 0 ≡ fails code position
  walk_fails f = w.way ∙ f sum

  pub walk_ends : (e : ClauseEnd) → AtEnd t p e → Walked t kinds longest start first next sum e
  unfolding way_of
  walk_ends e a = record {
    way = w.way ∙ ap (λ (x : Sequence). way_of kinds longest x next sum) a.rest;
    ends = ends_from t start p e w.more w.outside w.least a.ends;
    least = omega (arith, w.least, a.here);
    reached = w.reached;
    small = subst (λ (q : ℕ). sum ≤ most_piece * (q - start)) (sym a.here) w.small;
    vettable = a.vettable;
  }

-- the whole text, from the first argument on
module _ (t kinds : List ℕ) (longest : ℕ) where
  pub answer_fails : (f : Fault) → SequenceIs t kinds longest 0 0 (Err f) → vetted_as (Err f) ≡ run_answer t kinds longest
  answer_fails f e = sym (ap answer_by e)

  pub answer_leads : (c : Counted) → SequenceIs t kinds longest 0 0 (Ok c) → vetted_as (Ok c.reach.size) ≡ run_answer t kinds longest
  answer_leads c w = sym (ap answer_by w.way)
