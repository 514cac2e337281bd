-- Runs over any number of items: none, one, and one run after another, up to the end of the sequence. Assumes nothing.
use Prim.Native.Nat.{ℕ, ◌≤◌}
use mathlib.Core.Path.{◌≡◌, refl, sym, ◌∙◌, subst}
use mathlib.Core.List.{List}
use native.Mathlib.Omega.{arith}
use lib.ListN.{length}
use Rattle.rules.specs.Table.{View}
use Rattle.rules.specs.Text.{Level}
use Rattle.rules.specs.declared.refusal.Fault.{Fault}
use Rattle.actions.specs.declared.state.Stop.TheVariants.{Ended, Escaped, Refused}
use Rattle.actions.specs.declared.state.Ran.{Ran}
use Rattle.actions.specs.Ran.{ended_ran, hand}
use Rattle.actions.proofs.Joining.{stays, here, joined, said, then_on, renamed, no_end, no_end_left, onward_left, onward_refused}
use Rattle.running.specs.Runs.{Runs, Steps, Strides}

module _ (s : ℕ → List Level) (n : ℕ) (v : View) (first count level p i left at : ℕ) (b : List ℕ) where
  -- one item
  pub strides : {e : List ℕ} {r : Ran} → Steps s n v (hand first count) level p i left at b e r → Strides s n v (hand first count) level p i left at b e r
  strides u = record { does = u.does; around = u.around; least = λ y. omega (arith, u.least y); most = u.most }

  -- none
  pub strides_none : (r : Ran) → r ≡ ended_ran i left at p → p ≤ n → at ≤ length b → i ≤ count → Strides s n v (hand first count) level p i left at b b r
  strides_none r q h l k =
      subst (Strides s n v (hand first count) level p i left at b b) (sym q)
      (record {
        does = stays _ (λ ks _. here _ refl refl) refl (omega arith) l k;
        around = λ _. refl;
        least = λ _. omega arith;
        most = λ _. h;
      })

  module _ {e : List ℕ} {r : Ran} (u : Strides s n v (hand first count) level p i left at b e r) where
    -- the items that follow
    pub strides_on : {e' : List ℕ} {r' : Ran} → r.stop ≡ Ended → Strides s n v (hand first count) level r.place r.next.0 r.left r.at e e' r'
        → Strides s n v (hand first count) level p i left at b e' r'
    strides_on q k =
        record {
          does = joined u.does (omega arith) k.does (λ ks m. then_on (u.does.same ks m) q u.does.size refl (k.does.same ks m));
          around = λ y. k.around y ∙ u.around q;
          least = λ y. omega (arith, k.least y, u.least q);
          most = k.most;
        }

    -- the run of what is left of the sequence, and a run that stops here
    pub strides_runs_on : {e' : List ℕ} {r' : Ran} → r.stop ≡ Ended → Runs s n v (hand first count) level r.place r.next.0 r.left r.at e e' r'
        → Runs s n v (hand first count) level p i left at b e' r'
    strides_runs_on q k =
        record {
          does = joined u.does (omega arith) k.does (λ ks m. then_on (u.does.same ks m) q u.does.size refl (k.does.same ks m));
          ends = λ y. let w = k.ends y in record { stop = w.stop; around = w.around ∙ u.around q; least = omega (arith, w.least, u.least q); most = w.most };
        }

    pub strides_runs_left : r.stop ≡ Escaped → Runs s n v (hand first count) level p i left at b e r
    strides_runs_left q =
        record {
          does = said r u.does refl refl (omega arith) u.does.inside (λ ks m. renamed (u.does.same ks m) r refl refl (λ p y. y) (onward_left _ _ r.left r.next.0 q ∙ sym (onward_left _ _ r.left r.next.0 q)));
          ends = λ y. absurd (no_end_left q y);
        }

    pub strides_runs_refused : (f : Fault) → r.stop ≡ Refused f → Runs s n v (hand first count) level p i left at b e r
    strides_runs_refused f q =
        record {
          does = said r u.does refl refl (omega arith) u.does.inside (λ ks m. renamed (u.does.same ks m) r refl refl (λ p y. y) (onward_refused _ _ _ _ r.left r.next.0 f q));
          ends = λ y. absurd (no_end q y);
        }

  -- the same after one item
  module _ {e : List ℕ} {r : Ran} (u : Steps s n v (hand first count) level p i left at b e r) where
    pub runs_on : {e' : List ℕ} {r' : Ran} → r.stop ≡ Ended → Runs s n v (hand first count) level r.place r.next.0 r.left r.at e e' r'
        → Runs s n v (hand first count) level p i left at b e' r'
    runs_on q k = strides_runs_on (strides u) q k

    pub runs_left : r.stop ≡ Escaped → Runs s n v (hand first count) level p i left at b e r
    runs_left q = strides_runs_left (strides u) q

    pub runs_refused : (f : Fault) → r.stop ≡ Refused f → Runs s n v (hand first count) level p i left at b e r
    runs_refused f q = strides_runs_refused (strides u) f q

-- what a loop of a runner knows at its head: whatever ends from here is the whole
pub record Onto (Run : ℕ → ℕ → ℕ → List ℕ → List ℕ → Ran → Type 0) (Whole : List ℕ → Ran → Type 0) (most count : ℕ) (b₀ : List ℕ) (i left at : ℕ) (b : List ℕ) : Type 0 where
  pub ends : (e : List ℕ) (r : Ran) → Run i left at b e r → Whole e r
  pub size : length b ≡ length b₀
  pub fits : at ≤ length b
  pub falls : left ≤ most
  pub inside : i ≤ count
