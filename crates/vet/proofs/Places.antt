-- Where a text goes on after an item, and what an item is to the test whether a vet takes it. Assumes nothing.
use Prim.Native.Nat.{ℕ, ◌≤◌, ◌<◌}
use mathlib.Core.Path.{◌≡◌, refl, sym, ◌∙◌}
use mathlib.Core.Bool.{Bool, true, false}
use mathlib.Core.List.{List}
use native.Mathlib.Omega.{arith}
use lib.ListN.{length}
use Rattle.rules.specs.Directive.{item_at}
use Rattle.rules.specs.Text.{tokens_at, place_after}
use Rattle.rules.specs.declared.Item.{Item}
use Rattle.rules.specs.declared.Item.TheVariants.{End, Literal, Written, BadNumber, Unfinished}
use Rattle.rules.specs.Verdict.{Accepted, Refused}
use Rattle.rules.proofs.TextLaws.{Stands, stands, tokens_is}
use Rattle.vet_rules.specs.Plain.{plain_item, plain_from, vettable_verdict}
use Rattle.vet_rules.proofs.Loop.{Follows, plain_on, plain_not, plain_end}

-- the text goes on after the item's first byte, inside the text
pub record Later (t : List ℕ) (p q : ℕ) : Type 0 where
  pub after : p < q
  pub inside : q ≤ length t

by_item : (t : List ℕ) (p : ℕ) (i : Item) → p < length t → Stands t p i → Later t p (place_after p i)
by_item t p End h s = absurd (omega arith)
by_item t p (Literal b) h s = record { after = omega arith; inside = omega arith }
by_item t p (Written d) h s = record { after = omega arith; inside = omega arith }
by_item t p BadNumber h s = record { after = omega arith; inside = omega arith }
by_item t p Unfinished h s = record { after = omega arith; inside = omega arith }

module _ (t : List ℕ) (p q : ℕ) (i : Item) (h : p < length t) (is : i ≡ item_at t p) (e : q ≡ place_after p i) where
  pub goes_later : Later t p q
  goes_later = rw e (by_item t p i h (stands t p i (sym is)))

  pub follows : Follows t p i q
  follows = record { is = rw e (tokens_is t p i (sym is) h) }

-- a text of which a vet takes the items before p
pub record VettableTo (t : List ℕ) (p : ℕ) : Type 0 where
  pub inside : p ≤ length t
  pub rest : vettable_verdict t ≡ plain_from true (tokens_at t p)

pub vettable_start : (t : List ℕ) → VettableTo t 0
vettable_start t = record { inside = omega arith; rest = refl }

module _ {t : List ℕ} {p : ℕ} (l : VettableTo t p) where
  pub vettable_done : length t ≤ p → Accepted ≡ vettable_verdict t
  vettable_done h = sym (l.rest ∙ plain_end true t p h)

  module _ (i : Item) (h : p < length t) (is : i ≡ item_at t p) (vettable : Bool) (test : vettable ≡ plain_item true i) where
    pub vettable_refused : vettable ≡ false → Refused 11 p ≡ vettable_verdict t
    vettable_refused e =
        sym (l.rest ∙ plain_not t p (place_after p i) i (follows t p (place_after p i) i h is refl) true (sym test ∙ e))

    pub vettable_more : vettable ≡ true → (q : ℕ) → q ≡ place_after p i → VettableTo t q
    vettable_more e q f = record {
      inside = (goes_later t p q i h is f).inside;
      rest = l.rest ∙ plain_on t p q i (follows t p q i h is f) true (sym test ∙ e);
    }
