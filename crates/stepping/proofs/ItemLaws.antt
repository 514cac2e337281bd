-- One item of a sequence that opens no block, from the answer that its code gives. Assumes nothing.
use Prim.Native.Nat.{ℕ, ◌+◌, ◌-◌, ◌<◌, ◌≤◌}
use mathlib.Core.Path.{◌≡◌, refl, sym, ap, subst, ◌∙◌}
use mathlib.Core.Bool.{Bool, cond}
use mathlib.Core.List.{List, [], ◌∷◌}
use native.Mathlib.Omega.{arith}
use native.Mathlib.Decide.{dec_le}
use borrow.Author.Tests.{le-leb, lt-leb}
use denote.Enum.Declared.{tag_of}
use types.Run.{OneOf, miss}
use lib.Dec.{leb}
use lib.ListN.{length, get_or, set}
use Rattle.rules.specs.Directive.{item_at}
use Rattle.rules.specs.Table.{View}
use Rattle.rules.specs.Text.{Level, levels_at}
use Rattle.rules.specs.declared.Code.{Code}
use Rattle.rules.specs.declared.Code.TheVariants.{Writes, Jump, Escape, Opens, Separator, Closes, Unknown}
use Rattle.rules.specs.declared.Directive.{Directive}
use Rattle.rules.specs.declared.Item.{Item}
use Rattle.rules.specs.declared.Item.TheVariants.{Literal}
use Rattle.rules.specs.declared.refusal.Refusal.TheVariants.{StepLimit, NoRoom}
use Rattle.rules.specs.Run.{item_acts}
use Rattle.rules.specs.contracts.Code as code_declared
use Rattle.rules.proofs.Reading.{item_literal}
use Rattle.actions.specs.declared.state.Ran.{Ran}
use Rattle.actions.specs.declared.state.Spot.{Spot}
use Rattle.actions.specs.Acting.{Performed}
use Rattle.actions.specs.Ran.{refused_ran, ended_ran, begun, hand}
use Rattle.running.specs.Runs.{ActsAt, EscapesAt, AloneAt, Ahead, Steps}
use Rattle.stepping.specs.Stepping.{ActsAlone, PutsLiterals, escaped_ran, escaped}
use Rattle.running.proofs.Arms.{literal_acts, literal_full, steps_acts_none, steps_acts, steps_escape_none, steps_escape_left, steps_escape_on}
use Rattle.running.proofs.Strides.{strides, strides_none, strides_on}
use Rattle.running.proofs.Places.{literal_at, literal_ahead}

-- an item at the place `here` of whatever gives the sequences
module _ (s : ℕ → List Level) (n : ℕ) (v : View) (first count level here i left at : ℕ) (b : List ℕ) where
  abbrev StepsHere : List ℕ → Ran → Type 0
  StepsHere e r = Steps s n v (hand first count) level here i left at b e r

  -- no step is left for one that acts
  pub acts_none : {p q : ℕ} {item : Item} → ActsAt s here p item q → (r : Ran) → left ≡ 0 → r ≡ refused_ran StepLimit p i left at q → at ≤ length b → i ≤ count → StepsHere b r
  acts_none {p} {q} a r z e l k = subst (StepsHere b) (sym e) (steps_acts_none s n v first count level here i left at b a z q l k)

  -- the same of a directive that acts alone, by its code
  pub alone_none : (p : ℕ) (d : Directive) → ActsAlone d.code → AloneAt s here p d d.code → (r : Ran) → left ≡ 0 → r ≡ refused_ran StepLimit p i left at d.after → at ≤ length b → i ≤ count → StepsHere b r
  alone_none p d o a r z e l k = by d.code o a
    where
      by : (c : Code) → ActsAlone c → AloneAt s here p d c → StepsHere b r
      by (Writes f) o a = acts_none a r z e l k
      by Jump o a = acts_none a r z e l k
      by Escape o a = subst (StepsHere b) (sym e) (steps_escape_none s n v first count level here i left at b a z d.after l k)
      by (Opens c) o a = absurd o
      by Separator o a = absurd o
      by (Closes c) o a = absurd o
      by Unknown o a = absurd o

  module _ (z : left ≡ 0 → ⊥) {p q : ℕ} (h : Ahead n here q) where
    -- one that acts, once it is begun
    pub acts_begun : {item : Item} → ActsAt s here p item q → {b₂ : List ℕ} {r : Ran} (spot : Spot) → spot ≡ record { position = p; place = q; left = left - 1; at = at }
        → Performed (λ on. item_acts v spot.position spot.left item (hand first count i) on) count spot b b₂ r → StepsHere b₂ r
    acts_begun {item} a {b₂} {r} spot e u =
        let w : Performed (λ on. item_acts v p (left - 1) item (hand first count i) on) count (record { position = p; place = q; left = left - 1; at = at }) b b₂ r =
        subst (λ (y : Spot). Performed (λ on. item_acts v y.position y.left item (hand first count i) on) count y b b₂ r) e u in
        let a₂ : ActsAt s here p item r.place = subst (λ (y : ℕ). ActsAt s here p item y) (sym w.place) a in
        steps_acts s n v first count level here i left at b a₂ z w.does (omega (arith, w.place, h.least)) (omega (arith, w.place, h.most))

    -- a literal byte
    module _ (byte : ℕ) (a : ActsAt s here p (Literal byte) q) (r : Ran) (spot : Spot) (o : spot ≡ record { position = p; place = q; left = left - 1; at = at }) where
      pub literal_no_room : length b ≤ at → r ≡ refused_ran NoRoom spot.position i spot.left spot.at spot.place → at ≤ length b → i ≤ count → StepsHere b r
      literal_no_room f e l k =
          subst (StepsHere b) (sym (e ∙ ap (λ (y : Spot). refused_ran NoRoom y.position i y.left y.at y.place) o))
          (steps_acts s n v first count level here i left at b a z (literal_full v first count p byte i (left - 1) at q b k l f) h.least h.most)

      pub literal_put : at < length b → r ≡ ended_ran i spot.left (at + 1) spot.place → i ≤ count → StepsHere (set b at byte) r
      literal_put f e k =
          subst (StepsHere (set b at byte)) (sym (e ∙ ap (λ (y : Spot). ended_ran i y.left (at + 1) y.place) o))
          (steps_acts s n v first count level here i left at b a z (literal_acts v first count p byte i (left - 1) at q b k f) h.least h.most)

    -- an escape, once it is begun
    pub escape_begun : EscapesAt s here p q → {r : Ran} (spot : Spot) → spot ≡ record { position = p; place = q; left = left - 1; at = at } → r ≡ escaped spot count i → at ≤ length b → i ≤ count → StepsHere b r
    escape_begun a {r} spot o e l k = by (dec_le count i)
      where
        told : {y : Bool} → leb count i ≡ y → r ≡ cond y (escaped_ran i (left - 1) at q) (ended_ran i (left - 1) at q)
        told g = e ∙ ap (λ (y : Spot). escaped y count i) o ∙ ap (λ (y : Bool). cond y (escaped_ran i (left - 1) at q) (ended_ran i (left - 1) at q)) g

        by : Dec (count ≤ i) → StepsHere b r
        by (yes g) = subst (StepsHere b) (sym (told (le-leb count i g))) (steps_escape_left s n v first count level here i left at b a z g q l k)
        by (no g) =
            let f : i < count = omega arith in
            subst (StepsHere b) (sym (told (lt-leb count i f))) (steps_escape_on s n v first count level here i left at b a z f h.least h.most l k)

-- a directive that begins has written nothing yet: the end is in the buffer as before
pub begun_inside : (spot met : Spot) (b : List ℕ) → spot ≡ begun met → met.at ≤ length b → spot.at ≤ length b
begun_inside spot met b o l = subst (λ (y : Spot). y.at ≤ length b) (sym o) l

-- literal bytes one after another
pub ended_is : {i l l₂ a a₂ q q₂ : ℕ} → l ≡ l₂ → a ≡ a₂ → q ≡ q₂ → ended_ran i l a q ≡ ended_ran i l₂ a₂ q₂
ended_is x y z = rw (x, y, z)

module _ (t : List ℕ) (p left at : ℕ) (b : List ℕ) where
  pub literals_none : p ≤ length t → at ≤ length b → PutsLiterals t p left at b b 0
  literals_none h l =
      record {
        steps = omega arith;
        inside = omega arith;
        room = omega arith;
        runs = λ v first count level i k. strides_none (levels_at t) (length t) v first count level p i left at b _ (ended_is (omega arith) (omega arith) (omega arith)) h l k;
      }

  pub literals_more : {e : List ℕ} {k : ℕ} → PutsLiterals t p left at b e k → p + k < length t → (get_or t (p + k) 0 ≡ 126 → ⊥) → k < left → at + k < length b
      → PutsLiterals t p left at b (set e (at + k) (get_or t (p + k) 0)) (k + 1)
  literals_more {e} {k} u h n s r =
      record {
        steps = omega arith;
        inside = omega arith;
        room = omega arith;
        runs =
            λ v first count level i c.
            let w = u.runs v first count level i c in
            let byte = get_or t (p + k) 0 in
            let m : item_at t (p + k) ≡ Literal byte = item_literal t (p + k) h n in
            strides_on (levels_at t) (length t) v first count level p i left at b w refl
            (strides (levels_at t) (length t) v first count level (p + k) i (left - k) (at + k) e
            (literal_put (levels_at t) (length t) v first count level (p + k) i (left - k) (at + k) e (λ z. omega arith) (literal_ahead t (p + k) byte m) byte (literal_at t (p + k) byte m) _ _ refl (omega (arith, w.does.size))
            (ended_is (omega arith) (omega arith) (omega arith)) c));
      }

-- a directive that acts alone is one of three
pub only_escape : (keys : List ℕ) (c : Code) → keys ≡ 2 ∷ 3 ∷ 4 ∷ 5 ∷ 6 ∷ [] → ActsAlone c → OneOf keys (tag_of code_declared.the_type c) → c ≡ Escape
only_escape keys (Writes f) q a o = absurd (miss (2 ∷ 3 ∷ 4 ∷ 5 ∷ 6 ∷ []) 0 tt (subst (λ (k : List ℕ). OneOf k 0) q o))
only_escape keys Jump q a o = absurd (miss (2 ∷ 3 ∷ 4 ∷ 5 ∷ 6 ∷ []) 1 tt (subst (λ (k : List ℕ). OneOf k 1) q o))
only_escape keys Escape q a o = refl
only_escape keys (Opens b) q a o = absurd a
only_escape keys Separator q a o = absurd a
only_escape keys (Closes b) q a o = absurd a
only_escape keys Unknown q a o = absurd a
