-- No answer of a plain format is changed by conditionals: its vet is that of its items, one by one. Assumes nothing.
use Prim.Native.Nat.{ℕ, ◌+◌, ◌≤◌}
use mathlib.Core.Path.{◌≡◌, refl}
use mathlib.Core.Bool.{true, false}
use mathlib.Core.List.{List, [], ◌∷◌}
use native.Mathlib.Omega.{arith}
use Rattle.rules.specs.Rows.{row_of, in_order, plain_but}
use Rattle.rules.specs.Text.{Token, tokens_at, text_verdict, innermost, levels_of, levels_at}
use Rattle.rules.specs.declared.Item.{Item}
use Rattle.rules.specs.declared.Item.TheVariants.{End, Literal, Written, BadNumber, Unfinished}
use Rattle.rules.specs.declared.Plainness.{Plainness}
use Rattle.rules.specs.declared.Plainness.TheVariants.{Plain, Conditional as PlainButFor, Never}
use Rattle.rules.specs.Verdict.{Verdict, Accepted, Refused}
use Rattle.rules.proofs.Tests.{both_true, true_both}
use Rattle.vet_rules.specs.Plain.{plain_code, none_next, plain_item, plain_from, plain_verdict, vettable_verdict}
use Rattle.vet_rules.specs.Turns.{turn_of, Turn, Goes, Stops}
use Rattle.vet_rules.specs.Vet.{asked_verdict, unless_declined, answer_by, run_answer, vet_of, Vetted}
use Rattle.vet_rules.specs.Ways.{Way, on_turn, way_of}
use Rattle.vet_rules.proofs.Ordinary.{AllOrdinary, past_test, items_ordinary}
use Rattle.vet_rules.proofs.PlainRun.{before_ordinary}
use Rattle.vet_rules.proofs.PlainVet.{on_turn as on_item, vet_from, vet_plain}
use Rattle.vet_rules.proofs.TurnLaws.{Low, item_low}

-- what is plain a vet takes
plain_vettable_too : (p : Plainness) → plain_but false p ≡ true → plain_but true p ≡ true
plain_vettable_too Plain e = refl
plain_vettable_too PlainButFor e = refl
plain_vettable_too Never e = e

item_vettable : (x : Item) → plain_item false x ≡ true → plain_item true x ≡ true
unfolding plain_item
item_vettable End e = refl
item_vettable (Literal b) e = refl
item_vettable (Written d) e =
    let h = both_true (plain_code false d.code) (none_next (in_order d.parameters)) e in
    true_both (plain_vettable_too (row_of d.code false).plainness h.0) h.1
item_vettable BadNumber e = refl
item_vettable Unfinished e = refl

items_vettable : (xs : List Token) → plain_from false xs ≡ Accepted → plain_from true xs ≡ Accepted
unfolding plain_from
items_vettable [] e = refl
items_vettable (x ∷ xs) e =
    let h = past_test (plain_item false x.item) 11 x.position (λ _. plain_from false xs) e in
    rw (item_vettable x.item h.0) (items_vettable xs h.1)

pub plain_vettable : (format : List ℕ) → plain_verdict format ≡ Accepted → vettable_verdict format ≡ Accepted
plain_vettable format e = items_vettable (tokens_at format 0) e

-- the way through ordinary items goes by them
module _ (kinds : List ℕ) (longest : ℕ) where
  same_turn : (p : ℕ) (t : Turn) (sum : ℕ) (on : ℕ → ℕ → Way) (rest : ℕ → ℕ → Vetted)
      → ((n s : ℕ) → answer_by (on n s) ≡ rest n s)
      → answer_by (on_turn p t sum on) ≡ on_item p t sum rest
  same_turn p (Goes next size) sum on rest h = h next.0 (sum + size)
  same_turn p (Stops code) sum on rest h = refl

  items_way : (xs : List Token) → AllOrdinary xs → (next sum : ℕ)
      → answer_by (way_of kinds longest (innermost (levels_of xs)).rest next sum) ≡ vet_from kinds longest xs next sum
  unfolding way_of vet_from levels_of
  items_way [] o next sum = refl
  items_way (x ∷ xs) o next sum =
      rw (before_ordinary x.position x.item (levels_of xs) o.0)
      (same_turn x.position (turn_of kinds longest x.item next) sum
      (λ n s. way_of kinds longest (innermost (levels_of xs)).rest n s) (λ n s. vet_from kinds longest xs n s)
      (items_way xs o.1))

  -- and its codes are those of items
  low_code : (p : ℕ) (t : Turn) → Low t → (sum : ℕ) (rest : ℕ → ℕ → Vetted) → ((n s : ℕ) → (rest n s).code ≤ 8)
      → (on_item p t sum rest).code ≤ 8
  low_code p (Goes n s) l sum rest h = h n.0 (sum + s)
  low_code p (Stops code) l sum rest h = l

  items_code : (xs : List Token) → AllOrdinary xs → (next sum : ℕ) → (vet_from kinds longest xs next sum).code ≤ 8
  unfolding vet_from
  items_code [] o next sum = omega arith
  items_code (x ∷ xs) o next sum =
      low_code x.position (turn_of kinds longest x.item next) (item_low kinds longest x.item o.0 next) sum
      (λ n s. vet_from kinds longest xs n s) (items_code xs o.1)

module _ (format kinds : List ℕ) (longest : ℕ) (plain : plain_verdict format ≡ Accepted) where
  pub plain_answer : text_verdict format ≡ Accepted
      → run_answer format kinds longest ≡ vet_from kinds longest (tokens_at format 0) 0 0
  unfolding levels_at
  plain_answer text = items_way kinds longest (tokens_at format 0) (items_ordinary format text plain) 0 0

  -- so that a run of it meets no 11
  pub plain_code_lem : text_verdict format ≡ Accepted → (run_answer format kinds longest).code ≤ 8
  plain_code_lem text =
      rw (plain_answer text) (items_code kinds longest (tokens_at format 0) (items_ordinary format text plain) 0 0)

  -- and that the whole answer is as it was before there were conditionals
  pub plain_as_before : vet_of format kinds longest ≡ vet_plain format kinds longest
  unfolding vet_of
  plain_as_before = by (asked_verdict kinds longest) (text_verdict format) refl
    where
      by : (asked text : Verdict) → text_verdict format ≡ text
          → unless_declined asked
          (λ _. unless_declined text (λ _. unless_declined (vettable_verdict format) (λ _. run_answer format kinds longest)))
          ≡ unless_declined asked
          (λ _. unless_declined text
          (λ _. unless_declined (plain_verdict format) (λ _. vet_from kinds longest (tokens_at format 0) 0 0)))
      by (Refused code p) text e = refl
      by Accepted (Refused code p) e = refl
      by Accepted Accepted e = rw (plain_vettable format plain, plain) (plain_answer e)
