-- The order of a vet, as a case distinction: what was asked, the text, taken or not, and the run. What holds in each case
-- holds of the answer. Assumes nothing.
use Prim.Native.Nat.{ℕ, ◌≤◌}
use mathlib.Core.Path.{◌≡◌, refl}
use mathlib.Core.Bool.{Bool, true, false}
use mathlib.Core.List.{List}
use native.Mathlib.Omega.{arith}
use Rattle.rules.specs.Text.{tokens_at, text_verdict, provided}
use Rattle.rules.specs.Verdict.{Verdict, Accepted, Refused}
use Rattle.vet_rules.specs.Vet.{Vetted, Asked, may_ask, asked_verdict, declined, unless_declined, run_answer, vet_of}
use Rattle.vet_rules.specs.Plain.{vettable_verdict}
use Rattle.vet_rules.proofs.Codes.{Between, text_codes, plain_codes, asked_of}

module _ (format kinds : List ℕ) (longest : ℕ) where
  -- a text that gets to its run
  pub record Running : Type 0 where
    pub may : may_ask kinds longest ≡ true
    pub asked : Asked kinds longest
    pub text : text_verdict format ≡ Accepted
    pub vettable : vettable_verdict format ≡ Accepted

  module _ (P : Vetted → Type 0)
      (not_asked : may_ask kinds longest ≡ false → P (declined 12 0))
      (not_text : may_ask kinds longest ≡ true → (code p : ℕ) → text_verdict format ≡ Refused code p → 2 ≤ code → code ≤ 5 → P (declined code p))
      (not_vettable_lem : may_ask kinds longest ≡ true → text_verdict format ≡ Accepted → (p : ℕ) → vettable_verdict format ≡ Refused 11 p → P (declined 11 p))
      (runs : Running → P (run_answer format kinds longest)) where
    abbrev counting : Bool → Vetted
    counting _ = run_answer format kinds longest

    abbrev judging : Bool → Vetted
    judging _ = unless_declined (vettable_verdict format) counting

    abbrev reading : Bool → Vetted
    reading _ = unless_declined (text_verdict format) judging

    by_vettable : may_ask kinds longest ≡ true → Asked kinds longest → text_verdict format ≡ Accepted → (x : Verdict)
        → vettable_verdict format ≡ x → Between 11 11 x → P (unless_declined x counting)
    by_vettable m a t Accepted e b = runs (record { may = m; asked = a; text = t; vettable = e })
    by_vettable m a t (Refused code p) e b =
        let c : code ≡ 11 = omega arith in
        rw c (not_vettable_lem m t p (rw c at e))

    by_text : may_ask kinds longest ≡ true → Asked kinds longest → (x : Verdict) → text_verdict format ≡ x → Between 2 5 x
        → P (unless_declined x judging)
    by_text m a Accepted e b = by_vettable m a e (vettable_verdict format) refl (plain_codes true (tokens_at format 0))
    by_text m a (Refused code p) e b = not_text m code p e b.0 b.1

    by_asked : (b : Bool) → may_ask kinds longest ≡ b → P (unless_declined (provided b 12 0 (λ _. Accepted)) reading)
    by_asked true m = by_text m (asked_of kinds longest m) (text_verdict format) refl (text_codes format)
    by_asked false m = not_asked m

    pub stages : P (vet_of format kinds longest)
    unfolding vet_of asked_verdict
    stages = by_asked (may_ask kinds longest) refl
