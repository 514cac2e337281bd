-- What may be asked of a vet, test by test, and what then follows. Assumes nothing.
use Prim.Native.Nat.{ℕ}
use mathlib.Core.Path.{◌≡◌, refl, sym, ap, ◌∙◌}
use mathlib.Core.Bool.{Bool, true, false}
use mathlib.Core.List.{List, [], ◌∷◌}
use Rattle.std.specs.List.{list_all}
use lib.Dec.{leb}
use Rattle.rules.specs.Choice.{both}
use Rattle.rules.specs.Text.{text_verdict, provided}
use Rattle.rules.specs.Verdict.{Verdict, Accepted, Refused}
use Rattle.vet_rules.specs.Plain.{vettable_verdict}
use Rattle.vet_rules.specs.Vet.{known_tags, may_ask, asked_verdict, declined, unless_declined, run_answer, vet_of, Vetted}
use Rattle.vet_rules.specs.Demand.{Promised}
use Rattle.vet_rules.proofs.Promise.{promised}

-- the tags one by one
pub known_all : (kinds : List ℕ) → list_all (λ k. leb k 4) kinds ≡ known_tags kinds
known_all [] = refl
known_all (k ∷ ks) = ap (both (leb k 4)) (known_all ks)

-- the answer, stage by stage
module _ (format kinds : List ℕ) (longest : ℕ) where
  abbrev counting : Bool → Vetted
  counting _ = run_answer format kinds longest

  abbrev judging : Bool → Vetted
  judging _ = unless_declined (vettable_verdict format) counting

  abbrev reading : Bool → Vetted
  reading _ = unless_declined (text_verdict format) judging

  pub not_asked : may_ask kinds longest ≡ false → declined 12 0 ≡ vet_of format kinds longest
  unfolding vet_of asked_verdict
  not_asked e = sym (ap (λ (b : Bool). unless_declined (provided b 12 0 (λ _. Accepted)) reading) e)

  module _ (may : may_ask kinds longest ≡ true) where
    asked : vet_of format kinds longest ≡ unless_declined (text_verdict format) judging
    unfolding vet_of asked_verdict
    asked = ap (λ (b : Bool). unless_declined (provided b 12 0 (λ _. Accepted)) reading) may

    pub not_read : {code position : ℕ} → text_verdict format ≡ Refused code position
        → declined code position ≡ vet_of format kinds longest
    not_read e = sym (asked ∙ ap (λ (x : Verdict). unless_declined x judging) e)

    module _ (text : text_verdict format ≡ Accepted) where
      read : vet_of format kinds longest ≡ unless_declined (vettable_verdict format) counting
      read = asked ∙ ap (λ (x : Verdict). unless_declined x judging) text

      pub not_vettable_lem : {code position : ℕ} → vettable_verdict format ≡ Refused code position
          → declined code position ≡ vet_of format kinds longest
      not_vettable_lem e = sym (read ∙ ap (λ (x : Verdict). unless_declined x counting) e)

      pub ran : vettable_verdict format ≡ Accepted → run_answer format kinds longest ≡ vet_of format kinds longest
      ran e = sym (read ∙ ap (λ (x : Verdict). unless_declined x counting) e)

-- the definition's answer keeps every promise
pub keeps : (format kinds : List ℕ) (longest : ℕ) {r : Vetted} → r ≡ vet_of format kinds longest
    → Promised format kinds longest r
keeps format kinds longest e = rw e (promised format kinds longest)
