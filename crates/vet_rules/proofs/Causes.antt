-- The exact causes of a vet's codes 2 to 5, 11 and 12, and that its run adds only 0, 6 to 8 and 11. Assumes nothing.
use Prim.Native.Nat.{ℕ, ◌*◌, ◌≤◌}
use mathlib.Core.Path.{◌≡◌, refl, sym, ap, subst, ◌∙◌}
use mathlib.Core.Logic.{inl, inr}
use mathlib.Core.Bool.{true, false}
use mathlib.Core.List.{List}
use native.Mathlib.Omega.{arith}
use lib.ListN.{length}
use Rattle.rules.specs.Text.{text_verdict, sequence_of}
use Rattle.rules.specs.Verdict.{Accepted, Refused}
use Rattle.rules.proofs.Tests.{not_both_ways}
use Rattle.vet_rules.specs.Vet.{Vetted, may_ask, declined, counted, answer_by, vet_of}
use Rattle.vet_rules.specs.Plain.{vettable_verdict}
use Rattle.vet_rules.specs.Ways.{Way, leads, fails, way_of}
use Rattle.vet_rules.specs.Demand.{OpensAt, Causes}
use Rattle.vet_rules.proofs.Blocks.{Blocked, text_blocked}
use Rattle.vet_rules.proofs.PlainWays.{plain_vettable, plain_code_lem}
use Rattle.vet_rules.specs.Worst.{most_piece}
use Rattle.vet_rules.proofs.Sizes.{Sized, text_sized}
use Rattle.vet_rules.proofs.Stages.{Running, stages}
use Rattle.vet_rules.proofs.Starts.{reason_range}

-- two refusals, verdicts or ways that are the same
same_code : {c p code position : ℕ} → declined c p ≡ declined code position → c ≡ code
same_code e = ap (λ (r : Vetted). r.code) e

same_position : {c p code position : ℕ} → declined c p ≡ declined code position → p ≡ position
same_position e = ap (λ (r : Vetted). r.position) e

verdict_same : {c p code position : ℕ} → Refused c p ≡ Refused code position → declined c p ≡ declined code position
verdict_same e = cc

same_verdict : {c p code position : ℕ} → declined c p ≡ declined code position → Refused c p ≡ Refused code position
same_verdict e = rw (same_code e, same_position e)

way_same : {c p code position : ℕ} → fails c p ≡ fails code position → declined c p ≡ declined code position
way_same e = cc

same_way : {c p code position : ℕ} → declined c p ≡ declined code position → fails c p ≡ fails code position
same_way e = rw (same_code e, same_position e)

never_both : {code position : ℕ} → Accepted ≡ Refused code position → ⊥
never_both e = let z : ◌≡◌ {A = ℕ} 0 1 = cc in omega arith

never_leads : {n s code position : ℕ} → leads n s ≡ fails code position → ⊥
never_leads e = let z : ◌≡◌ {A = ℕ} 0 1 = cc in omega arith

never_counted : {n c p : ℕ} → counted n ≡ declined c p → 1 ≤ c → ⊥
never_counted e h = let c = ap (λ (r : Vetted). r.code) e in omega arith

module _ (format kinds : List ℕ) (longest : ℕ) where
  abbrev way : Way
  way = way_of kinds longest (sequence_of format) 0 0

  abbrev Caused : Vetted → Type 0
  Caused r = Causes format kinds longest r

  -- each step of the order: what was asked, the text, taken or not, and the run
  by_asked : may_ask kinds longest ≡ false → Caused (declined 12 0)
  by_asked e = record {
    asked = (λ _. e, λ _. refl);
    text = λ code position l m. (λ z. absurd (omega (arith, same_code z)), λ h. absurd (not_both_ways h.0 e));
    not_vettable = λ position. (λ z. absurd (omega (arith, same_code z)), λ h. absurd (not_both_ways h.0 e));
    block = λ position z. absurd (omega (arith, same_code z));
    plain = λ _ z. absurd (omega arith);
    others = inr (inr (omega arith, omega arith));
    none = λ _. refl;
  }

  by_text : may_ask kinds longest ≡ true → (c p : ℕ) → text_verdict format ≡ Refused c p → 2 ≤ c → c ≤ 5
      → Caused (declined c p)
  by_text a c p e lo hi = record {
    asked = (λ z. absurd (omega (arith, same_code z)), λ h. absurd (not_both_ways a h));
    text = λ code position l m. (λ z. (a, e ∙ same_verdict z), λ h. verdict_same (sym e ∙ h.1));
    not_vettable = λ position. (λ z. absurd (omega (arith, same_code z)), λ h. absurd (never_both (sym h.1 ∙ e)));
    block = λ position z. absurd (omega (arith, same_code z));
    plain = λ _ z. absurd (omega arith);
    others = inr (inl (lo, omega arith));
    none = λ _. refl;
  }

  by_vettable : may_ask kinds longest ≡ true → text_verdict format ≡ Accepted → (p : ℕ) → vettable_verdict format ≡ Refused 11 p
      → Caused (declined 11 p)
  by_vettable a t p e = record {
    asked = (λ z. absurd (omega (arith, same_code z)), λ h. absurd (not_both_ways a h));
    text = λ code position l m. (λ z. absurd (omega (arith, same_code z)), λ h. absurd (never_both (sym t ∙ h.1)));
    not_vettable = λ position. (
      λ z. (a, t, inl (e ∙ same_verdict z)),
      λ h. elim h.2 [ inl f ↦ verdict_same (sym e ∙ f) | inr f ↦ absurd (never_both (sym f.0 ∙ e)) ],
    );
    block = λ position _ i. absurd (never_both (sym i ∙ e));
    plain = λ i _. absurd (never_both (sym (plain_vettable format i) ∙ e));
    others = inr (inr (omega arith, omega arith));
    none = λ _. refl;
  }

  by_way : Running format kinds longest → (w : Way) → way ≡ w → Sized (length kinds) (most_piece * 4096) w
      → Caused (answer_by w)
  by_way g (leads n s) e r = record {
    asked = (λ z. absurd (never_counted z (omega arith)), λ h. absurd (not_both_ways g.may h));
    text = λ code position l m.
        (λ z. absurd (never_counted z (omega arith)), λ h. absurd (never_both (sym g.text ∙ h.1)));
    not_vettable = λ position. (
      λ z. absurd (never_counted z (omega arith)),
      λ h. elim h.2 [ inl f ↦ absurd (never_both (sym g.vettable ∙ f)) | inr f ↦ absurd (never_leads (sym e ∙ f.1)) ],
    );
    block = λ position z. absurd (never_counted z (omega arith));
    plain = λ _ z. absurd (omega arith);
    others = inl refl;
    none = λ n. absurd (n refl);
  }
  by_way g (fails c q) e r = record {
    asked = (λ z. absurd (omega (arith, reason_range r, same_code z)), λ h. absurd (not_both_ways g.may h));
    text = λ code position l m.
        (λ z. absurd (omega (arith, reason_range r, same_code z)), λ h. absurd (never_both (sym g.text ∙ h.1)));
    not_vettable = λ position. (
      λ z. (g.may, g.text, inr (g.vettable, e ∙ same_way z)),
      λ h. elim h.2 [ inl f ↦ absurd (never_both (sym g.vettable ∙ f)) | inr f ↦ way_same (sym e ∙ f.1) ],
    );
    block = λ position z _.
        subst (OpensAt format) (same_position z) (subst (Blocked format) e (text_blocked format kinds longest g.text g.vettable) (same_code z));
    plain = λ i z. absurd (let h : c ≤ 8 = rw e at (plain_code_lem format kinds longest i g.text) in omega arith);
    others = elim r [ inl h ↦ inr (inl (omega arith, h.1)) | inr h ↦ inr (inr (omega arith, omega arith)) ];
    none = λ _. refl;
  }

  pub exact_causes : Causes format kinds longest (vet_of format kinds longest)
  exact_causes =
      stages format kinds longest Caused by_asked by_text by_vettable
      (λ r. by_way r way refl (text_sized format kinds longest r))
