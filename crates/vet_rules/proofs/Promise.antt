-- Demand 3: the answer that the definition gives keeps its promise over all tables and buffers. Assumes nothing.
use Prim.Native.Nat.{ℕ, ◌*◌, ◌≤◌, ◌<◌}
use mathlib.Core.Path.{◌≡◌, refl}
use mathlib.Core.Logic.{◌⊎◌, inl, inr}
use mathlib.Core.List.{List}
use native.Mathlib.Omega.{arith}
use lib.ListN.{length}
use Rattle.rules.specs.Text.{sequence_of, tokens_at}
use Rattle.vet_rules.specs.Demand.{Enough, Filled, Refused, IsPlain, Promised}
use Rattle.vet_rules.specs.Vet.{declined, answer_by, run_answer, vet_of, Vetted}
use Rattle.vet_rules.specs.Ways.{Way, leads, fails, way_of}
use Rattle.vet_rules.proofs.Causes.{exact_causes}
use Rattle.vet_rules.proofs.Enough.{enough}
use Rattle.vet_rules.proofs.PlainPromise.{filled_promise, refused_promise}
use Rattle.vet_rules.proofs.PlainVet.{vet_from}
use Rattle.vet_rules.proofs.PlainWays.{plain_answer}
use Rattle.vet_rules.specs.Worst.{most_piece}
use Rattle.vet_rules.proofs.Sizes.{Sized, text_sized}
use Rattle.vet_rules.proofs.Stages.{Running, stages}
use Rattle.vet_rules.proofs.Starts.{reason_range}

-- what is promised of an answer r
record Kept (format kinds : List ℕ) (longest : ℕ) (r : Vetted) : Type 0 where
  enough : r.code ≡ 0 → Enough format kinds longest r.count
  filled : IsPlain format → r.code ≡ 0 → Filled format kinds longest r.count
  refused : IsPlain format → 6 ≤ r.code → r.code ≤ 8 → Refused format kinds longest r.code r.position

module _ (format kinds : List ℕ) (longest : ℕ) where
  -- a refusal with another code promises nothing of tables
  other_code : (code p : ℕ) → 1 ≤ code → (code < 6) ⊎ (8 < code) → Kept format kinds longest (declined code p)
  other_code code p o (inl h) = record {
    enough = λ z. absurd (omega arith);
    filled = λ _ z. absurd (omega arith);
    refused = λ _ l m. absurd (omega arith);
  }
  other_code code p o (inr h) = record {
    enough = λ z. absurd (omega arith);
    filled = λ _ z. absurd (omega arith);
    refused = λ _ l m. absurd (omega arith);
  }

  -- a run that gets to its end
  way_enough : Running format kinds longest → (w : Way) → way_of kinds longest (sequence_of format) 0 0 ≡ w
      → Sized (length kinds) (most_piece * 4096) w → (answer_by w).code ≡ 0 → Enough format kinds longest (answer_by w).count
  way_enough g (leads n s) e h z = enough format kinds longest g.text g.vettable n s e
  way_enough g (fails code p) e h z = absurd (omega (arith, reason_range h))

  ran : Running format kinds longest → Kept format kinds longest (run_answer format kinds longest)
  ran g = record {
    enough = all;
    filled = λ p z.
        let e = plain_answer format kinds longest p g.text in
        rw e (filled_promise format kinds longest g.text p g.asked (rw e at (all z)) (rw e at z));
    refused = λ p l m.
        let e = plain_answer format kinds longest p g.text in
        let h : 6 ≤ (vet_from kinds longest (tokens_at format 0) 0 0).code = rw e at l in
        rw e (refused_promise format kinds longest g.text p g.asked (λ z. omega arith));
  }
    where
      all : (run_answer format kinds longest).code ≡ 0 → Enough format kinds longest (run_answer format kinds longest).count
      all z = way_enough g (way_of kinds longest (sequence_of format) 0 0) refl (text_sized format kinds longest g) z

  kept : Kept format kinds longest (vet_of format kinds longest)
  kept =
      stages format kinds longest (Kept format kinds longest)
      (λ _. other_code 12 0 (omega arith) (inr (omega arith)))
      (λ _ code p e l h. other_code code p (omega arith) (inl (omega arith)))
      (λ _ t p e. other_code 11 p (omega arith) (inr (omega arith)))
      ran

  pub promised : Promised format kinds longest (vet_of format kinds longest)
  promised = record {
    is = refl;
    causes = exact_causes format kinds longest;
    enough = kept.enough;
    filled = kept.filled;
    refused = kept.refused;
  }
