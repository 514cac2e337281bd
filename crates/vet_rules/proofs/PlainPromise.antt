-- Demand 3 of plain formats: a count that some table fills, and a refusal that every table meets. Assumes nothing.
use Prim.Native.Nat.{ℕ, ◌≤◌, ◌<◌}
use mathlib.Core.Path.{◌≡◌, sym, ◌∙◌}
use mathlib.Core.List.{List, []}
use native.Mathlib.Omega.{arith}
use lib.ListN.{length}
use Rattle.rules.specs.Answer.{fit, limit, answer_of}
use Rattle.rules.specs.Flow.{Flow, given_text, finish_of}
use Rattle.rules.specs.Table.{View, view_of}
use Rattle.rules.specs.Text.{Token, tokens_at, levels_at, text_verdict}
use Rattle.rules.specs.Verdict.{Accepted as accepted_verdict}
use Rattle.rules.proofs.FlowLaws.{finished, fit_all, fit_not}
use Rattle.vet_rules.specs.Vet.{Asked, Vetted}
use Rattle.vet_rules.specs.Demand.{Suits, run_of, Enough, Filled, room_needed, Refused, IsPlain}
use Rattle.vet_rules.proofs.Before.{plain_before}
use Rattle.vet_rules.proofs.Filled.{Meets, Filling, plain_filling}
use Rattle.vet_rules.proofs.Items.{tokens_read}
use Rattle.vet_rules.proofs.Ordinary.{AllOrdinary, items_few, items_ordinary}
use Rattle.vet_rules.proofs.PlainEnds.{Ended, plain_ended}
use Rattle.vet_rules.proofs.PlainRun.{flow_from, plain_run}
use Rattle.vet_rules.proofs.PlainVet.{vet_from}
use Rattle.vet_rules.proofs.Values.{argument_read, read_kind, run_is}
use Rattle.vet_rules.proofs.Witness.{witness, worth, suited, some_table}

module _ (format kinds : List ℕ) (longest : ℕ) (tv : text_verdict format ≡ accepted_verdict) (pv : IsPlain format)
    (a : Asked kinds longest) where
  abbrev items : List Token
  items = tokens_at format 0

  abbrev count : ℕ
  count = length kinds

  abbrev answer : Vetted
  answer = vet_from kinds longest items 0 0

  ordinary : AllOrdinary items
  ordinary = items_ordinary format tv pv

  -- over one suiting table
  module _ (table : List ℕ) (s : Suits kinds longest table) where
    abbrev view : View
    view = view_of table

    abbrev flow : Flow
    flow = flow_from view count items limit 0

    flow_is : run_of format table ≡ flow
    unfolding levels_at
    flow_is = run_is s format ∙ plain_run view count items limit 0 ordinary (omega (arith, items_few format tv))

    answer_is : (room : ℕ) → answer_of format table room ≡ fit room [] flow
    unfolding answer_of
    answer_is room = rw (s.valid, tv, flow_is)

    ending : Ended flow answer
    ending = plain_ended kinds longest view (read_kind s) items ordinary limit 0 0

    -- with room for all that is given, and without
    roomy : (room : ℕ) → length (given_text flow) ≤ room
        → answer_of format table room ≡ finished (finish_of flow) (given_text flow)
    roomy room h = rw (answer_is room) (fit_all room flow [] (omega arith))

    cramped : (room : ℕ) → room < length (given_text flow) → (answer_of format table room).code ≡ 10
    cramped room h = rw (answer_is room) (fit_not room flow [] (omega arith) (omega arith))

    -- the pieces before a refusal are all that is given
    needed : (answer.code ≡ 0 → ⊥) → room_needed format table answer.position ≡ length (given_text flow)
    needed n =
        rw (flow_is, sym ending.position)
        (plain_before view count items limit 0 0 (tokens_read format) (λ z. n (sym ending.code ∙ z))).1

  pub refused_promise : (answer.code ≡ 0 → ⊥) → Refused format kinds longest answer.code answer.position
  refused_promise n = record {
    same = λ table s room h.
        rw (roomy table s room (omega (arith, needed table s n))) ((ending table s).code, (ending table s).position);
    full = λ table s room h. cramped table s room (omega (arith, needed table s n));
    table = (some_table kinds longest a).0;
    suits = (some_table kinds longest a).1;
  }

  -- the table that fills the count
  filling : Filling kinds longest a.many a.long a.tags 0 (λ v n. flow_from v count items n 0)
      (λ sum. vet_from kinds longest items 0 sum)
  filling = plain_filling kinds longest a.many a.long a.tags items ordinary 0

  abbrev filler : List ℕ
  filler = witness kinds longest a filling.entry filling.chosen

  suits_filler : Suits kinds longest filler
  suits_filler = suited kinds longest a filling.entry filling.chosen

  met : Meets kinds longest a.many a.long a.tags 0 filling.entry (view_of filler)
  met = record {
    from = λ i _ h. argument_read suits_filler i h ∙ worth kinds longest a filling.entry filling.chosen i h;
    last = λ i e. absurd (omega arith);
    kind_agrees = read_kind suits_filler;
  }

  filled : answer.code ≡ 0 → length (given_text (flow filler suits_filler)) ≡ answer.count
  filled z = omega (arith, filling.full (view_of filler) met limit 0 z)

  pub filled_promise : Enough format kinds longest answer.count → answer.code ≡ 0
      → Filled format kinds longest answer.count
  filled_promise enough z = record {
    table = filler;
    suits = suits_filler;
    fills = record {
      formats = enough filler suits_filler answer.count (omega arith);
      written = rw (roomy filler suits_filler answer.count (omega (arith, filled z))) (filled z);
    };
    least = λ room h. cramped filler suits_filler room (omega (arith, filled z));
  }
