-- Of a format that a vet accepts no table of those kinds is refused in a buffer of the count or larger. Assumes nothing.
use Prim.Native.Nat.{ℕ, ◌-◌, ◌≤◌}
use mathlib.Core.Path.{◌≡◌, ap, ◌∙◌, subst}
use mathlib.Core.List.{List, [], append-nil}
use native.Mathlib.Omega.{arith}
use lib.ListN.{length}
use Rattle.rules.specs.Answer.{limit, answer_of}
use Rattle.rules.specs.Flow.{given_text, finish_of}
use Rattle.rules.specs.Run.{done_with, run}
use Rattle.rules.specs.Table.{View, view_of}
use Rattle.rules.specs.Text.{end, deepest, sequence_of, text_verdict}
use Rattle.rules.specs.Verdict.{Accepted}
use Rattle.rules.proofs.FlowLaws.{stretch_text, stretch_finish, finished, fit_all}
use Rattle.rules.proofs.RunLaws.{run_done}
use Rattle.vet_rules.specs.Demand.{Suits, run_of, Enough}
use Rattle.vet_rules.specs.Plain.{vettable_verdict}
use Rattle.vet_rules.specs.Use.{in_hand}
use Rattle.vet_rules.specs.Ways.{leads, way_of}
use Rattle.vet_rules.proofs.Meetings.{Led}
use Rattle.vet_rules.proofs.Reached.{Reached, Runs, reached_weaker}
use Rattle.vet_rules.proofs.Vettable.{text_vettable}
use Rattle.vet_rules.proofs.Values.{read_kind, read_allowed, run_is}
use Rattle.vet_rules.proofs.WayRuns.{sequence_walks}
use Rattle.vet_rules.proofs.Weights.{weight, text_weight}

module _ (format kinds : List ℕ) (longest : ℕ) (tv : text_verdict format ≡ Accepted) (kv : vettable_verdict format ≡ Accepted)
    (n count : ℕ) (way : way_of kinds longest (sequence_of format) 0 0 ≡ leads n count) where
  -- over one suiting table, the run gets to the end of the format
  module _ (table : List ℕ) (s : Suits kinds longest table) where
    abbrev view : View
    view = view_of table

    reached : Reached view (length kinds) (run_of format table) [] 0 0 n count
    reached =
        let x = sequence_of format in
        let fine = text_vettable format tv kv in
        let walk = sequence_walks kinds longest view (read_kind s) (read_allowed s) x deepest fine 0 0 in
        let runs = subst (Led (Runs view (length kinds) deepest (weight x) x 0 0)) way walk in
        rw (run_is s format)
        (reached_weaker view (length kinds) (omega arith) (omega arith) (omega arith)
        (runs [] (omega arith) limit (omega (arith, text_weight format tv))))

    -- and is done there
    ends : run view reached.left end [] (in_hand (length kinds) n) ≡ done_with reached.left (in_hand (length kinds) n)
    ends = run_done view (in_hand (length kinds) n) reached.left

    given : given_text (run_of format table) ≡ reached.text
    unfolding given_text
    given = stretch_text reached.stretch ∙ rw ends (append-nil reached.text)

    finish : finish_of (run_of format table) ≡ record { code = 0; position = 0; steps = limit - reached.left }
    finish = stretch_finish reached.stretch ∙ ap finish_of ends

    answers : (room : ℕ) → count ≤ room
        → answer_of format table room ≡ finished (finish_of (run_of format table)) (given_text (run_of format table))
    unfolding answer_of
    answers room h =
        rw (s.valid, tv) (fit_all room (run_of format table) [] (omega (arith, ap length given, reached.short)))

  pub enough : Enough format kinds longest count
  enough table s room h = record {
    code = rw (answers table s room h, finish table s);
    position = rw (answers table s room h, finish table s);
    text = rw (answers table s room h);
  }
