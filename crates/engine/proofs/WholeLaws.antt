-- A whole call: what its checks refuse, and what its run writes. Assumes nothing.
use Prim.Native.Nat.{ℕ, ◌-◌, ◌≤◌}
use mathlib.Core.Path.{◌≡◌, refl, sym, ap, subst, ◌∙◌}
use mathlib.Core.List.{List, [], ◌++◌}
use native.Mathlib.Omega.{arith}
use lib.ListN.{length, take, drop, take-append-drop}
use lib.Seq.{length-take-le}
use Rattle.rules.specs.Table.{View, view_of, table_verdict, argument_count}
use Rattle.rules.specs.Text.{end, levels_at, sequence_of, text_verdict}
use Rattle.rules.specs.Run.{run}
use Rattle.rules.specs.Answer.{Answer, limit, fit, flow_of, unless_refused, answer_of, Answers}
use Rattle.rules.specs.Verdict.{Verdict, Accepted, Refused, verdict_as}
use Rattle.rules.specs.Refusals.{code_of as refusal_code}
use Rattle.rules.specs.declared.refusal.Fault.{Fault}
use Rattle.std.specs.Prelude.{Result, Ok, Err, ⊤, MatchResult}
use Rattle.rules.proofs.RunLaws.{run_done}
use Rattle.rules.proofs.TableLaws.{accepted_sound}
use Rattle.rules.proofs.ViewLaws.{view_arguments}
use Rattle.parameters.specs.Settling.{InHand}
use Rattle.actions.specs.declared.state.Ran.{Ran}
use Rattle.actions.specs.declared.state.Stop.{Stop}
use Rattle.actions.specs.declared.state.Stop.TheVariants.{Ended, Escaped, Refused as RefusedAt}
use Rattle.actions.specs.Ran.{hand, onward}
use Rattle.actions.proofs.Joining.{same_fit}
use Rattle.engine.specs.declared.formatting.Outcome.{Outcome}
use Rattle.running.specs.Runs.{leaving, Runs}
use Rattle.engine.specs.Whole.{code_of, position_of, outcome_of}

-- the answer of a call whose table and text are accepted
answer_run : (f t : List ℕ) (room : ℕ) → table_verdict t ≡ Accepted → text_verdict f ≡ Accepted
    → answer_of f t room ≡ fit room [] (run (view_of t) limit (sequence_of f) [] (hand 0 (argument_count t) 0))
unfolding answer_of
answer_run f t room p q =
    ap (λ (x : Verdict). unless_refused x (λ _. unless_refused (text_verdict f) (λ _. fit room [] (flow_of f (view_of t))))) p
    ∙ ap (λ (x : Verdict). unless_refused x (λ _. fit room [] (flow_of f (view_of t)))) q
    ∙ ap (λ (m : ℕ). fit room [] (run (view_of t) limit (sequence_of f) [] (hand 0 m 0))) (view_arguments t)

-- how a run ends that nothing is open around
abbrev answered : List ℕ → Stop → ℕ → Answer
answered out o left = record { code = code_of o; position = position_of o; steps = limit - left; text = out }

outcome_is : (v : View) (first count room : ℕ) (out : List ℕ) (o : Stop) (left i : ℕ)
    → fit room out (onward (λ l j. run v l end [] (hand first count j)) (leaving v [] (hand first count)) o left i) ≡ answered out o left
unfolding fit
outcome_is v first count room out Ended left i = ap (fit room out) (run_done v (hand first count i) left)
outcome_is v first count room out Escaped left i = refl
outcome_is v first count room out (RefusedAt f) left i = refl

answers_by : (f t b e : List ℕ) (x : Answer) (code position steps written : ℕ) → answer_of f t (length b) ≡ x
    → code ≡ x.code → position ≡ x.position → steps ≡ x.steps → written ≡ length x.text → e ≡ x.text ++ drop written b → Answers f t b e code position steps written
answers_by f t b e x code position steps written q c p s w m =
    record {
      code_is = c ∙ sym (ap (λ (y : Answer). y.code) q);
      position_is = p ∙ sym (ap (λ (y : Answer). y.position) q);
      steps_is = s ∙ sym (ap (λ (y : Answer). y.steps) q);
      written_is = w ∙ sym (ap (λ (y : Answer). length y.text) q);
      buffer_is = m ∙ sym (ap (λ (y : Answer). y.text ++ drop written b) q);
    }

pub whole : (f t b e : List ℕ) (r : Ran) (o : Outcome) → table_verdict t ≡ Accepted → text_verdict f ≡ Accepted → Runs (levels_at f) (length f) (view_of t) (hand 0 (argument_count t)) 8 0 0 limit 0 b e r → o ≡ outcome_of r
    → Answers f t b e o.code o.position o.steps o.written
whole f t b e r o p q u w =
    let d = u.does in
    let n : length (take r.at e) ≡ r.at = length-take-le r.at e (omega (arith, d.most, d.size)) in
    subst (λ (x : Outcome). Answers f t b e x.code x.position x.steps x.written) (sym w)
    (answers_by f t b e (answered (take r.at e) r.stop r.left) (code_of r.stop) (position_of r.stop) (limit - r.left) r.at
    (answer_run f t (length b) p q ∙ same_fit (d.same [] refl) (omega (arith, n, d.most)) ∙ outcome_is (view_of t) 0 (argument_count t) (length b) (take r.at e) r.stop r.left r.next.0)
    refl refl refl (sym n) (sym (take-append-drop r.at e) ∙ ap (λ (x : List ℕ). take r.at e ++ x) d.rest))

-- a table or a text that is refused
pub table_refused : (f t b : List ℕ) (code p : ℕ) → table_verdict t ≡ Refused code p → Answers f t b b code p 0 0
unfolding answer_of
table_refused f t b code p e =
    answers_by f t b b (record { code = code; position = p; steps = 0; text = [] }) code p 0 0
    (ap (λ (x : Verdict). unless_refused x (λ _. unless_refused (text_verdict f) (λ _. fit (length b) [] (flow_of f (view_of t))))) e) refl refl refl refl refl

pub text_refused : (f t b : List ℕ) (code p : ℕ) → table_verdict t ≡ Accepted → text_verdict f ≡ Refused code p → Answers f t b b code p 0 0
unfolding answer_of
text_refused f t b code p a e =
    answers_by f t b b (record { code = code; position = p; steps = 0; text = [] }) code p 0 0
    (ap (λ (x : Verdict). unless_refused x (λ _. unless_refused (text_verdict f) (λ _. fit (length b) [] (flow_of f (view_of t))))) a
    ∙ ap (λ (x : Verdict). unless_refused x (λ _. fit (length b) [] (flow_of f (view_of t)))) e) refl refl refl refl refl

-- the same of the answers of the checks
pub table_faulty : (f t : List ℕ) (o : Result ⊤ Fault) {fault : Fault} → verdict_as o ≡ table_verdict t → o ≡ Err fault → (b : List ℕ) → Answers f t b b (refusal_code fault.refusal) fault.position 0 0
table_faulty f t o e q b = table_refused f t b _ _ (sym e ∙ ap verdict_as q)

pub table_right : (t : List ℕ) (o : Result ⊤ Fault) {u : ⊤} → verdict_as o ≡ table_verdict t → o ≡ Ok u → table_verdict t ≡ Accepted
table_right t o e q = sym e ∙ ap verdict_as q

pub text_checked : (f t : List ℕ) (o : Result ⊤ Fault) → verdict_as o ≡ text_verdict f → table_verdict t ≡ Accepted
    → MatchResult o (λ _. (table_verdict t ≡ Accepted) × (text_verdict f ≡ Accepted)) (λ fault. (b : List ℕ) → Answers f t b b (refusal_code fault.refusal) fault.position 0 0)
text_checked f t (Ok u) e a = (a, sym e)
text_checked f t (Err fault) e a = λ b. text_refused f t b _ _ a (sym e)

-- a run, with the number of arguments as it is told
pub whole_told : (f t b : List ℕ) (m : ℕ) {e : List ℕ} {r : Ran} (o : Outcome) → m ≡ argument_count t → table_verdict t ≡ Accepted → text_verdict f ≡ Accepted
    → Runs (levels_at f) (length f) (view_of t) (hand 0 m) 8 0 0 limit 0 b e r → o ≡ outcome_of r → Answers f t b e o.code o.position o.steps o.written
whole_told f t b m {e} {r} o q a c u w =
    whole f t b e r o a c (subst (λ (k : ℕ). Runs (levels_at f) (length f) (view_of t) (hand 0 k) 8 0 0 limit 0 b e r) q u) w

-- all the arguments of an accepted table are in hand
pub all_in_hand : (t : List ℕ) (m : ℕ) → table_verdict t ≡ Accepted → m ≡ argument_count t → InHand t (record { first = record { 0 = 0 }; count = m })
all_in_hand t m e q = record { accepted = e; within = omega (arith, (accepted_sound t e).arguments, q) }

pub has_header : (t : List ℕ) → table_verdict t ≡ Accepted → 8 ≤ length t
has_header t e = (accepted_sound t e).header
