-- Which codes, positions and steps an answer can have, for every format, table and room. Assumes nothing.
use Prim.Native.Nat.{ℕ, ◌+◌, ◌*◌, ◌<◌, ◌≤◌}
use mathlib.Core.Path.{◌≡◌, refl}
use mathlib.Core.Logic.{◌⊎◌, inl, inr}
use mathlib.Core.Bool.{Bool, true, false}
use mathlib.Core.List.{List, [], ◌++◌}
use native.Mathlib.Decide.{dec_lt}
use native.Mathlib.Omega.{arith}
use lib.Dec.{leb}
use lib.ListN.{length}
use Rattle.rules.specs.Answer.{Answer, refused_at, if_fits, fit, call_arguments, flow_of, unless_refused, answer_of}
use Rattle.rules.specs.Flow.{Flow, done, refused, put, limit}
use Rattle.rules.specs.Table.{View, view_of, table_verdict}
use Rattle.rules.specs.Text.{longest, text_verdict}
use Rattle.rules.specs.Verdict.{Verdict}
use Rattle.rules.specs.Verdict.{Accepted, Refused}
use Rattle.rules.proofs.Faults.{TableFault, TextFault, table_fault, text_fault}
use Rattle.rules.proofs.RunReports.{OutOfRangeAt, Reports, run_reports}
use Rattle.rules.proofs.TextLaws.{sound_start}

-- the answer of a run of the text t over the entries of v: 0, or 6 to 10 at a place of the text, where 8 stands for the
-- value of a `v` or `#`, and 9 for 65,536 steps
pub record RunAnswer (v : View) (t : List ℕ) (a : Answer) : Type 0 where
  pub code_is : (a.code ≡ 0) ⊎ (6 ≤ a.code)
  pub code_most : a.code ≤ 10
  pub done_at : a.code ≡ 0 → a.position ≡ 0
  pub inside : 6 ≤ a.code → a.position < length t
  pub range : a.code ≡ 8 → OutOfRangeAt v t a.position
  pub spent : a.code ≡ 9 → a.steps ≡ limit

module _ (v : View) (t : List ℕ) where
  if_reports : (b : Bool) (on : Bool → Answer) (out : Answer) → RunAnswer v t (on true) → RunAnswer v t out
      → RunAnswer v t (if_fits b on out)
  if_reports true on out h k = h
  if_reports false on out h k = k

  fit_reports : (room : ℕ) (out : List ℕ) (f : Flow) → Reports v t f → RunAnswer v t (fit room out f)
  unfolding fit
  fit_reports room out (done left over) r = record {
    code_is = inl refl;
    code_most = omega arith;
    done_at = λ e. refl;
    inside = λ e. absurd (omega arith);
    range = λ e. absurd (omega arith);
    spent = λ e. absurd (omega arith);
  }
  fit_reports room out (refused code p left) r = record {
    code_is = inr r.least;
    code_most = omega (arith, r.most);
    done_at = λ e. absurd (omega (arith, r.least));
    inside = λ e. r.inside;
    range = r.range;
    spent = λ e. omega (arith, r.spent e);
  }
  fit_reports room out (put p left piece more) r =
      if_reports (leb (length out + length piece) room) (λ _. fit room (out ++ piece) more) (refused_at out 10 p left)
      (fit_reports room (out ++ piece) more r.1)
      (record {
        code_is = inr (omega arith);
        code_most = omega arith;
        done_at = λ e. absurd (omega arith);
        inside = λ e. r.0;
        range = λ e. absurd (omega arith);
        spent = λ e. absurd (omega arith);
      })

-- a table and a text that are accepted: the run's answer, so none of 1 to 5
pub accepted_reports : (format table : List ℕ) (room : ℕ) → table_verdict table ≡ Accepted → text_verdict format ≡ Accepted
    → RunAnswer (view_of table) format (answer_of format table room)
unfolding answer_of
accepted_reports format table room a b =
    let v : View = view_of table in
    rw (a, b) (fit_reports v format room [] (flow_of format v) (run_reports v format b limit (call_arguments v)))

-- any answer
pub record AnswerReports (format table : List ℕ) (a : Answer) : Type 0 where
  pub code_most : a.code ≤ 10
  pub done_at : a.code ≡ 0 → a.position ≡ 0
  -- 1 in the table's header or entries; all else in the text, of which no more than 4,096 bytes are read
  pub in_table : a.code ≡ 1 → a.position < 8 + 12 * 1024
  pub in_text : 2 ≤ a.code → (a.position < length format) × (a.position ≤ longest)
  -- "Codes 1 to 5 write nothing and report 0 steps."
  pub nothing : 1 ≤ a.code → a.code ≤ 5 → (a.steps ≡ 0) × (a.text ≡ [])
  -- 8, "value of `v` or `#` outside its place's range", stands for nothing else
  pub range : a.code ≡ 8 → OutOfRangeAt (view_of table) format a.position
  -- "except for code 9 (65,536)"
  pub spent : a.code ≡ 9 → a.steps ≡ limit

module _ (format table : List ℕ) where
  run_answer_lem : (a : Answer) → length format ≤ longest → RunAnswer (view_of table) format a → AnswerReports format table a
  run_answer_lem a h r = record {
    code_most = r.code_most;
    done_at = r.done_at;
    in_table = λ e. absurd (no_check r.code_is (omega arith) (omega arith));
    in_text = λ l. (let i = r.inside (late r.code_is l) in (i, omega arith));
    nothing = λ l m. absurd (no_check r.code_is l m);
    range = r.range;
    spent = r.spent;
  }
    where
      no_check : (a.code ≡ 0) ⊎ (6 ≤ a.code) → 1 ≤ a.code → a.code ≤ 5 → ⊥
      no_check (inl e) l m = omega arith
      no_check (inr e) l m = omega arith

      late : (a.code ≡ 0) ⊎ (6 ≤ a.code) → 2 ≤ a.code → 6 ≤ a.code
      late (inl e) l = absurd (omega arith)
      late (inr e) l = e

  -- one of the checks' refusals
  abbrev checked : ℕ → ℕ → Answer
  checked code p = record { code = code; position = p; steps = 0; text = [] }

  check_answer : (code p : ℕ) → 1 ≤ code → code ≤ 5 → (code ≡ 1 → p < 8 + 12 * 1024)
      → (2 ≤ code → (p < length format) × (p ≤ longest)) → AnswerReports format table (checked code p)
  check_answer code p l m h k = record {
    code_most = omega arith;
    done_at = λ e. absurd (omega arith);
    in_table = h;
    in_text = k;
    nothing = λ _ _. (refl, refl);
    range = λ e. absurd (omega arith);
    spent = λ e. absurd (omega arith);
  }

  by_table : (x : Verdict) (on : Bool → Answer) → TableFault x → AnswerReports format table (on true)
      → AnswerReports format table (unless_refused x on)
  by_table Accepted on f r = r
  by_table (Refused code p) on f r =
      check_answer code p (omega (arith, f.0)) (omega (arith, f.0)) (λ _. f.1) (λ l. absurd (omega (arith, f.0)))

  by_text : (x : Verdict) (on : Bool → Answer) → TextFault format 2 x
      → (x ≡ Accepted → AnswerReports format table (on true))
      → AnswerReports format table (unless_refused x on)
  by_text Accepted on f r = r refl
  by_text (Refused code p) on f r =
      check_answer code p (omega (arith, f.0)) f.1 (λ e. absurd (omega (arith, f.0))) (λ _. (f.2, f.3))

  pub answer_reports : (room : ℕ) → AnswerReports format table (answer_of format table room)
  unfolding answer_of
  answer_reports room =
      let v : View = view_of table in
      let ran : Answer = fit room [] (flow_of format v) in
      by_table (table_verdict table) (λ _. unless_refused (text_verdict format) (λ _. ran)) (table_fault table)
      (by_text (text_verdict format) (λ _. ran) (text_fault format)
      (λ e. run_answer_lem ran (sound_start format e).0
      (fit_reports v format room [] (flow_of format v) (run_reports v format e limit (call_arguments v)))))

-- every position is below 2^32
pub position_small : (format table : List ℕ) (room : ℕ) → (answer_of format table room).position < 4294967296
position_small format table room = by (answer_of format table room) (answer_reports format table room)
  where
    by : (a : Answer) → AnswerReports format table a → a.position < 4294967296
    by a r =
        elim (dec_lt a.code 1) [
          | yes h ↦ omega (arith, r.done_at (omega arith))
          | no h ↦
              elim (dec_lt a.code 2) [
                | yes k ↦ omega (arith, r.in_table (omega arith))
                | no k ↦ omega (arith, (r.in_text (omega arith)).1)
              ]
        ]
