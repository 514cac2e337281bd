-- Calls one after another write, joined, what one call of format writes into a buffer that is large enough, and the last
-- of them answers as that call does. Then what one call answers, and two, in the words of 02, and that calls come to the
-- end. All this from what a call promises, `Resumes`. Assumes nothing.
use Prim.Native.Nat.{ℕ, zero, suc, ◌≤◌, ◌<◌}
use mathlib.Core.Path.{◌≡◌, refl, sym, ap, ◌∙◌}
use mathlib.Core.Bool.{Bool, true, false}
use mathlib.Core.List.{List, []}
use native.Mathlib.Decide.{dec_lt}
use native.Mathlib.Omega.{arith}
use lib.ListN.{length, take, drop, length-drop, take-append-drop}
use lib.Seq.{length-take-le, take-length, take_at}
use borrow.Author.Tests.{ltb-true, lt-ltb, le-ltb, ne_eqb}
use Rattle.rules.specs.Answer.{fit, call_arguments, flow_of, unless_refused, answer_of}
use Rattle.rules.specs.Flow.{Flow, done, refused, put, limit, Finish, finish_of}
use Rattle.rules.specs.Table.{View, view_of, table_verdict}
use Rattle.rules.specs.Text.{text_verdict}
use Rattle.rules.specs.Verdict.{Verdict}
use Rattle.rules.specs.Verdict.{Accepted, Refused}
use Rattle.rules.proofs.Faults.{TableFault, TextFault, table_fault, text_fault}
use Rattle.rules.proofs.FlowLaws.{finished, fit_all, fit_not}
use Rattle.rules.proofs.RunReports.{Reports, run_reports}
use Rattle.rules.proofs.Tests.{not_both_ways}
use Rattle.nesting.specs.Moves.{Told, told}
use Rattle.windows.specs.declared.state.State.{State}
use Rattle.windows.specs.declared.state.Resumed.{Resumed}
use Rattle.windows.specs.States.{unless_wrong, remains, is_ended}
use Rattle.windows.specs.Calls.{Shown, more, all, shown, shown_in, Resumes, Calls, last, next}

-- 1. How a call stops: it has no room at all, too little, or enough.

data Stops (ended : Bool) (room : ℕ) (x : Told) (y : Shown) : Type 0 where
  idle : ended ≡ false → room ≡ 0 → y ≡ more [] → Stops ended room x y
  full : room < length x.bytes → y ≡ more (take room x.bytes) → Stops ended room x y
  whole : y ≡ all x → Stops ended room x y

stops : (ended : Bool) (room : ℕ) (x : Told) → Stops ended room x (shown ended room x)
stops true room x =
    elim (dec_lt room (length x.bytes)) [
      | yes h ↦ full h (rw (lt-ltb room (length x.bytes) h))
      | no h ↦ whole (rw (le-ltb room (length x.bytes) (omega arith)))
    ]
stops false zero x = idle refl refl refl
stops false (suc k) x =
    let some = ne_eqb (suc k) 0 (λ e. omega arith) in
    elim (dec_lt (suc k) (length x.bytes)) [
      | yes h ↦ full h (rw (some, lt-ltb (suc k) (length x.bytes) h))
      | no h ↦ whole (rw (some, le-ltb (suc k) (length x.bytes) (omega arith)))
    ]

module _ (t table : List ℕ) where
  -- a call shows this
  abbrev StopsIn : State → ℕ → Type 0
  StopsIn s room = Stops (is_ended s) room (remains t table s) (shown_in t table s room)

  stops_in : (s : State) (room : ℕ) → StopsIn s room
  unfolding shown_in
  stops_in s room = stops (is_ended s) room (remains t table s)

  -- the answer is how what remains ends
  abbrev Answers : State → Resumed → Type 0
  Answers s r = (remains t table s).finish ≡ record { code = r.code; position = r.position; steps = r.steps }

  module _ {s : State} {b e : List ℕ} {r : Resumed} (h : Resumes t table s b e r) where
    ends_by : {y : Shown} → shown_in t table s (length b) ≡ y → is_ended r.state ≡ y.ends
    ends_by d = h.ends_is ∙ ap (λ (y : Shown). y.ends) d

    -- what it writes is the front of what remains
    wrote : take r.written e ≡ take r.written (remains t table s).bytes
    wrote =
        let w = (shown_in t table s (length b)).text in
        ap (take r.written) h.window_is ∙ take_at w (drop r.written b) r.written (sym h.written_is)
        ∙ by (stops_in s (length b))
      where
        by : StopsIn s (length b) → (shown_in t table s (length b)).text ≡ take r.written (remains t table s).bytes
        by (idle a c d) = rw (h.written_is, d)
        by (full c d) = rw (h.written_is, d, length-take-le (length b) (remains t table s).bytes (omega arith))
        by (whole d) = rw (h.written_is, d, take-length (remains t table s).bytes)

    -- where its state has ended that is all
    wrote_all : is_ended r.state ≡ true → (r.written ≡ length (remains t table s).bytes) × Answers s r
    wrote_all k = by (stops_in s (length b))
      where
        by : StopsIn s (length b) → (r.written ≡ length (remains t table s).bytes) × Answers s r
        by (idle a c d) = absurd (not_both_ways k (ends_by d))
        by (full c d) = absurd (not_both_ways k (ends_by d))
        by (whole d) = (rw (h.written_is, d), rw (h.code_is, h.position_is, h.steps_is, d))

    pub finish_kept : (remains t table r.state).finish ≡ (remains t table s).finish
    finish_kept = ap (λ (x : Told). x.finish) h.remains_is

  -- 2. Calls up to the end

  -- in any state
  pub joined : {s : State} {out : List ℕ} {z : Resumed} → Calls t table s out z → (out ≡ (remains t table s).bytes) × Answers s z
  joined (last {s = s} h k) =
      let a = wrote_all h k in
      (wrote h ∙ rw a.0 (take-length (remains t table s).bytes), a.1)
  joined (next {s = s} {r = r} h c) =
      let j = joined c in
      (rw (wrote h, j.0, h.remains_is) (take-append-drop r.written (remains t table s).bytes), sym (finish_kept h) ∙ j.1)

  -- what comes in a fresh one, by the checks of the table and the text
  abbrev fresh_by : Verdict → Verdict → Told
  fresh_by x y = unless_wrong x (λ _. unless_wrong y (λ _. told (flow_of t (view_of table))))

  fresh_answer : (s : State) → s.stage ≡ 0 → (room : ℕ) → length (remains t table s).bytes ≤ room
      → answer_of t table room ≡ finished (remains t table s).finish (remains t table s).bytes
  unfolding remains answer_of
  fresh_answer s q room h = rw q (by (table_verdict table) (text_verdict t) (rw q at h))
    where
      by : (x y : Verdict) → length (fresh_by x y).bytes ≤ room
          → unless_refused x (λ _. unless_refused y (λ _. fit room [] (flow_of t (view_of table))))
          ≡ finished (fresh_by x y).finish (fresh_by x y).bytes
      by (Refused code p) y h = refl
      by Accepted (Refused code p) h = refl
      by Accepted Accepted h = fit_all room (flow_of t (view_of table)) [] (omega arith)

  -- "The windows joined, the code, position and steps equal one call with a buffer that is large enough; where that call
  -- is refused, the joined windows equal its kept output."
  pub joined_calls : {s : State} {out : List ℕ} {z : Resumed} → s.stage ≡ 0 → Calls t table s out z
      → (room : ℕ) → length out ≤ room
      → answer_of t table room ≡ record { code = z.code; position = z.position; steps = z.steps; text = out }
  joined_calls {s} q c room h =
      let j = joined c in
      fresh_answer s q room (rw j.0 at h) ∙ rw (j.1, j.0)

  fresh_lacks : (s : State) → s.stage ≡ 0 → (room : ℕ) → room < length (remains t table s).bytes
      → (answer_of t table room).code ≡ 10
  unfolding remains answer_of
  fresh_lacks s q room h = by (table_verdict table) (text_verdict t) (rw q at h)
    where
      by : (x y : Verdict) → room < length (fresh_by x y).bytes
          → (unless_refused x (λ _. unless_refused y (λ _. fit room [] (flow_of t (view_of table))))).code ≡ 10
      by (Refused code p) y h = absurd (omega arith)
      by Accepted (Refused code p) h = absurd (omega arith)
      by Accepted Accepted h = fit_not room (flow_of t (view_of table)) [] (omega arith) (omega arith)

  -- with any less that buffer is not large enough
  pub joined_least : {s : State} {out : List ℕ} {z : Resumed} → s.stage ≡ 0 → Calls t table s out z
      → (room : ℕ) → room < length out → (answer_of t table room).code ≡ 10
  joined_least {s} q c room h = fresh_lacks s q room (rw (joined c).0 at h)

  flow_code : (v : View) (f : Flow) → Reports v t f → (finish_of f).code ≤ 9
  flow_code v (done left over) r = omega arith
  flow_code v (refused code p left) r = r.most
  flow_code v (put p left piece onward) r = flow_code v onward r.1

  -- "Pieces may be cut at a window's end, so code 10 isn't given here."
  pub fresh_code : (s : State) → s.stage ≡ 0 → (remains t table s).finish.code ≤ 9
  unfolding remains
  fresh_code s q =
      let v = view_of table in
      rw q (by (table_verdict table) (text_verdict t) (table_fault table) (text_fault t)
      (λ a. flow_code v (flow_of t v) (run_reports v t a limit (call_arguments v))))
    where
      by : (x y : Verdict) → TableFault x → TextFault t 2 y → (y ≡ Accepted → (finish_of (flow_of t (view_of table))).code ≤ 9)
          → (fresh_by x y).finish.code ≤ 9
      by (Refused code p) y f g on = omega (arith, f.0)
      by Accepted (Refused code p) f g on = omega (arith, g.1)
      by Accepted Accepted f g on = on refl

  -- 3. One call

  abbrev pub as_ended : State → Told
  as_ended s = record { bytes = []; finish = record { code = s.code; position = s.position; steps = s.steps } }

  pub ended_remains : (s : State) → is_ended s ≡ true → remains t table s ≡ as_ended s
  unfolding remains
  ended_remains s k = by s.stage refl
    where
      by : (n : ℕ) → s.stage ≡ n → remains t table s ≡ as_ended s
      by zero q = absurd (omega (arith, ltb-true 1 s.stage k))
      by (suc zero) q = absurd (omega (arith, ltb-true 1 s.stage k))
      by (suc (suc n)) q = rw q

  pub ended_shown : (s : State) (room : ℕ) → is_ended s ≡ true → shown_in t table s room ≡ all (as_ended s)
  unfolding shown_in
  ended_shown s room k = rw (ended_remains s k, k, le-ltb room 0 (omega arith))

  pub idle_shown : (s : State) (room : ℕ) → is_ended s ≡ false → room ≡ 0 → shown_in t table s room ≡ more []
  unfolding shown_in
  idle_shown s room k none = rw (k, none)

  module _ {s : State} {b e : List ℕ} {r : Resumed} (h : Resumes t table s b e r) where
    -- "a call stops only at the end or where the next byte has no room": if not at the end, then the window is full and
    -- there is a next byte
    pub more_fills : is_ended r.state ≡ false → 0 < length b
        → (r.written ≡ length b) × (length b < length (remains t table s).bytes)
    more_fills k some = by (stops_in s (length b))
      where
        by : StopsIn s (length b) → (r.written ≡ length b) × (length b < length (remains t table s).bytes)
        by (idle a c d) = absurd (omega arith)
        by (full c d) = (rw (h.written_is, d, length-take-le (length b) (remains t table s).bytes (omega arith)), c)
        by (whole d) = absurd (not_both_ways (ends_by h d) k)

    -- "then answering \"more\"": a caller goes by the code alone, for it is 9 at most from a fresh state on, by fresh-code
    -- and finish-kept
    pub more_code : is_ended r.state ≡ false → r.code ≡ 256
    more_code k = by (stops_in s (length b))
      where
        by : StopsIn s (length b) → r.code ≡ 256
        by (idle a c d) = rw (h.code_is, d)
        by (full c d) = rw (h.code_is, d)
        by (whole d) = absurd (not_both_ways (ends_by h d) k)

    pub end_code : (remains t table s).finish.code ≤ 9 → is_ended r.state ≡ true → r.code ≤ 9
    end_code most k = rw (ap (λ (x : Finish). x.code) (wrote_all h k).1) at most

    -- "Until the end is answered a window of 0 bytes changes nothing and answers \"more\" with 0 bytes."
    pub nothing_kept : is_ended s ≡ false → length b ≡ 0 → (r.code ≡ 256) × (r.written ≡ 0) × (e ≡ b) × (r.state ≡ s)
    nothing_kept k none =
        let is = idle_shown s (length b) k none in
        (rw (h.code_is, is), rw (h.written_is, is), h.window_is ∙ rw (h.written_is, is), h.kept (rw (k, none)))

    -- "A call after the end repeats code, position and steps and writes nothing."
    pub after_end : is_ended s ≡ true
        → (r.code ≡ s.code) × (r.position ≡ s.position) × (r.steps ≡ s.steps) × (r.written ≡ 0) × (e ≡ b)
    after_end k =
        let is = ended_shown s (length b) k in (
          rw (h.code_is, is),
          rw (h.position_is, is),
          rw (h.steps_is, is),
          rw (h.written_is, is),
          h.window_is ∙ rw (h.written_is, is),
        )

    -- and so does every call after it
    pub ended_stays : is_ended s ≡ true
        → (is_ended r.state ≡ true) × (r.state.code ≡ s.code) × (r.state.position ≡ s.position) × (r.state.steps ≡ s.steps)
    ended_stays k =
        let j : is_ended r.state ≡ true = ends_by h (ended_shown s (length b) k) in
        let finish : Told → Finish = λ x. x.finish in
        let same = sym (ap finish (ended_remains r.state j)) ∙ finish_kept h ∙ ap finish (ended_remains s k) in
        (j, ap (λ (x : Finish). x.code) same, ap (λ (x : Finish). x.position) same, ap (λ (x : Finish). x.steps) same)

    fewer_remain : is_ended r.state ≡ false → 0 < length b
        → length (remains t table r.state).bytes < length (remains t table s).bytes
    fewer_remain k some =
        let m = more_fills k some in
        rw (h.remains_is, length-drop) (omega (arith, m.0, m.1))

  -- 4. Two calls

  -- "A call after the end repeats code, position and steps": those of the call that answered the end
  pub repeats : {s : State} {b e b₂ e₂ : List ℕ} {r r₂ : Resumed} → Resumes t table s b e r → is_ended r.state ≡ true
      → Resumes t table r.state b₂ e₂ r₂
      → (r₂.code ≡ r.code) × (r₂.position ≡ r.position) × (r₂.steps ≡ r.steps)
      × (r₂.written ≡ 0) × (e₂ ≡ b₂) × (r₂.state ≡ r.state)
  repeats {s = s} {r = r} h k h₂ =
      let a = after_end h₂ k in
      let same = sym (ap (λ (x : Told). x.finish) (ended_remains r.state k)) ∙ finish_kept h ∙ (wrote_all h k).1 in (
        a.0 ∙ ap (λ (x : Finish). x.code) same,
        a.1 ∙ ap (λ (x : Finish). x.position) same,
        a.2 ∙ ap (λ (x : Finish). x.steps) same,
        a.3,
        a.4,
        h₂.kept (rw k),
      )

  -- two states that mean the same
  abbrev pub Alike : State → State → Type 0
  Alike s s₂ = (remains t table s ≡ remains t table s₂) × (is_ended s ≡ is_ended s₂)

  -- "its effect a fixed function of state and inputs": of what the state means and of the window's length; so too every
  -- call that follows
  pub fixed : {s s₂ : State} {b e b₂ e₂ : List ℕ} {r r₂ : Resumed} → Resumes t table s b e r → Resumes t table s₂ b₂ e₂ r₂
      → Alike s s₂ → length b ≡ length b₂
      → (r.code ≡ r₂.code) × (r.position ≡ r₂.position) × (r.steps ≡ r₂.steps) × (r.written ≡ r₂.written)
      × (take r.written e ≡ take r₂.written e₂) × Alike r.state r₂.state
  unfolding shown_in
  fixed {s} {s₂} {b} {b₂ = b₂} h h₂ a q =
      let same : shown_in t table s (length b) ≡ shown_in t table s₂ (length b₂) = rw (a.0, a.1, q) in
      let written = h.written_is ∙ ap (λ (y : Shown). length y.text) same ∙ sym h₂.written_is in (
        h.code_is ∙ ap (λ (y : Shown). y.code) same ∙ sym h₂.code_is,
        h.position_is ∙ ap (λ (y : Shown). y.position) same ∙ sym h₂.position_is,
        h.steps_is ∙ ap (λ (y : Shown). y.steps) same ∙ sym h₂.steps_is,
        written,
        wrote h ∙ (rw (written, a.0)) ∙ sym (wrote h₂),
        (
          h.remains_is ∙ (rw (written, a.0)) ∙ sym h₂.remains_is,
          h.ends_is ∙ ap (λ (y : Shown). y.ends) same ∙ sym h₂.ends_is,
        ),
      )

  -- 5. Calls come to the end: after as many as bytes remain, and at least one, where each has room for a byte.

  -- what a call in the state s with the window b gives
  pub record Given (s : State) (b : List ℕ) : Type 0 where
    pub window : List ℕ
    pub answer : Resumed
    pub promise : Resumes t table s b window answer

  -- whatever windows are lent
  module _ (call : (s : State) (b : List ℕ) → Given s b) (lent : ℕ → List ℕ) where
    -- the state after n calls from the state s on, the first with window i, each with the next window and the last state
    pub state_after : ℕ → ℕ → State → State
    state_after zero i s = s
    state_after (suc n) i s = state_after n (suc i) (call s (lent i)).answer.state

    stays_ended : (n i : ℕ) (s : State) → is_ended s ≡ true → is_ended (state_after n i s) ≡ true
    unfolding state_after
    stays_ended zero i s k = k
    stays_ended (suc n) i s k =
        let c = call s (lent i) in
        stays_ended n (suc i) c.answer.state (ended_stays c.promise k).0

    module _ (some : (i : ℕ) → 0 < length (lent i)) where
      pub calls_end : (n i : ℕ) (s : State) → 0 < n → length (remains t table s).bytes ≤ n
          → is_ended (state_after n i s) ≡ true
      unfolding state_after
      calls_end zero i s o h = absurd (omega arith)
      calls_end (suc n) i s o h =
          let c = call s (lent i) in
          by (is_ended c.answer.state) refl
          (λ k. calls_end n (suc i) c.answer.state (omega (arith, (more_fills c.promise k (some i)).1, some i))
          (omega (arith, fewer_remain c.promise k (some i))))
        where
          after : State
          after = (call s (lent i)).answer.state

          by : (x : Bool) → is_ended after ≡ x → (is_ended after ≡ false → is_ended (state_after n (suc i) after) ≡ true)
              → is_ended (state_after n (suc i) after) ≡ true
          by true k on = stays_ended n (suc i) after k
          by false k on = on k
