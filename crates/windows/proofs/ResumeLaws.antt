-- A call: what it writes is the front of what remains, and its new state means the rest. Assumes nothing.
use Prim.Native.Nat.{ℕ, zero, suc, ◌+◌, ◌-◌, ◌≤◌, ◌<◌}
use mathlib.Core.Path.{◌≡◌, refl, sym, ap, subst, ◌∙◌}
use mathlib.Core.Bool.{Bool, true, false}
use mathlib.Core.List.{List, [], ◌++◌, append-nil}
use native.Mathlib.Omega.{arith}
use lib.Dec.{eqb}
use Rattle.std.specs.Prelude.{Ok, Err}
use lib.ListN.{length, take, drop, length-append, take-append-drop}
use lib.Seq.{length-take-le, take_at, drop_at}
use borrow.Author.Tests.{lt-ltb, le-ltb, ne_eqb, le-leb}
use Rattle.rules.specs.Answer.{flow_of}
use Rattle.rules.specs.Choice.{either}
use Rattle.rules.specs.Refusals.{code_of}
use Rattle.rules.specs.Flow.{limit, Finish}
use Rattle.rules.specs.Table.{entry_count, argument_count, view_of, table_verdict}
use Rattle.rules.specs.Text.{text_verdict}
use Rattle.rules.specs.Verdict.{Verdict}
use Rattle.rules.specs.Verdict.{Accepted, Refused}
use Rattle.rules.proofs.TableLaws.{accepted_sound}
use Rattle.rules.proofs.TextLaws.{sound_start}
use Rattle.rules.proofs.ViewLaws.{view_arguments}
use Rattle.rules.proofs.Tests.{true_both}
use Rattle.pieces.specs.Rest.{rest_of, Appends, WritesRest}
use Rattle.pieces.specs.declared.resuming.RestWritten.{RestWritten}
use Rattle.pieces.proofs.Rests.{append_none, append_more, append_before, rest_done}
use Rattle.nesting.specs.Nest.{frames_of, all_lie}
use Rattle.nesting.specs.Moves.{Told, told, told_over, comes, Sound}
use Rattle.nesting.specs.declared.moves.Here.{Here}
use Rattle.filling.specs.declared.giving.Progress.{Progress}
use Rattle.filling.specs.declared.giving.Reach.{Reach}
use Rattle.filling.specs.declared.giving.Reach.TheVariants.{On, Over, Full}
use Rattle.filling.specs.declared.steps.Step.{Step}
use Rattle.filling.specs.Filling.{to_give, Advances}
use Rattle.filling.specs.Steps.{Standing, is_on}
use Rattle.windows.specs.declared.state.State.{State}
use Rattle.windows.specs.declared.state.Resumed.{Resumed}
use Rattle.windows.specs.States.{here_of, is_sound, to_come, if_sound, unless_wrong, remains, is_ended}
use Rattle.windows.specs.Calls.{Shown, more, all, shown_in, Resumes}
use Rattle.windows.specs.Continuing.{no_blocks, start_of, ended_state, ended_with, begun_state, more_with, resumed_by, resumed_at, Halts, over, full, Continues}
use Rattle.windows.proofs.CallLaws.{as_ended, ended_remains, ended_shown, idle_shown}
use Rattle.windows.proofs.StateLaws.{in_range_lem, begun_remains}

module _ (t table : List ℕ) where
  ended_means : (code p steps : ℕ) → remains t table (ended_state code p steps) ≡ as_ended t table (ended_state code p steps)
  unfolding remains
  ended_means code p steps = refl

  -- nothing is to come but the end
  ends : {x : Told} {from n : ℕ} {b e : List ℕ} (code p steps : ℕ) {r : Resumed} → Appends x.bytes from b e n [] → x.finish ≡ record { code = code; position = p; steps = steps }
      → r ≡ ended_with code p steps n → Continues t table x from b e r
  ends {x} {from} {n} {b} {e} code p steps a f is =
      subst (Continues t table x from b e) (sym is)
      (record { written = rw ended_means a; finish = rw ended_means f; halts = over refl })

  -- 1. The run goes on from where it stands.

  module _ {x : Told} {left heavy from : ℕ} {b e : List ℕ} {step : Step} {r : Resumed} (a : table_verdict table ≡ Accepted)
      (w : Advances t table x left heavy from b e step) where
    pub filled : is_on step.put.reach ≡ false → r ≡ resumed_at step → Continues t table x from b e r
    filled off is = by step.put.reach refl off is
      where
        by : (y : Reach) → step.put.reach ≡ y → is_on y ≡ false → r ≡ resumed_by y step → Continues t table x from b e r
        by On q off is = let z : ◌≡◌ {A = ℕ} 0 1 = cc in absurd (omega arith)
        by (Over (Ok u)) q off is = ends 0 0 (limit - step.put.progress.here.left) (rw q at w.written) (rw q at w.finish) is
        by (Over (Err f)) q off is =
            ends (code_of f.refusal) f.position (limit - step.put.progress.here.left) (rw q at w.written) (rw q at w.finish) is
        by Full q off is =
            let f = w.full q in
            let m = begun_remains t table step.put.progress.given (w.sound (rw q)) f.1.1 a in
            subst (Continues t table x from b e) (sym is)
            (record {
              written = rw m (rw q at w.written);
              finish = rw m (rw q at w.finish);
              halts = full (rw f.0) refl (rw m (rw q at f.1.0));
            })

  -- 2. Refusals before the run

  pub refuses : {x : Told} {b : List ℕ} (code p : ℕ) {r : Resumed} → x ≡ told_over code p limit → r ≡ ended_with code p 0 0
      → Continues t table x 0 b b r
  refuses {b = b} code p q is =
      ends code p 0 (rw q (append_none [] 0 b (omega arith))) (ap (λ (y : Told). y.finish) q) is

  abbrev fresh : Verdict → Told
  fresh v = unless_wrong v (λ _. told (flow_of t (view_of table)))

  pub text_refused : {b : List ℕ} {code p : ℕ} {v : Verdict} {r : Resumed} → v ≡ text_verdict t → v ≡ Refused code p → r ≡ ended_with code p 0 0
      → Continues t table (fresh (text_verdict t)) 0 b b r
  text_refused {code = code} {p} q e is = refuses code p (ap fresh (sym q ∙ e)) is

  -- 3. A fresh state

  module _ {m : ℕ} {p : Progress} (counts : m ≡ argument_count table) (is : p ≡ record { here = start_of m; given = 0; at = 0 }) where
    starts_as : comes t table p.here no_blocks ≡ flow_of t (view_of table)
    unfolding frames_of
    starts_as = rw (is, counts, view_arguments)

    pub start_stands : {v : Verdict} {b : List ℕ} → table_verdict table ≡ Accepted → v ≡ text_verdict t → v ≡ Accepted → Standing t table p.here no_blocks p.at b
    unfolding all_lie
    start_stands a q e = record {
      accepted = a;
      sound =
          subst (λ (y : Progress). Sound (length t) table y.here no_blocks) (sym is)
          (record {
            short = (sound_start t (sym q ∙ e)).0;
            depth = omega arith;
            left = omega arith;
            place = omega arith;
            hand = true_both (le-leb (0 + m) (entry_count table) (omega (arith, counts, (accepted_sound table a).arguments))) (le-leb 0 m (omega arith));
            blocks = refl;
          });
      room = omega (arith, ap (λ (y : Progress). y.at) is);
    }

    pub starts : {v : Verdict} {b e : List ℕ} {r : Resumed} → v ≡ text_verdict t → v ≡ Accepted
        → Continues t table (to_give p.given (comes t table p.here no_blocks)) p.at b e r → Continues t table (fresh (text_verdict t)) 0 b e r
    starts {b = b} {e} {r} q k w =
        let w : Continues t table (to_give 0 (comes t table (start_of m) no_blocks)) 0 b e r =
        subst (λ (y : Progress). Continues t table (to_give y.given (comes t table y.here no_blocks)) y.at b e r) is w in
        rw (sym q ∙ k) (rw (sym (ap (λ (y : Progress). comes t table y.here no_blocks) is) ∙ starts_as) at w)

  -- 4. A state that is begun

  module _ (s : State) {h : Here} {b c : List ℕ} {w : RestWritten} (a : table_verdict table ≡ Accepted) (k : is_sound t table s ≡ true) (here : h ≡ here_of s)
      (wrote : WritesRest table s.rest 0 b c w) where
    abbrev Remain : Told
    Remain = to_come table s.rest s.given (comes t table (here_of s) s.nest)

    -- after what is left of the string the run is to come
    rest_gone : Appends Remain.bytes 0 b c w.at (rest_of table w.rest ++ drop s.given (to_give 0 (comes t table (here_of s) s.nest)).bytes)
    rest_gone =
        append_before (record { joined = wrote.joined; size = wrote.size; behind = wrote.behind; least = wrote.least; most = wrote.most })
        (drop s.given (to_give 0 (comes t table (here_of s) s.nest)).bytes)

    pub cuts : {r : Resumed} → (w.rest.stage ≡ 0 → ⊥) → r ≡ more_with w.at (begun_state h s.nest s.given w.rest)
        → Continues t table Remain 0 b c r
    cuts {r} left q =
        let stops = wrote.stops left in
        let m = begun_remains t table s.given (in_range_lem t table s k).0 wrote.inside a in
        let is : r ≡ more_with w.at (begun_state (here_of s) s.nest s.given w.rest) = q ∙ rw here in
        subst (Continues t table Remain 0 b c) (sym is)
        (record {
          written = rw m rest_gone;
          finish = rw m;
          halts = full (rw stops.0) refl (rw (m, length-append) (omega (arith, stops.1)));
        })

    pub stands_behind : Standing t table h s.nest w.at c
    stands_behind = record { accepted = a; sound = rw here (in_range_lem t table s k).0; room = omega (arith, wrote.size, wrote.most) }

    pub goes_on_lem : {e : List ℕ} {r : Resumed} → w.rest.stage ≡ 0 → Continues t table (to_give s.given (comes t table h s.nest)) w.at c e r
        → Continues t table Remain 0 b e r
    goes_on_lem {e} {r} gone v =
        let v : Continues t table (to_give s.given (comes t table (here_of s) s.nest)) w.at c e r = rw here at v in
        record {
          written = append_more (rw (rest_done table w.rest gone) at rest_gone) v.written;
          finish = v.finish;
          halts = rw wrote.size at v.halts;
        }

  -- 5. The call as a whole

  abbrev begun_by : State → Bool → Told
  begun_by s x = if_sound x (λ _. to_come table s.rest s.given (comes t table (here_of s) s.nest))

  -- one that no call gave
  pub picks_none : (s : State) {b : List ℕ} {x : Bool} {r : Resumed} → x ≡ is_sound t table s → x ≡ false → r ≡ ended_with 4 0 0 0
      → Continues t table (begun_by s (is_sound t table s)) 0 b b r
  picks_none s q e is = refuses 4 0 (ap (begun_by s) (sym q ∙ e)) is

  pub picks_up : (s : State) {b e : List ℕ} {x : Bool} {r : Resumed} → x ≡ is_sound t table s → x ≡ true
      → Continues t table (to_come table s.rest s.given (comes t table (here_of s) s.nest)) 0 b e r
      → Continues t table (begun_by s (is_sound t table s)) 0 b e r
  picks_up s q e w = rw (sym q ∙ e) w

  not_ended : (s : State) → s.stage < 2 → is_ended s ≡ false
  not_ended s h = le-ltb 1 s.stage (omega arith)

  -- what a window shows that has room
  shown_all : (s : State) (room : ℕ) → s.stage < 2 → (room ≡ 0 → ⊥) → length (remains t table s).bytes ≤ room
      → shown_in t table s room ≡ all (remains t table s)
  unfolding shown_in
  shown_all s room h some k = rw (not_ended s h, ne_eqb room 0 some, le-ltb room (length (remains t table s).bytes) k)

  shown_more : (s : State) (room : ℕ) → s.stage < 2 → (room ≡ 0 → ⊥) → room < length (remains t table s).bytes
      → shown_in t table s room ≡ more (take room (remains t table s).bytes)
  unfolding shown_in
  shown_more s room h some k = rw (not_ended s h, ne_eqb room 0 some, lt-ltb room (length (remains t table s).bytes) k)

  -- the answer by what is shown
  shows : (s : State) (b : List ℕ) {e : List ℕ} {r : Resumed} (y : Shown) → shown_in t table s (length b) ≡ y
      → r.code ≡ y.code → r.position ≡ y.position → r.steps ≡ y.steps → r.written ≡ length y.text → e ≡ y.text ++ drop r.written b
      → is_ended r.state ≡ y.ends
      → remains t table r.state ≡ record { bytes = drop r.written (remains t table s).bytes; finish = (remains t table s).finish }
      → (either (is_ended s) (eqb (length b) 0) ≡ true → r.state ≡ s) → Resumes t table s b e r
  shows s b y q code position steps written window ends rest kept = record {
    code_is = rw q code;
    position_is = rw q position;
    steps_is = rw q steps;
    written_is = rw q written;
    window_is = rw q window;
    ends_is = rw q ends;
    remains_is = rest;
    kept = kept;
  }

  -- a call that is not idle
  module _ (s : State) {b e : List ℕ} {r : Resumed} (h : s.stage < 2) (some : length b ≡ 0 → ⊥) (w : Continues t table (remains t table s) 0 b e r) where
    fits : length (take r.written e) ≡ r.written
    fits = length-take-le r.written e (omega (arith, w.written.size, w.written.most))

    window : e ≡ take r.written e ++ drop r.written b
    window = sym (take-append-drop r.written e) ∙ ap (λ (y : List ℕ). take r.written e ++ y) w.written.behind

    rest : remains t table r.state ≡ record { bytes = drop r.written (remains t table s).bytes; finish = (remains t table s).finish }
    rest =
        rw (w.written.joined, drop_at (take r.written e) (remains t table r.state).bytes r.written fits, w.finish)

    kept : either (is_ended s) (eqb (length b) 0) ≡ true → r.state ≡ s
    kept k =
        let z : ◌≡◌ {A = Bool} false true = rw (not_ended s h, ne_eqb (length b) 0 some) at k in
        let y : ◌≡◌ {A = ℕ} 0 1 = cc in
        absurd (omega arith)

    resumes : Resumes t table s b e r
    resumes = by w.halts
      where
        by : Halts t table (length b) r → Resumes t table s b e r
        by (over is) =
            let means : remains t table r.state ≡ as_ended t table r.state = ended_remains t table r.state (rw is) in
            let wrote : (remains t table s).bytes ≡ take r.written e = w.written.joined ∙ rw means (append-nil (take r.written e)) in
            let finish : (remains t table s).finish ≡ record { code = r.code; position = r.position; steps = r.steps } =
            w.finish ∙ ap (λ (y : Told). y.finish) means ∙ rw is in
            let size : length (remains t table s).bytes ≡ r.written = rw wrote fits in
            shows s b (all (remains t table s)) (shown_all s (length b) h some (omega (arith, size, w.written.most)))
            (ap (λ (y : Finish). y.code) (sym finish))
            (ap (λ (y : Finish). y.position) (sym finish))
            (ap (λ (y : Finish). y.steps) (sym finish))
            (sym size) (rw wrote window) (rw is) rest kept
        by (full is one next) =
            let all_of : r.written ≡ length b = ap (λ (y : Resumed). y.written) is in
            let size : length (remains t table s).bytes ≡ r.written + length (remains t table r.state).bytes =
            ap length w.written.joined ∙ length-append (take r.written e) (remains t table r.state).bytes ∙ rw fits in
            let wrote : take (length b) (remains t table s).bytes ≡ take r.written e =
            ap (take (length b)) w.written.joined ∙ take_at (take r.written e) (remains t table r.state).bytes (length b) (fits ∙ all_of) in
            shows s b (more (take (length b) (remains t table s).bytes)) (shown_more s (length b) h some (omega (arith, size, all_of, next)))
            (ap (λ (y : Resumed). y.code) is)
            (ap (λ (y : Resumed). y.position) is)
            (ap (λ (y : Resumed). y.steps) is)
            (rw wrote (sym fits)) (rw wrote window) (rw one) rest kept

  -- a call after the end
  pub after_end : (s : State) {b : List ℕ} → 2 ≤ s.stage
      → Resumes t table s b b (record { code = s.code; position = s.position; steps = s.steps; written = 0; state = s })
  after_end s {b} h =
      let k : is_ended s ≡ true = lt-ltb 1 s.stage (omega arith) in
      shows s b (all (as_ended t table s)) (ended_shown t table s (length b) k) refl refl refl refl refl k (rw (ended_remains t table s k)) (λ _. refl)

  -- a window of 0 bytes
  pub idle : (s : State) {b : List ℕ} {r : Resumed} → s.stage < 2 → length b ≡ 0 → r ≡ more_with 0 s → Resumes t table s b b r
  idle s {b} h none is =
      subst (Resumes t table s b b) (sym is)
      (shows s b (more []) (idle_shown t table s (length b) (not_ended s h) none) refl refl refl refl refl (not_ended s h) refl (λ _. refl))

  -- what remains, by the stage and the check of the table
  wrong_means : (s : State) {code p : ℕ} → s.stage < 2 → table_verdict table ≡ Refused code p → remains t table s ≡ told_over code p limit
  unfolding remains
  wrong_means s {code} {p} h e = by s.stage refl
    where
      by : (n : ℕ) → s.stage ≡ n → remains t table s ≡ told_over code p limit
      by zero k = rw (k, e)
      by (suc zero) k = rw (k, e)
      by (suc (suc n)) k = absurd (omega arith)

  fresh_means : (s : State) → s.stage ≡ 0 → table_verdict table ≡ Accepted → remains t table s ≡ fresh (text_verdict t)
  unfolding remains
  fresh_means s k e = rw (k, e)

  begun_means : (s : State) → s.stage ≡ 1 → table_verdict table ≡ Accepted → remains t table s ≡ begun_by s (is_sound t table s)
  unfolding remains
  begun_means s k e = rw (k, e)

  module _ (s : State) {b : List ℕ} {v : Verdict} (h : s.stage < 2) (some : length b ≡ 0 → ⊥) (q : v ≡ table_verdict table) where
    pub table_refused : {code p : ℕ} {r : Resumed} → v ≡ Refused code p → r ≡ ended_with code p 0 0 → Resumes t table s b b r
    table_refused {code} {p} e is = resumes s h some (refuses code p (wrong_means s h (sym q ∙ e)) is)

    pub fresh_state : {e : List ℕ} {r : Resumed} → v ≡ Accepted → (s.stage ≡ 1 → ⊥)
        → Continues t table (fresh (text_verdict t)) 0 b e r → Resumes t table s b e r
    fresh_state {e} {r} a k w =
        resumes s h some (subst (λ (x : Told). Continues t table x 0 b e r) (sym (fresh_means s (omega arith) (sym q ∙ a))) w)

    pub begun_state_lem : {e : List ℕ} {r : Resumed} → v ≡ Accepted → s.stage ≡ 1
        → Continues t table (begun_by s (is_sound t table s)) 0 b e r → Resumes t table s b e r
    begun_state_lem {e} {r} a k w =
        resumes s h some (subst (λ (x : Told). Continues t table x 0 b e r) (sym (begun_means s k (sym q ∙ a))) w)
