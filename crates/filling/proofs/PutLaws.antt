-- What an item that acts puts into the window: a piece, a refusal, a jump. Assumes nothing.
use Prim.Native.Nat.{ℕ, ◌+◌, ◌-◌, ◌<◌, ◌≤◌}
use mathlib.Core.Path.{◌≡◌, refl, sym, ap, subst, ◌∙◌}
use mathlib.Core.Bool.{true, false}
use mathlib.Core.List.{List, [], ◌∷◌}
use native.Mathlib.Omega.{arith}
use denote.Enum.Declared.{tag_of}
use types.Run.{OneOf, miss}
use lib.ListN.{length, drop, set, drop_of_length-le}
use Rattle.rules.specs.Flow.{Flow, put, refused}
use Rattle.rules.specs.Piece.{text_of}
use Rattle.rules.specs.Table.{View, view_of, meant}
use Rattle.rules.specs.Text.{levels_at}
use Rattle.rules.specs.Working.{Context}
use Rattle.rules.specs.Act.{act_of}
use Rattle.rules.specs.Run.{item_acts, run}
use Rattle.rules.specs.declared.ArgumentPosition.{ArgumentPosition}
use Rattle.rules.specs.declared.Code.{Code}
use Rattle.rules.specs.declared.Code.TheVariants.{Writes, Jump, Escape, Opens, Separator, Closes, Unknown}
use Rattle.rules.specs.declared.Directive.{Directive}
use Rattle.rules.specs.declared.Form.{Form}
use Rattle.rules.specs.declared.Item.{Item}
use Rattle.rules.specs.declared.Item.TheVariants.{Literal, Written}
use Rattle.rules.specs.Refusals.{code_of}
use Rattle.rules.specs.declared.refusal.Fault.{Fault}
use Rattle.rules.specs.declared.refusal.Refusal.{Refusal}
use Rattle.rules.specs.contracts.Code as code_declared
use Rattle.rules.proofs.Tests.{not_both_ways}
use Rattle.pieces.specs.Rest.{Appends}
use Rattle.pieces.proofs.Rests.{append_none, append_one}
use Rattle.parameters.specs.Settling.{InHand, hand_at}
use Rattle.std.specs.Prelude.{Ok, Err}
use Rattle.actions.specs.declared.planning.Plan.{Plan}
use Rattle.actions.specs.declared.state.Ran.{Ran}
use Rattle.actions.specs.declared.state.Spot.{Spot}
use Rattle.actions.specs.declared.state.Stop.{Stop}
use Rattle.actions.specs.declared.state.Stop.TheVariants.{Ended, Escaped, Refused}
use Rattle.actions.specs.Planning.{Plans}
use Rattle.actions.specs.Ran.{onward}
use Rattle.actions.specs.Acting.{Performed}
use Rattle.actions.proofs.ActLaws.{performed_stays}
use Rattle.actions.specs.contracts.state.Stop as stop_declared
use Rattle.blocks.specs.Parts.{ends_sequence}
use Rattle.running.specs.Runs.{ActsAt, rest_at}
use Rattle.nesting.specs.Moves.{here_at, told, comes, Sound, weight}
use Rattle.nesting.specs.Nest.{frames_of, hand_lies}
use Rattle.nesting.specs.declared.moves.Here.{Here}
use Rattle.nesting.specs.declared.nests.Nest.{Nest}
use Rattle.nesting.proofs.MoveLaws.{told_refused, lies}
use Rattle.filling.specs.declared.giving.Put.{Put}
use Rattle.filling.specs.Filling.{put_on, put_over, put_refused, put_full, Given, whole, cut, to_give, Advances, step_of, Puts}
use Rattle.filling.specs.declared.steps.Step.{Step}
use Rattle.filling.proofs.JumpLaws.{silent_jump, silent_is}
use Rattle.filling.proofs.StepLaws.{advances_given, advances_over, advances_on, acts_on, steps_on}

module _ (t table : List ℕ) (x : Item) (q : ℕ) (h : Here) (given at : ℕ) (z : h.left ≡ 0 → ⊥) where
  abbrev does : (ℕ → Flow) → Flow
  does on = item_acts (view_of table) h.place (h.left - 1) x (hand_at h.hand h.next.0) on

  -- it puts a piece w, and the next argument is i
  pub puts_piece : {b e : List ℕ} {r : Put} (w : List ℕ) (i : ArgumentPosition) → ((on : ℕ → Flow) → does on ≡ put h.place (h.left - 1) w (on i.0))
      → (hand_lies table h.hand h.next.0 ≡ true → hand_lies table h.hand i.0 ≡ true)
      → Given w h (here_at q (h.left - 1) h.hand i) given at b e table r → Puts t table x q h given at b e r
  puts_piece {b} {e} {r} w i p l g =
      record {
        is = λ o s a m.
            advances_given t table h (here_at q (h.left - 1) h.hand i) o h.place (h.left - 1) w given at b e
            (acts_on t table h o x q a z ∙ p _) s (steps_on q (h.left - 1) i s m (omega arith) (l s.hand)) (omega (arith, z)) g;
      }

  -- it is refused
  pub puts_refused : {b : List ℕ} {r : Put} {after : Here} (refusal : Refusal) → ((on : ℕ → Flow) → does on ≡ refused (code_of refusal) h.place (h.left - 1)) → after.left ≡ h.left - 1
      → r ≡ put_refused refusal h.place after at → at ≤ length b → Puts t table x q h given at b b r
  puts_refused {b} {r} {after} refusal p y e l =
      record {
        is = λ o s a m.
            advances_over t table (comes t table h o) given h.left (weight h o) at b (ap (step_of o) e)
            (ap told (acts_on t table h o x q a z ∙ p _ ∙ ap (refused (code_of refusal) h.place) (sym y)) ∙ told_refused (code_of refusal) h.place after.left) (omega (arith, y)) l;
      }

-- a literal byte
literal_acts : (v : View) (p m byte : ℕ) (c : Context) (on : ℕ → Flow) → item_acts v p m (Literal byte) c on ≡ put p m (byte ∷ []) (on c.next)
unfolding act_of
literal_acts v p m byte c on = refl

module _ (byte : ℕ) (h : Here) (given at : ℕ) (z : h.left ≡ 0 → ⊥) where
  abbrev after : Here
  after = here_at (h.place + 1) (h.left - 1) h.hand h.next

  byte_puts : (t table : List ℕ) {b e : List ℕ} {r : Put} → Given (byte ∷ []) h after given at b e table r → Puts t table (Literal byte) (h.place + 1) h given at b e r
  byte_puts t table g = puts_piece t table (Literal byte) (h.place + 1) h given at z (byte ∷ []) h.next (λ on. literal_acts _ _ _ byte _ on) (λ k. k) g

  gone : (n : ℕ) → 0 < n → drop n (byte ∷ []) ≡ []
  gone n k = drop_of_length-le (byte ∷ []) {i = n} (omega (arith, k))

  pub byte_given : (t table : List ℕ) {b : List ℕ} {r : Put} → 0 < given → at ≤ length b → r ≡ put_on after (given - 1) at → Puts t table (Literal byte) (h.place + 1) h given at b b r
  byte_given t table {b} {r} g l e =
      byte_puts t table
      (subst (λ (k : Put). Given (byte ∷ []) h after given at b b table k) (sym e)
      (whole refl (subst (λ (k : List ℕ). Appends k at b b at []) (sym (gone given g)) (append_none [] at b l))))

  pub byte_full : (t table : List ℕ) {b : List ℕ} {r : Put} → given ≤ 0 → at ≤ length b → length b ≤ at → r ≡ put_full h 0 at
      → Puts t table (Literal byte) (h.place + 1) h given at b b r
  byte_full t table {b} {r} g l f e =
      let n : at ≡ length b = omega arith in
      let k : given ≡ 0 = omega arith in
      byte_puts t table
      (subst (λ (x : Put). Given (byte ∷ []) h after given at b b table x) (sym (e ∙ ap (put_full h 0) n))
      (cut refl (omega arith)
      (subst (λ (i : ℕ). Appends (drop i (byte ∷ [])) at b b (length b) (byte ∷ [])) (sym k) (subst (λ (i : ℕ). Appends (byte ∷ []) at b b i (byte ∷ [])) n (append_none (byte ∷ []) at b l)))))

  pub byte_put : (t table : List ℕ) {b : List ℕ} {r : Put} → given ≤ 0 → at < length b → r ≡ put_on after 0 (at + 1) → Puts t table (Literal byte) (h.place + 1) h given at b (set b at byte) r
  byte_put t table {b} {r} g l e =
      let k : given ≡ 0 = omega arith in
      byte_puts t table
      (subst (λ (x : Put). Given (byte ∷ []) h after given at b (set b at byte) table x) (sym e)
      (whole (ap (λ (i : ℕ). put_on after i (at + 1)) (less given k))
      (subst (λ (i : ℕ). Appends (drop i (byte ∷ [])) at b (set b at byte) (at + 1) []) (sym k) (append_one (append_none (byte ∷ []) at b (omega (arith, l))) byte l refl))))
    where
      less : (n : ℕ) → n ≡ 0 → 0 ≡ n - 1
      less n w = omega (arith, w)

-- a directive of a form
module _ (t table : List ℕ) (form : Form) (d : Directive) (h : Here) (given at : ℕ) (z : h.left ≡ 0 → ⊥) where
  pub form_refused : {b : List ℕ} {r : Put} {refusal : Refusal} → Plans table form d h.hand h.next.0 (Err refusal)
      → r ≡ put_refused refusal h.place (here_at d.after (h.left - 1) h.hand h.next) at → at ≤ length b → Puts t table (Written d) d.after h given at b b r
  form_refused {refusal = refusal} p e l =
      puts_refused t table (Written d) d.after h given at z refusal (λ on. p.as_defined h.place (h.left - 1) on) refl e l

  pub form_shows : {b e : List ℕ} {r : Put} {x : Plan} {w : List ℕ} → InHand table h.hand → Plans table form d h.hand h.next.0 (Ok x)
      → w ≡ text_of form d.colon d.atsign x.settings (meant table x.argument) → Given w h (here_at d.after (h.left - 1) h.hand x.next) given at b e table r → Puts t table (Written d) d.after h given at b e r
  form_shows {x = x} {w = w} n p q g =
      puts_piece t table (Written d) d.after h given at z w x.next
      (λ on. p.as_defined h.place (h.left - 1) on ∙ ap (λ (y : List ℕ). put h.place (h.left - 1) y (on x.next.0)) (sym q))
      (λ _. lies table h.hand x.next.0 n p.reaches.1.1) g

-- a jump
module _ (t table : List ℕ) (d : Directive) (h : Here) (given at : ℕ) (z : h.left ≡ 0 → ⊥) (c : d.code ≡ Jump) (n : InHand table h.hand) where
  abbrev spot : Spot
  spot = record { position = h.place; place = d.after; left = h.left - 1; at = 0 }

  abbrev PerformedHere : Ran → Type 0
  PerformedHere r = Performed (λ on. item_acts (view_of table) h.place (h.left - 1) (Written d) (hand_at h.hand h.next.0) on) h.hand.count spot [] [] r

  module _ {r : Ran} (u : PerformedHere r) where
    comes_to : (o : Nest) → ActsAt (levels_at t) h.place h.place (Written d) d.after
        → comes t table h o ≡ onward (λ l j. run (view_of table) l (rest_at (levels_at t) d.after) (frames_of (levels_at t) o o.depth) (hand_at h.hand j)) (λ l j. refused 0 0 0) r.stop r.left r.next.0
    comes_to o a =
        acts_on t table h o (Written d) d.after a z
        ∙ silent_is u (silent_jump (view_of table) h.place (h.left - 1) (hand_at h.hand h.next.0) d c)
        (λ l j. run (view_of table) l (rest_at (levels_at t) d.after) (frames_of (levels_at t) o o.depth) (hand_at h.hand j)) (λ l j. refused 0 0 0)

    pub jump_on : {b : List ℕ} {s : Put} → (keys : List ℕ) → keys ≡ 0 ∷ 1 ∷ [] → OneOf keys (tag_of stop_declared.the_type r.stop) → s ≡ put_on (here_at d.after r.left h.hand r.next) given at → at ≤ length b
        → Puts t table (Written d) d.after h given at b b s
    jump_on {b} {s} keys k y e l = by r.stop refl y
      where
        by : (x : Stop) → r.stop ≡ x → OneOf keys (tag_of stop_declared.the_type x) → Puts t table (Written d) d.after h given at b b s
        by Ended q w =
            record {
              is = λ o i a m.
                  advances_on t table (comes t table h o) given h.left (weight h o) at b (ap (step_of o) e)
                  (ap told (comes_to o a ∙ ap (λ (x : Stop). onward (λ l j. run (view_of table) l (rest_at (levels_at t) d.after) (frames_of (levels_at t) o o.depth) (hand_at h.hand j)) (λ l j. refused 0 0 0) x r.left r.next.0) q))
                  (omega (arith, u.does.falls)) (steps_on d.after r.left r.next i m (omega (arith, u.does.falls)) (lies table h.hand r.next.0 n u.does.inside))
                  (omega (arith, u.does.falls, z)) l;
            }
        by Escaped q w = absurd (performed_stays u q)
        by (Refused f) q w = absurd (miss (0 ∷ 1 ∷ []) 2 tt (subst (λ (i : List ℕ). OneOf i 2) k w))

    pub jump_refused : {b : List ℕ} {s : Put} {fault : Fault} → r.stop ≡ Refused fault → s ≡ put_over (Err fault) (here_at d.after r.left h.hand r.next) at → at ≤ length b
        → Puts t table (Written d) d.after h given at b b s
    jump_refused {b} {s} {fault} q e l =
        record {
          is = λ o i a m.
              advances_over t table (comes t table h o) given h.left (weight h o) at b (ap (step_of o) e)
              (ap told (comes_to o a ∙ ap (λ (k : Stop). onward (λ l j. run (view_of table) l (rest_at (levels_at t) d.after) (frames_of (levels_at t) o o.depth) (hand_at h.hand j)) (λ l j. refused 0 0 0) k r.left r.next.0) q) ∙ told_refused (code_of fault.refusal) fault.position r.left)
              (omega (arith, u.does.falls)) l;
        }

-- what is put, as a step
pub puts_step : {t table : List ℕ} {x : Item} {q : ℕ} {h : Here} {o : Nest} {given at : ℕ} {b e : List ℕ} {r : Put} {s : Step} → Puts t table x q h given at b e r → s ≡ step_of o r
    → Sound (length t) table h o → ActsAt (levels_at t) h.place h.place x q → q ≤ length t → Advances t table (to_give given (comes t table h o)) h.left (weight h o) at b e s
puts_step {t} {table} {x} {q} {h} {o} {given} {at} {b} {e} p k s a l =
    subst (Advances t table (to_give given (comes t table h o)) h.left (weight h o) at b e) (sym k) (p.is o s a l)

-- which arms there are
pub escape_code : (keys : List ℕ) (c : Code) → keys ≡ 2 ∷ 4 ∷ 5 ∷ 6 ∷ [] → ends_sequence c ≡ false → OneOf keys (tag_of code_declared.the_type c) → c ≡ Escape
escape_code keys (Writes f) q e w = absurd (miss (2 ∷ 4 ∷ 5 ∷ 6 ∷ []) 0 tt (subst (λ (k : List ℕ). OneOf k 0) q w))
escape_code keys Jump q e w = absurd (miss (2 ∷ 4 ∷ 5 ∷ 6 ∷ []) 1 tt (subst (λ (k : List ℕ). OneOf k 1) q w))
escape_code keys Escape q e w = refl
escape_code keys (Opens b) q e w = absurd (miss (2 ∷ 4 ∷ 5 ∷ 6 ∷ []) 3 tt (subst (λ (k : List ℕ). OneOf k 3) q w))
escape_code keys Separator q e w = absurd (not_both_ways refl e)
escape_code keys (Closes b) q e w = absurd (not_both_ways refl e)
escape_code keys Unknown q e w = absurd (not_both_ways refl e)

pub ended_stop : (keys : List ℕ) (x : Stop) → keys ≡ 0 ∷ 1 ∷ [] → (x ≡ Escaped → ⊥) → OneOf keys (tag_of stop_declared.the_type x) → x ≡ Ended
ended_stop keys Ended q n o = refl
ended_stop keys Escaped q n o = absurd (n refl)
ended_stop keys (Refused f) q n o = absurd (miss (0 ∷ 1 ∷ []) 2 tt (subst (λ (k : List ℕ). OneOf k 2) q o))
