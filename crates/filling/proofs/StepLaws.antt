-- Steps that fill a window: a piece, a move, what is over, and one step after another. Assumes nothing.
use Prim.Native.Nat.{ℕ, ◌+◌, ◌-◌, ◌<◌, ◌≤◌}
use mathlib.Core.Path.{◌≡◌, refl, sym, ap, subst, ◌∙◌}
use mathlib.Core.Bool.{true, false}
use mathlib.Core.List.{List, [], ◌++◌}
use Rattle.std.specs.Prelude.{Option, None, Some, Result, Ok, Err, ⊤}
use native.Mathlib.Decide.{dec_lt}
use native.Mathlib.Omega.{arith}
use lib.ListN.{length, take, drop, length-append, length-drop, drop_of_length-le}
use lib.Seq.{drop-nil, drop-append-add, drop-append-le, length-take-le}
use Rattle.rules.specs.Flow.{Flow, put, refused, given_text, finish_of}
use Rattle.rules.specs.Table.{view_of}
use Rattle.rules.specs.Text.{Level, innermost, levels_at}
use Rattle.rules.specs.Run.{begin, item_acts, run}
use Rattle.rules.specs.declared.ArgumentPosition.{ArgumentPosition}
use Rattle.rules.specs.declared.Item.{Item}
use Rattle.rules.specs.declared.refusal.Fault.{Fault}
use Rattle.rules.specs.declared.refusal.Refusal.TheVariants.{StepLimit}
use Rattle.rules.proofs.RunLaws.{begin_yes, begin_no, run_acts}
use Rattle.pieces.specs.Rest.{rest_of, RestIn, Appends}
use Rattle.pieces.specs.declared.resuming.QuoteRest.{QuoteRest}
use Rattle.pieces.proofs.Rests.{append_none, append_before, append_more, rest_done}
use Rattle.parameters.specs.Settling.{hand_at}
use Rattle.running.specs.Runs.{ActsAt, rest_at}
use Rattle.nesting.specs.Moves.{here_at, Told, told, told_end, comes, Sound, weight, Moves}
use Rattle.nesting.specs.Moves.{told_by as reached_by}
use Rattle.nesting.specs.Nest.{frames_of, hand_lies}
use Rattle.nesting.specs.declared.moves.Here.{Here}
use Rattle.nesting.specs.declared.moves.Moved.{Moved}
use Rattle.nesting.specs.declared.nests.Nest.{Nest}
use Rattle.nesting.proofs.MoveLaws.{told_refused}
use Rattle.filling.specs.declared.giving.Reach.{Reach}
use Rattle.filling.specs.declared.giving.Reach.TheVariants.{On, Over, Full}
use Rattle.filling.specs.declared.giving.Put.{Put}
use Rattle.filling.specs.declared.steps.Step.{Step}
use Rattle.filling.specs.Filling.{no_rest, put_at, put_on, put_refused, put_full, Given, whole, cut, quoted, to_give, told_by, over_by, remaining, Advances, step_of, Puts}
use Rattle.filling.specs.Steps.{reach_of, moved_step, StepsFrom}

-- how a step came is one way
pub over_on : {out : Result ⊤ Fault} → ◌≡◌ {A = Reach} (Over out) On → ⊥
over_on e = let z : ◌≡◌ {A = ℕ} 0 1 = cc in omega arith

pub over_full : {out : Result ⊤ Fault} → ◌≡◌ {A = Reach} (Over out) Full → ⊥
over_full e = let z : ◌≡◌ {A = ℕ} 0 1 = cc in omega arith

full_on : ◌≡◌ {A = Reach} Full On → ⊥
full_on e = let z : ◌≡◌ {A = ℕ} 0 1 = cc in omega arith

on_full : ◌≡◌ {A = Reach} On Full → ⊥
on_full e = let z : ◌≡◌ {A = ℕ} 0 1 = cc in omega arith

pub false_true : false ≡ true → ⊥
false_true e = let z : ◌≡◌ {A = ℕ} 0 1 = cc in omega arith

-- a refusal gives nothing more
pub refused_appends : (code p left : ℕ) {text : List ℕ} {from at : ℕ} {b e : List ℕ} → Appends text from b e at (given_text (refused code p left)) → Appends text from b e at []
unfolding given_text
refused_appends code p left a = a

-- what is left of a text behind so many bytes, of two parts
drop_both : (n : ℕ) (w x : List ℕ) → drop n (w ++ x) ≡ drop n w ++ drop (n - length w) x
drop_both n w x =
    elim (dec_lt n (length w)) [
      | yes h ↦
          let z : n - length w ≡ 0 = omega arith in
          rw z (drop-append-le n w x (omega arith))
      | no h ↦
          let m : length w + (n - length w) ≡ n = omega arith in
          subst (λ (k : ℕ). drop k (w ++ x) ≡ drop n w ++ drop (n - length w) x) m
          (drop-append-add w x (n - length w) ∙ ap (λ (y : List ℕ). y ++ drop (n - length w) x) (sym (drop_of_length-le w {i = n} (omega arith))))
    ]

pub to_give_lem : (f g : Flow) (given : ℕ) → told f ≡ told g → to_give given f ≡ to_give given g
to_give_lem f g given e = ap (λ (x : Told). record { bytes = drop given x.bytes; finish = x.finish }) e

-- a run that is over, which gives nothing more
end_bytes : (out : Result ⊤ Fault) (left : ℕ) → (told_end out left).bytes ≡ []
end_bytes (Ok u) left = refl
end_bytes (Err x) left = refl

abbrev pub over_step : Result ⊤ Fault → Here → Nest → ℕ → ℕ → Step
over_step out h o given at = step_of o (put_at (Over out) h given at)

module _ (t table : List ℕ) (f : Flow) (given left heavy at : ℕ) (b : List ℕ) where
  pub advances_over : {out : Result ⊤ Fault} {g : ℕ} {h : Here} {o : Nest} {r : Step} → r ≡ over_step out h o g at → told f ≡ told_end out h.left → h.left ≤ left → at ≤ length b
      → Advances t table (to_give given f) left heavy at b b r
  advances_over {out} {g} {h} {o} q e l m =
      subst (Advances t table (to_give given f) left heavy at b b) (sym q)
      (record {
        written =
            subst (λ (x : List ℕ). Appends x at b b at (told_end out h.left).bytes)
            (sym (ap (drop given) (ap (λ (x : Told). x.bytes) e ∙ end_bytes out h.left) ∙ drop-nil given))
            (rw (end_bytes out h.left) (append_none [] at b m));
        finish = ap (λ (x : Told). x.finish) e;
        steps = l;
        sound = λ z. absurd (false_true z);
        falls = λ z. absurd (over_on z);
        full = λ z. absurd (over_full z);
      })

  -- the run goes on elsewhere, and nothing is written
  pub advances_on : {h : Here} {o : Nest} {r : Step} → r ≡ step_of o (put_on h given at) → told f ≡ told (comes t table h o) → h.left ≤ left → Sound (length t) table h o → weight h o < heavy → at ≤ length b
      → Advances t table (to_give given f) left heavy at b b r
  advances_on {h} {o} q e k s w l =
      subst (Advances t table (to_give given f) left heavy at b b) (sym q)
      (record {
        written = subst (λ (x : Told). Appends x.bytes at b b at (drop given (given_text (comes t table h o)))) (sym (to_give_lem f (comes t table h o) given e)) (append_none _ at b l);
        finish = ap (λ (x : Told). x.finish) e;
        steps = k;
        sound = λ _. s;
        falls = λ _. w;
        full = λ z. absurd (on_full z);
      })

  -- a move
  pub advances_moved : {m : Moved} {r : Step} → r ≡ moved_step m given at → Moves t table f left heavy m → at ≤ length b → Advances t table (to_give given f) left heavy at b b r
  advances_moved {m} {r} q v l = by m.over refl
    where
      step : Option (Result ⊤ Fault) → Step
      step w = step_of m.nest (put_at (reach_of w) m.here given at)

      reached_as : Option (Result ⊤ Fault) → Told
      reached_as w = reached_by w (told (comes t table m.here m.nest)) m.here.left

      by : (w : Option (Result ⊤ Fault)) → m.over ≡ w → Advances t table (to_give given f) left heavy at b b r
      by None z =
          advances_on {h = m.here} {o = m.nest} {r = r} (q ∙ ap step z) (v.same ∙ ap reached_as z) v.steps (v.sound z) (v.falls z) l
      by (Some out) z =
          advances_over {out = out} {g = given} {h = m.here} {o = m.nest} {r = r} (q ∙ ap step z) (v.same ∙ ap reached_as z) v.steps l

-- a piece w, after which the run stands at `after`
module _ (t table : List ℕ) (h after : Here) (o : Nest) (p m : ℕ) (w : List ℕ) (given at : ℕ) (b e : List ℕ) where
  abbrev rest : List ℕ
  rest = given_text (comes t table after o)

  module _ (q : comes t table h o ≡ put p m w (comes t table after o)) (s : Sound (length t) table h o) (s₂ : Sound (length t) table after o) (less : after.left < h.left) where
    text : given_text (comes t table h o) ≡ w ++ rest
    unfolding given_text
    text = ap given_text q

    ending : finish_of (comes t table h o) ≡ finish_of (comes t table after o)
    ending = ap finish_of q

    both : drop given (given_text (comes t table h o)) ≡ drop given w ++ drop (given - length w) rest
    both = ap (drop given) text ∙ drop_both given w rest

    gives_whole : (n : ℕ) → Appends (drop given w) at b e n [] → Advances t table (to_give given (comes t table h o)) h.left (weight h o) at b e (step_of o (put_on after (given - length w) n))
    gives_whole n a =
        record {
          written = subst (λ (x : List ℕ). Appends x at b e n (drop (given - length w) rest)) (sym both) (append_before a (drop (given - length w) rest));
          finish = ending;
          steps = omega (arith, less);
          sound = λ _. s₂;
          falls = λ _. omega (arith, less);
          full = λ z. absurd (on_full z);
        }

    -- some of it was to be given, as it was cut
    begun : (g : ℕ) → g < length w → Appends (drop given w) at b e (length b) (drop g w) → given < length w
    begun g k a =
        elim (dec_lt given (length w)) [
          | yes z ↦ z
          | no z ↦
              let n = ap length a.joined in
              absurd (omega (
                arith,
                n,
                k,
                a.least,
                length-append (take at b) (drop given w),
                length-append (take (length b) e) (drop g w),
                length-drop given w,
                length-drop g w,
                length-take-le at b (omega (arith, a.least)),
                length-take-le (length b) e (omega (arith, a.size)),
              ))
        ]

    gives_cut : (g : ℕ) → g < length w → Appends (drop given w) at b e (length b) (drop g w)
        → Advances t table (to_give given (comes t table h o)) h.left (weight h o) at b e (step_of o (put_full h g (length b)))
    gives_cut g k a =
        let z : given - length w ≡ 0 = let i = begun g k a in omega (arith, i) in
        let left : rest_of table no_rest ++ drop g (given_text (comes t table h o)) ≡ drop g w ++ rest =
        ap (λ (x : List ℕ). x ++ drop g (given_text (comes t table h o))) (rest_done table no_rest refl) ∙ ap (drop g) text ∙ drop-append-le g w rest (omega (arith, k)) in
        record {
          written =
              subst (λ (x : List ℕ). Appends x at b e (length b) (rest_of table no_rest ++ drop g (given_text (comes t table h o)))) (sym both)
              (rw (z, left) (append_before a rest));
          finish = refl;
          steps = omega arith;
          sound = λ _. s;
          falls = λ y. absurd (full_on y);
          full = λ _. (refl, (rw left (omega (arith, length-append (drop g w) rest, length-drop g w, k)), record { order = omega arith; inside = omega arith; before = omega arith; behind = omega arith }));
        }

    gives_quoted : (q' : QuoteRest) → given ≡ 0 → RestIn table q' → 0 < length (rest_of table q') → Appends w at b e (length b) (rest_of table q')
        → Advances t table (to_give given (comes t table h o)) h.left (weight h o) at b e (step_of o (record { reach = Full; progress = record { here = after; given = 0; at = length b }; rest = q' }))
    gives_quoted q' z i l a =
        record {
          written =
              subst (λ (x : List ℕ). Appends x at b e (length b) (rest_of table q' ++ rest)) (sym (ap (λ (k : ℕ). drop k (given_text (comes t table h o))) z ∙ text)) (append_before a rest);
          finish = ending;
          steps = omega (arith, less);
          sound = λ _. s₂;
          falls = λ y. absurd (full_on y);
          full = λ _. (refl, (omega (arith, length-append (rest_of table q') rest, l), i));
        }

    pub advances_given : {r : Put} → Given w h after given at b e table r → Advances t table (to_give given (comes t table h o)) h.left (weight h o) at b e (step_of o r)
    advances_given {r} (whole z a) = subst (λ (x : Put). Advances t table (to_give given (comes t table h o)) h.left (weight h o) at b e (step_of o x)) (sym z) (gives_whole r.progress.at a)
    advances_given {r} (cut z k a) = subst (λ (x : Put). Advances t table (to_give given (comes t table h o)) h.left (weight h o) at b e (step_of o x)) (sym z) (gives_cut r.progress.given k a)
    advances_given {r} (quoted y z i l a) = subst (λ (x : Put). Advances t table (to_give given (comes t table h o)) h.left (weight h o) at b e (step_of o x)) (sym z) (gives_quoted r.rest y i l a)

-- an item that acts
module _ (t table : List ℕ) (h : Here) (o : Nest) (x : Item) (q : ℕ) (a : ActsAt (levels_at t) h.place h.place x q) where
  pub acts : comes t table h o ≡ begin h.place h.left (λ m. item_acts (view_of table) h.place m x (hand_at h.hand h.next.0)
      (λ j. run (view_of table) m (rest_at (levels_at t) q) (frames_of (levels_at t) o o.depth) (hand_at h.hand j)))
  acts =
      ap (λ (y : List Level). run (view_of table) h.left (innermost y).rest (frames_of (levels_at t) o o.depth) (hand_at h.hand h.next.0)) a.is
      ∙ run_acts (view_of table) (hand_at h.hand h.next.0) h.place (rest_at (levels_at t) q) x (frames_of (levels_at t) o o.depth) h.left

  pub acts_on : (h.left ≡ 0 → ⊥) → comes t table h o ≡ item_acts (view_of table) h.place (h.left - 1) x (hand_at h.hand h.next.0)
      (λ j. run (view_of table) (h.left - 1) (rest_at (levels_at t) q) (frames_of (levels_at t) o o.depth) (hand_at h.hand j))
  acts_on z = acts ∙ begin_yes h.place h.left _ z

  pub acts_none : h.left ≡ 0 → comes t table h o ≡ refused 9 h.place h.left
  acts_none z = acts ∙ begin_no h.place h.left _ z

-- no step is left for it
pub puts_none : (t table : List ℕ) (x : Item) (q : ℕ) (h : Here) (given at : ℕ) (b : List ℕ) {r : Put} → h.left ≡ 0 → r ≡ put_refused StepLimit h.place h at → at ≤ length b → Puts t table x q h given at b b r
puts_none t table x q h given at b z e l =
    record {
      is = λ o s a m.
          advances_over t table (comes t table h o) given h.left (weight h o) at b (ap (step_of o) e)
          (ap told (acts_none t table h o x q a z) ∙ told_refused 9 h.place h.left) (omega arith) l;
    }

-- one place on, with a step less
pub steps_on : {n : ℕ} {table : List ℕ} {h : Here} {o : Nest} (place left : ℕ) (next : ArgumentPosition) → Sound n table h o → place ≤ n → left ≤ h.left → hand_lies table h.hand next.0 ≡ true
    → Sound n table (here_at place left h.hand next) o
steps_on place left next s p l y = record { short = s.short; depth = s.depth; left = omega (arith, s.left, l); place = p; hand = y; blocks = s.blocks }

-- one step after another
module _ (t table : List ℕ) (x : Told) (left heavy at : ℕ) (b e : List ℕ) {r : Step} where
  pub advances_join : Advances t table x left heavy at b e r → r.put.reach ≡ On → {e' : List ℕ} {r' : Step}
      → StepsFrom t table r.put.progress r.nest e e' r' → Advances t table x left heavy at b e' r'
  advances_join v z {e'} {r'} u =
      let p = r.put.progress in
      let y : remaining t table r ≡ to_give p.given (comes t table p.here r.nest) =
      ap (λ (k : Reach). told_by k (rest_of table r.put.rest) (to_give p.given (comes t table p.here r.nest)) (over_by k p.here.left)) z in
      record {
        written = append_more v.written (subst (λ (k : Told). Appends k.bytes p.at e e' r'.put.progress.at (remaining t table r').bytes) (sym y) u.written);
        finish = v.finish ∙ ap (λ (k : Told). k.finish) y ∙ u.finish;
        steps = omega (arith, v.steps, u.steps);
        sound = u.sound;
        falls = λ k. omega (arith, v.falls z, u.falls k);
        full = λ k. ((u.full k).0 ∙ v.written.size, (u.full k).1);
      }
