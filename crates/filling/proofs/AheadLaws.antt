-- What runs ahead of an item, an escape, and the loop over steps. Assumes nothing.
use Prim.Native.Nat.{ℕ, ◌+◌, ◌-◌, ◌<◌, ◌≤◌}
use mathlib.Core.Path.{◌≡◌, refl, sym, ap, subst, ◌∙◌}
use mathlib.Core.Bool.{true, false}
use Rattle.std.specs.Prelude.{Err}
use mathlib.Core.List.{List}
use native.Mathlib.Decide.{ℕ_discrete as dec_eq}
use native.Mathlib.Omega.{arith}
use lib.ListN.{length, take}
use borrow.Author.Tests.{le-leb, lt-leb}
use Rattle.rules.specs.Choice.{choose}
use Rattle.rules.specs.Refusals.{code_of}
use Rattle.rules.specs.declared.refusal.Fault.{Fault}
use Rattle.rules.specs.declared.refusal.Refusal.{Refusal}
use Rattle.rules.specs.declared.refusal.Refusal.TheVariants.{StepLimit, NoRoom}
use Rattle.rules.specs.Flow.{Flow, given_text, Gives}
use Rattle.rules.specs.Table.{view_of}
use Rattle.rules.specs.Text.{Level, innermost, levels_at, deepest}
use Rattle.rules.specs.Working.{none_remain}
use Rattle.rules.specs.Run.{Frame, begin, run}
use Rattle.rules.proofs.FlowLaws.{gives_text, gives_finish}
use Rattle.rules.proofs.RunLaws.{begin_yes, begin_no, choose_yes, choose_no, run_escapes}
use Rattle.pieces.specs.Rest.{Appends}
use Rattle.pieces.proofs.Rests.{append_more}
use Rattle.parameters.specs.Settling.{hand_at}
use Rattle.actions.specs.declared.state.Ran.{Ran}
use Rattle.actions.specs.declared.state.Stop.{Stop}
use Rattle.actions.specs.declared.state.Stop.TheVariants.{Ended, Escaped, Refused}
use Rattle.actions.specs.Ran.{ended_ran}
use Rattle.actions.proofs.Joining.{gave_on, gave_refused, no_end, no_end_left, same_refusal}
use Rattle.running.specs.Runs.{EscapesAt, rest_at, leaving, Strides}
use Rattle.running.proofs.Strides.{strides_none}
use Rattle.stepping.specs.Stepping.{HeldUp}
use Rattle.nesting.specs.Moves.{here_at, on_at, refused_at, Told, comes, Sound, weight, Moves}
use Rattle.nesting.specs.Nest.{frames_of}
use Rattle.nesting.specs.declared.moves.Here.{Here}
use Rattle.nesting.specs.declared.moves.Moved.{Moved}
use Rattle.nesting.specs.declared.nests.Nest.{Nest}
use Rattle.nesting.proofs.MoveLaws.{hand_in, lies, moves_on, moves_as, moves_refused}
use Rattle.nesting.proofs.NestLaws.{frames_length}
use Rattle.filling.specs.declared.steps.Step.{Step}
use Rattle.filling.specs.declared.giving.Reach.{Reach}
use Rattle.filling.specs.declared.giving.Reach.TheVariants.{On, Over, Full}
use Rattle.filling.specs.Filling.{put_over, to_give, goes_on, Advances, step_of}
use Rattle.filling.specs.Steps.{is_no_room, unheld_by, unheld, is_on, Standing, RunsAhead}
use Rattle.filling.proofs.StepLaws.{over_on, over_full, false_true, refused_appends, steps_on, advances_join}

-- how a run of short directives stands
is_room : (k : Refusal) → Dec (k ≡ NoRoom)
is_room NoRoom = yes refl
is_room k = no (λ e. let z : ◌≡◌ {A = ℕ} 0 1 = cc in omega arith)

not_room : (k : Refusal) → (k ≡ NoRoom → ⊥) → is_no_room k ≡ false
not_room NoRoom n = absurd (n refl)
not_room k n = refl

-- a run of short directives that found no room, as it stands then
module _ (t table : List ℕ) (h : Here) (given at : ℕ) (b e : List ℕ) (r : Ran) where
  abbrev Ahead : Ran → Type 0
  Ahead x = (level : ℕ) → Strides (levels_at t) (length t) (view_of table) (hand_at h.hand) level h.place h.next.0 h.left at b e x

  pub unheld_ahead : given ≡ 0 → Ahead r → HeldUp (levels_at t) (length t) (view_of table) (hand_at h.hand) h.place h.next.0 h.left at b e r → (r.stop ≡ Escaped → ⊥)
      → {s : Ran} → s ≡ unheld r → RunsAhead t table h given at b e s
  unheld_ahead z d u n q = subst (RunsAhead t table h given at b e) (sym q) (by r.stop refl)
    where
      same : (f : Fault) → r.stop ≡ Refused f → (f.refusal ≡ NoRoom → ⊥) → RunsAhead t table h given at b e r
      same f k c = record { does = d; none = λ g. absurd (g z); stays = n; finds = λ p w. c (ap (λ (y : Fault). y.refusal) (same_refusal k w)) }

      by : (x : Stop) → r.stop ≡ x → RunsAhead t table h given at b e (unheld_by x r)
      by Ended k = record { does = d; none = λ g. absurd (g z); stays = n; finds = λ p f. no_end f k }
      by Escaped k = absurd (n k)
      by (Refused f) k =
          elim (is_room f.refusal) [
            | yes c ↦
                rw c
                (record { does = u f.position (k ∙ ap (λ (y : Refusal). Refused (record { refusal = y; position = f.position })) c); none = λ g. absurd (g z); stays = λ f. no_end_left f refl; finds = λ p f. no_end f refl })
            | no c ↦ rw (not_room f.refusal c) (same f k c)
          ]

-- nothing runs ahead
module _ (t table : List ℕ) (h : Here) (given at : ℕ) (b e : List ℕ) where
  pub none_ahead : (given ≡ 0 → ⊥) → h.place ≤ length t → at ≤ length b → h.next.0 ≤ h.hand.count → {s : Ran} → s ≡ ended_ran h.next.0 h.left at h.place → e ≡ b → RunsAhead t table h given at b e s
  none_ahead z p l n {s} q w =
      subst (λ (x : List ℕ). RunsAhead t table h given at b x s) (sym w)
      (record {
        does = λ level. strides_none (levels_at t) (length t) (view_of table) h.hand.first.0 h.hand.count level h.place h.next.0 h.left at b s q p l n;
        none = λ _. (q, refl);
        stays = λ f. no_end_left f (ap (λ (x : Ran). x.stop) q);
        finds = λ x f. no_end f (ap (λ (x : Ran). x.stop) q);
      })

-- an item after what ran ahead of it
module _ (t table : List ℕ) (h : Here) (o : Nest) (given at : ℕ) (b e : List ℕ) (r : Ran) (y : Standing t table h o at b) (u : RunsAhead t table h given at b e r) where
  abbrev ks : List Frame
  ks = frames_of (levels_at t) o o.depth

  abbrev there : Here
  there = here_at r.place r.left h.hand r.next

  abbrev level : ℕ
  level = 8 - o.depth

  deep : length ks + level ≡ deepest
  deep = omega (arith, frames_length (levels_at t) o o.depth, y.sound.depth)

  ran : Strides (levels_at t) (length t) (view_of table) (hand_at h.hand) level h.place h.next.0 h.left at b e r
  ran = u.does level

  size : length e ≡ length b
  size = ran.does.size

  pub ahead_room : r.at ≤ length e
  ahead_room = omega (arith, ran.does.most, size)

  appends : {g : Flow} → Gives (take at b) (comes t table h o) (take r.at e) g → Appends (given_text (comes t table h o)) at b e r.at (given_text g)
  appends g = record { joined = gives_text g; size = size; behind = ran.does.rest; least = ran.does.least; most = ran.does.most }

  module _ (q : r.stop ≡ Ended) where
    ahead_sound : Sound (length t) table there o
    ahead_sound =
        steps_on r.place r.left r.next y.sound (ran.most q) ran.does.falls
        (lies table h.hand r.next.0 (hand_in table h.hand h.next.0 y.accepted y.sound.hand) ran.does.inside)

    pub ahead_standing : Standing t table there o r.at e
    ahead_standing = record { accepted = y.accepted; sound = ahead_sound; room = ahead_room }

    ahead_gives : Gives (take at b) (comes t table h o) (take r.at e) (comes t table there o)
    ahead_gives = gave_on (ran.does.same ks deep) q

    pub ahead_item : {e' : List ℕ} {s : Step} → Advances t table (to_give given (comes t table there o)) r.left (weight there o) r.at e e' s
        → Advances t table (to_give given (comes t table h o)) h.left (weight h o) at b e' s
    ahead_item {e'} {s} v = elim (dec_eq given 0) [ yes z ↦ from_none z | no z ↦ as_it_was (u.none z) ]
      where
        from_none : given ≡ 0 → Advances t table (to_give given (comes t table h o)) h.left (weight h o) at b e' s
        from_none z =
            let w : Advances t table (to_give 0 (comes t table there o)) r.left (weight there o) r.at e e' s =
            subst (λ (k : ℕ). Advances t table (to_give k (comes t table there o)) r.left (weight there o) r.at e e' s) z v in
            subst (λ (k : ℕ). Advances t table (to_give k (comes t table h o)) h.left (weight h o) at b e' s) (sym z)
            (record {
              written = append_more (appends ahead_gives) w.written;
              finish = gives_finish ahead_gives ∙ w.finish;
              steps = omega (arith, w.steps, ran.does.falls);
              sound = w.sound;
              falls = λ k. omega (arith, w.falls k, ran.does.falls);
              full = λ k. ((w.full k).0 ∙ size, (w.full k).1);
            })

        as_it_was : (r ≡ ended_ran h.next.0 h.left at h.place) × (e ≡ b) → Advances t table (to_give given (comes t table h o)) h.left (weight h o) at b e' s
        as_it_was n =
            subst (λ (x : List ℕ). Advances t table (to_give given (comes t table h o)) h.left (weight h o) at x e' s) n.1
            (subst (λ (x : Ran). Advances t table (to_give given (comes t table (here_at x.place x.left h.hand x.next) o)) x.left (weight (here_at x.place x.left h.hand x.next) o) x.at e e' s) n.0 v)

  pub ahead_refused : {fault : Fault} {s : Step} → r.stop ≡ Refused fault → s ≡ step_of o (put_over (Err fault) there r.at) → Advances t table (to_give given (comes t table h o)) h.left (weight h o) at b e s
  ahead_refused {fault} {s} q w = elim (dec_eq given 0) [ yes z ↦ from_none z | no z ↦ absurd (no_end q (ap (λ (k : Ran). k.stop) (u.none z).0)) ]
    where
      from_none : given ≡ 0 → Advances t table (to_give given (comes t table h o)) h.left (weight h o) at b e s
      from_none z =
          let g = gave_refused (ran.does.same ks deep) fault q (λ c. u.finds fault.position (q ∙ ap (λ (k : Refusal). Refused (record { refusal = k; position = fault.position })) c)) in
          subst (λ (k : ℕ). Advances t table (to_give k (comes t table h o)) h.left (weight h o) at b e s) (sym z)
          (subst (Advances t table (to_give 0 (comes t table h o)) h.left (weight h o) at b e) (sym w)
          (record {
            written = refused_appends (code_of fault.refusal) fault.position r.left (appends g);
            finish = gives_finish g;
            steps = ran.does.falls;
            sound = λ k. absurd (false_true k);
            falls = λ k. absurd (over_on k);
            full = λ k. absurd (over_full k);
          }))

-- an escape
module _ (t table : List ℕ) (h : Here) (o : Nest) (q : ℕ) (a : EscapesAt (levels_at t) h.place h.place q) where
  abbrev frames : List Frame
  frames = frames_of (levels_at t) o o.depth

  escapes : comes t table h o ≡ begin h.place h.left (λ m. choose (none_remain (hand_at h.hand h.next.0)) (λ _. leaving (view_of table) frames (hand_at h.hand) m h.next.0)
      (λ _. run (view_of table) m (rest_at (levels_at t) q) frames (hand_at h.hand h.next.0)))
  escapes =
      ap (λ (y : List Level). run (view_of table) h.left (innermost y).rest frames (hand_at h.hand h.next.0)) a.is
      ∙ run_escapes (view_of table) (hand_at h.hand h.next.0) h.place (rest_at (levels_at t) q) frames h.left

  pub escape_none : {r : Moved} → h.left ≡ 0 → r ≡ refused_at StepLimit h.place h o → Moves t table (comes t table h o) h.left (weight h o) r
  escape_none z e = moves_refused t table e (escapes ∙ begin_no h.place h.left _ z) (omega arith)

  module _ (z : h.left ≡ 0 → ⊥) where
    abbrev x : Here
    x = here_at q (h.left - 1) h.hand h.next

    pub escape_leaves : {r : Moved} → h.hand.count ≤ h.next.0
        → Moves t table (leaving (view_of table) frames (hand_at x.hand) x.left x.next.0) x.left (weight x o + 1) r → Moves t table (comes t table h o) h.left (weight h o) r
    escape_leaves {r} n m =
        moves_as t table (escapes ∙ begin_yes h.place h.left _ z ∙ choose_yes _ _ (le-leb h.hand.count h.next.0 n)) (omega arith) (omega arith) m

    pub escape_sound : Sound (length t) table h o → q ≤ length t → Sound (length t) table x o
    escape_sound s l = steps_on q (h.left - 1) h.next s l (omega arith) s.hand

    pub escape_stays : {r : Moved} → h.next.0 < h.hand.count → Sound (length t) table h o → q ≤ length t → r ≡ on_at x o
        → Moves t table (comes t table h o) h.left (weight h o) r
    escape_stays {r} n s l e =
        moves_on t table {h = x} e
        (escapes ∙ begin_yes h.place h.left _ z ∙ choose_no _ _ (lt-leb h.hand.count h.next.0 n))
        (omega arith) (steps_on q (h.left - 1) h.next s l (omega arith) s.hand) (omega arith)

-- the loop over steps: whatever ends from here is the whole
pub record Going (t table : List ℕ) (x : Told) (left heavy from : ℕ) (b₀ : List ℕ) (h : Here) (o : Nest) (given at : ℕ) (b : List ℕ) : Type 0 where
  pub ends : (e : List ℕ) (r : Step) → Advances t table (to_give given (comes t table h o)) h.left (weight h o) at b e r → Advances t table x left heavy from b₀ e r
  pub standing : Standing t table h o at b
  pub size : length b ≡ length b₀

pub going_first : (t table : List ℕ) (h : Here) (o : Nest) (given at : ℕ) (b : List ℕ) → Standing t table h o at b → Going t table (to_give given (comes t table h o)) h.left (weight h o) at b h o given at b
going_first t table h o given at b s = record { ends = λ e r v. v; standing = s; size = refl }

pub is_on_lem : (y : Reach) → is_on y ≡ true → y ≡ On
is_on_lem On q = refl
is_on_lem (Over out) q = absurd (false_true q)
is_on_lem Full q = absurd (false_true q)

pub going_on : {t table : List ℕ} {x : Told} {left heavy from : ℕ} {b₀ : List ℕ} {h : Here} {o : Nest} {given at : ℕ} {b : List ℕ} → Going t table x left heavy from b₀ h o given at b → {e : List ℕ} {r : Step}
    → Advances t table (to_give given (comes t table h o)) h.left (weight h o) at b e r → is_on r.put.reach ≡ true → Going t table x left heavy from b₀ r.put.progress.here r.nest r.put.progress.given r.put.progress.at e
going_on {t} {table} {x} {left} {heavy} {from} {b₀} {h} {o} {given} {at} {b} g {e} {r} v k =
    let z = is_on_lem r.put.reach k in
    record {
      ends = λ e' r' w. g.ends e' r' (advances_join t table _ h.left (weight h o) at b e v z w);
      standing = record { accepted = g.standing.accepted; sound = v.sound (ap goes_on z); room = omega (arith, v.written.most, v.written.size) };
      size = v.written.size ∙ g.size;
    }
