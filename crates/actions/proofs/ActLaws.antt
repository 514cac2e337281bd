-- What a directive that writes or jumps does, arm by arm. Assumes nothing.
use Prim.Native.Nat.{ℕ, ◌+◌, ◌-◌, ◌<◌, ◌≤◌}
use mathlib.Core.Path.{◌≡◌, refl, sym, ap, subst, ◌∙◌}
use mathlib.Core.Bool.{Bool, true, false, cond}
use mathlib.Core.List.{List}
use native.Mathlib.Omega.{arith}
use borrow.Author.Tests.{lt-ltb, le-ltb, le-leb, lt-leb, eq-eqb, ne_eqb}
use lib.ListN.{length}
use Rattle.rules.specs.Choice.{choose}
use Rattle.rules.specs.Act.{writes, refuses, jump_to, jump, act_by, act_after, act_of}
use Rattle.rules.specs.Rows.{places_in, well_written, accepts}
use Rattle.rules.specs.Table.{View, Value}
use Rattle.rules.specs.Piece.{or_else, text_of, kind_of}
use Rattle.rules.specs.Working.{Context, argument_in, Settled, settled, unsettled, settle_all, settle_directive, own, back, given, source_of}
use Rattle.rules.specs.Flow.{done, Finish, finish_of}
use Rattle.rules.specs.Run.{Flow, refused, put, on_settled, write, joined, item_acts, write_from, with_settings}
use Rattle.rules.specs.declared.Code.{Code}
use Rattle.rules.specs.declared.Code.TheVariants.{Writes, Jump}
use Rattle.rules.specs.declared.Directive.{Directive}
use Rattle.rules.specs.declared.Form.{Form}
use Rattle.rules.specs.declared.Item.TheVariants.{Written}
use Rattle.rules.specs.Refusals.{code_of}
use Rattle.rules.specs.declared.Settings.{Settings}
use Rattle.rules.specs.declared.refusal.Fault.{Fault}
use Rattle.rules.specs.declared.refusal.Refusal.{Refusal}
use Rattle.rules.specs.declared.refusal.Refusal.TheVariants.{NoRoom}
use Rattle.rules.proofs.FlowLaws.{gives_finish}
use Rattle.rules.proofs.RunLaws.{choose_yes, choose_no}
use Rattle.actions.specs.declared.state.Ran.{Ran}
use Rattle.actions.specs.declared.state.Stop.TheVariants.{Escaped}
use Rattle.actions.specs.declared.state.Spot.{Spot}
use Rattle.actions.specs.Acting.{Performed, Untouched}
use Rattle.actions.specs.Ran.{refused_ran, ended_ran, gives, lacks, Performs}
use Rattle.actions.proofs.Joining.{stays, here, said, from, gave_left, no_end, no_left, same_refusal}
use Rattle.actions.proofs.Buffer.{Put, put_gives, put_lacks}

-- what is refused, and what goes on under another name
module _ {f : (ℕ → Flow) → Flow} {count m at : ℕ} {b : List ℕ} where
  pub performs_refused : (refusal : Refusal) (p i place : ℕ) → ((on : ℕ → Flow) → f on ≡ refused (code_of refusal) p m) → at ≤ length b → i ≤ count
      → Performs f count m at b b (refused_ran refusal p i m at place)
  performs_refused refusal p i place h l k = stays _ (λ on out. here _ refl (h _)) refl (omega arith) l k

  pub performs_on : (i place : ℕ) → ((on : ℕ → Flow) → f on ≡ on i) → at ≤ length b → i ≤ count → Performs f count m at b b (ended_ran i m at place)
  performs_on i place h l k = stays _ (λ on out. here _ refl (h _)) refl (omega arith) l k

pub performs_as : (f g : (ℕ → Flow) → Flow) {count m at : ℕ} {b e : List ℕ} {r : Ran} → ((on : ℕ → Flow) → f on ≡ g on) → Performs g count m at b e r → Performs f count m at b e r
performs_as f g {r = r} h d = said r d refl refl (omega arith) d.inside (λ on out. from (h _) (d.same on out))

-- a piece that is put, and one for which there is no room
module _ (p m next at count place : ℕ) (b w : List ℕ) where
  pub performs_put : {e : List ℕ} → Put b at w e → next ≤ count → Performs (λ on. put p m w (on next)) count m at b e (ended_ran next m (at + length w) place)
  performs_put u k =
      record {
        same = λ on out. gives (put_gives b w p m at _ u);
        size = u.size;
        rest = u.rest;
        least = omega arith;
        most = u.room;
        falls = omega arith;
        inside = k;
      }

  pub performs_full : (i : ℕ) → at ≤ length b → length b < at + length w → i ≤ count → Performs (λ on. put p m w (on next)) count m at b b (refused_ran NoRoom p i m at place)
  performs_full i l h k = stays _ (λ on out. lacks refl (put_lacks b w p m at _ l h)) refl (omega arith) l k

module _ (v : View) (p m : ℕ) (d : Directive) (c : Context) where
  -- the parameters of a directive that is well written, and of one that is not
  pub settings_well : (on : Settings → ℕ → Flow) → well_written d ≡ true
      → with_settings v p m d c on ≡ on_settled p m (settle_all v c (places_in d) d.parameters c.next) on
  settings_well on h = rw h

  pub settings_ill : (on : Settings → ℕ → Flow) → well_written d ≡ false → with_settings v p m d c on ≡ refused 5 p m
  settings_ill on h = rw h

  module _ (f : Form) (s : Settings) (on : ℕ → Flow) where
    -- the piece of a value of a kind that the form takes, and of another
    pub write_yes : {colon atsign : Bool} (x : Value) (next : ℕ) → d.colon ≡ colon → d.atsign ≡ atsign → accepts f (kind_of x) ≡ true → write p m f d s x next on ≡ put p m (text_of f colon atsign s x) (on next)
    write_yes x next q r h = choose_yes _ _ h ∙ rw (q, r)

    pub write_no : (x : Value) (next : ℕ) → accepts f (kind_of x) ≡ false → write p m f d s x next on ≡ refused 7 p m
    write_no x next h = choose_no _ _ h

    module _ (next : ℕ) where
      pub from_own : next < c.count → write_from v p m f d c s next on own ≡ write p m f d s (argument_in v c next) (next + 1) on
      from_own h = rw (lt-ltb next c.count h)

      pub from_own_none : c.count ≤ next → write_from v p m f d c s next on own ≡ refused 6 p m
      from_own_none h = rw (le-ltb next c.count h)

      pub from_back : (next ≡ 0 → ⊥) → next - 1 < c.count → write_from v p m f d c s next on back ≡ write p m f d s (argument_in v c (next - 1)) next on
      from_back z h = rw (ne_eqb next 0 z, lt-ltb (next - 1) c.count h)

      pub from_back_none : next ≡ 0 → write_from v p m f d c s next on back ≡ refused 6 p m
      from_back_none z = rw (eq-eqb next 0 z)

      pub from_given : (x : Value) → write_from v p m f d c s next on (given x) ≡ write p m f d s x next on
      from_given x = by (accepts f (kind_of x))
        where
          text : List ℕ
          text = text_of f d.colon d.atsign s x

          by : (b : Bool) → joined (λ i. argument_in v c i) p m (cond b (writes text next) (refuses 7)) on
              ≡ choose b (λ _. put p m text (on next)) (λ _. refused 7 p m)
          by true = refl
          by false = refl

-- the same at a spot, with the answer as it is told
module _ {f : (ℕ → Flow) → Flow} {count : ℕ} {spot : Spot} where
  pub performed_refused : {b : List ℕ} (r : Ran) (refusal : Refusal) (i : ℕ) → r ≡ refused_ran refusal spot.position i spot.left spot.at spot.place
      → ((on : ℕ → Flow) → f on ≡ refused (code_of refusal) spot.position spot.left) → spot.at ≤ length b → i ≤ count → Performed f count spot b b r
  performed_refused {b} r refusal i q h l k =
      subst (Performed f count spot b b) (sym q) (record { does = performs_refused refusal spot.position i spot.place h l k; place = refl })

  pub performed_on : {b : List ℕ} (r : Ran) (i : ℕ) → r ≡ ended_ran i spot.left spot.at spot.place → ((on : ℕ → Flow) → f on ≡ on i) → spot.at ≤ length b → i ≤ count
      → Performed f count spot b b r
  performed_on {b} r i q h l k = subst (Performed f count spot b b) (sym q) (record { does = performs_on i spot.place h l k; place = refl })

  pub performed_as : (g : (ℕ → Flow) → Flow) {b e : List ℕ} {r : Ran} → ((on : ℕ → Flow) → f on ≡ g on) → Performed g count spot b e r → Performed f count spot b e r
  performed_as g h d = record { does = performs_as f g h d.does; place = d.place }

module _ (spot : Spot) (next count : ℕ) (b w : List ℕ) (r : Ran) where
  pub performed_put : {e : List ℕ} → r ≡ ended_ran next spot.left (spot.at + length w) spot.place → Put b spot.at w e → next ≤ count
      → Performed (λ on. put spot.position spot.left w (on next)) count spot b e r
  performed_put {e} q u k =
      subst (Performed (λ on. put spot.position spot.left w (on next)) count spot b e) (sym q)
      (record { does = performs_put spot.position spot.left next spot.at count spot.place b w u k; place = refl })

  pub performed_full : (i : ℕ) → r ≡ refused_ran NoRoom spot.position i spot.left spot.at spot.place → spot.at ≤ length b → length b < spot.at + length w → i ≤ count
      → Performed (λ on. put spot.position spot.left w (on next)) count spot b b r
  performed_full i q l h k =
      subst (Performed (λ on. put spot.position spot.left w (on next)) count spot b b) (sym q)
      (record { does = performs_full spot.position spot.left next spot.at count spot.place b w i l h k; place = refl })

-- what goes on is not refused, and what is refused as it is met has written nothing
module _ {spot : Spot} {i : ℕ} {b : List ℕ} (r : Ran) where
  pub untouched_on : {next left at place : ℕ} {e : List ℕ} → r ≡ ended_ran next left at place → Untouched spot i b e r
  untouched_on q = record { is = λ f h. absurd (no_end h (ap (λ (y : Ran). y.stop) q)) }

  pub untouched_refused : (refusal : Refusal) → r ≡ refused_ran refusal spot.position i spot.left spot.at spot.place → Untouched spot i b b r
  untouched_refused refusal q = record {
    is = λ f h.
        let k = ap (λ (z : Fault). z.refusal) (same_refusal (ap (λ (y : Ran). y.stop) q) h) in
        (q ∙ ap (λ (z : Refusal). refused_ran z spot.position i spot.left spot.at spot.place) k, refl);
  }

-- neither leaves a sequence: the flow would have to go on by whatever comes after that
pub performed_stays : {f : (ℕ → Flow) → Flow} {count : ℕ} {spot : Spot} {b e : List ℕ} {r : Ran} → Performed f count spot b e r → r.stop ≡ Escaped → ⊥
performed_stays {f} {spot = spot} d q =
    let z : ◌≡◌ {A = ℕ} 0 1 = ap (λ (x : Finish). x.code) (sym (ends 0) ∙ ends 1) in
    omega arith
  where
    ends : (n : ℕ) → finish_of (f (λ i. done spot.left i)) ≡ finish_of (refused n 0 0)
    ends n = gives_finish (gave_left (d.does.same (λ l i. done l i) (λ l i. refused n 0 0)) q)

pub refused_stays : {refusal : Refusal} {p i left at place : ℕ} {r : Ran} → r ≡ refused_ran refusal p i left at place → r.stop ≡ Escaped → ⊥
refused_stays h q = no_left (ap (λ (y : Ran). y.stop) h) q

-- jumps
module _ (count : ℕ) (d : Directive) (s : Settings) (next : ℕ) where
  pub jump_at : d.atsign ≡ true → jump count d s next ≡ jump_to count (or_else s.first 0)
  jump_at h = rw h

  pub jump_back : d.atsign ≡ false → d.colon ≡ true → or_else s.first 1 ≤ next → jump count d s next ≡ jump_to count (next - or_else s.first 1)
  jump_back h k l = rw (h, k, le-leb (or_else s.first 1) next l)

  pub jump_before : d.atsign ≡ false → d.colon ≡ true → next < or_else s.first 1 → jump count d s next ≡ refuses 6
  jump_before h k l = rw (h, k, lt-leb (or_else s.first 1) next l)

  pub jump_forth : d.atsign ≡ false → d.colon ≡ false → jump count d s next ≡ jump_to count (next + or_else s.first 1)
  jump_forth h k = rw (h, k)

-- what a directive that acts does, by its code
module _ (v : View) (p m : ℕ) (d : Directive) (c : Context) (on : ℕ → Flow) where
  acts_by : (k : Code) → d.code ≡ k → item_acts v p m (Written d) c on
      ≡ with_settings v p m d c (λ s next. joined (λ i. argument_in v c i) p m (act_by c.count d k s next) on)
  unfolding act_of
  acts_by k q = by (settle_directive v c d)
    where
      by : (z : Settled) → joined (λ i. argument_in v c i) p m (act_after c.count d z) on
          ≡ on_settled p m z (λ s next. joined (λ i. argument_in v c i) p m (act_by c.count d k s next) on)
      by (settled ss next) = rw q
      by (unsettled code) = refl

  pub acts_writes : (f : Form) → d.code ≡ Writes f → item_acts v p m (Written d) c on ≡ with_settings v p m d c (λ s next. write_from v p m f d c s next on (source_of f d.colon s))
  acts_writes f q = acts_by (Writes f) q

  pub acts_jump : d.code ≡ Jump → item_acts v p m (Written d) c on ≡ with_settings v p m d c (λ s next. joined (λ i. argument_in v c i) p m (jump c.count d s next) on)
  acts_jump q = acts_by Jump q
