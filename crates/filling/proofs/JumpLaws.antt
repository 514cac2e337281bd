-- What a jump does: it goes on with another argument, or is refused. Assumes nothing.
use Prim.Native.Nat.{ℕ, ◌+◌, ◌-◌}
use mathlib.Core.Path.{◌≡◌, refl, sym, ap, subst, ◌∙◌}
use mathlib.Core.Bool.{Bool, true, false, cond}
use mathlib.Core.List.{List, []}
use native.Mathlib.Omega.{arith}
use lib.Dec.{leb}
use Rattle.rules.specs.Flow.{Flow, done, refused, put, Stretch, still}
use Rattle.rules.specs.Act.{Act, writes, shows, moves, refuses, jump_to, jump, act_after, act_of}
use Rattle.rules.specs.Table.{Value, View}
use Rattle.rules.specs.Piece.{or_else}
use Rattle.rules.specs.Working.{Context, argument_in, Settled, settled, unsettled, settings_of, settle_directive}
use Rattle.rules.specs.Run.{joined, item_acts}
use Rattle.rules.specs.declared.Code.TheVariants.{Jump}
use Rattle.rules.specs.declared.Directive.{Directive}
use Rattle.rules.specs.declared.Item.TheVariants.{Written}
use Rattle.rules.specs.declared.Settings.{Settings}
use Rattle.actions.specs.declared.state.Ran.{Ran}
use Rattle.actions.specs.declared.state.Spot.{Spot}
use Rattle.actions.specs.declared.state.Stop.{Stop}
use Rattle.actions.specs.declared.state.Stop.TheVariants.{Ended, Escaped, Refused}
use Rattle.actions.specs.Ran.{onward as comes_after, Same, gives, lacks}
use Rattle.actions.specs.Acting.{Performed}
use Rattle.actions.proofs.ActLaws.{performed_stays}

-- what neither writes nor asks what follows
pub data Silent (f : (ℕ → Flow) → Flow) : Type 0 where
  goes : (i : ℕ) → ((on : ℕ → Flow) → f on ≡ on i) → Silent f
  stops : (code p left : ℕ) → ((on : ℕ → Flow) → f on ≡ refused code p left) → Silent f

-- an act that has no text is so
abbrev NoText : Act → Type 0
NoText (writes text i) = ⊥
NoText (shows f d s i next) = ⊥
NoText (moves i) = Unit {0}
NoText (refuses code) = Unit {0}

silent_act : (value : ℕ → Value) (p m : ℕ) (a : Act) → NoText a → Silent (λ on. joined value p m a on)
silent_act value p m (writes text i) h = absurd h
silent_act value p m (shows f d s i next) h = absurd h
silent_act value p m (moves i) h = goes i (λ on. refl)
silent_act value p m (refuses code) h = stops code p m (λ on. refl)

either_none : (t : Bool) (a b : Act) → NoText a → NoText b → NoText (cond t a b)
either_none true a b h k = h
either_none false a b h k = k

module _ (count : ℕ) where
  to_none : (k : ℕ) → NoText (jump_to count k)
  to_none k = either_none (leb k count) (moves k) (refuses 6) tt tt

  jump_none : (d : Directive) (s : Settings) (i : ℕ) → NoText (jump count d s i)
  jump_none d s i =
      let n = or_else s.first 1 in
      either_none d.atsign (jump_to count (or_else s.first 0)) _ (to_none (or_else s.first 0))
      (either_none d.colon (cond (leb n i) (jump_to count (i - n)) (refuses 6)) (jump_to count (i + n))
      (either_none (leb n i) (jump_to count (i - n)) (refuses 6) (to_none (i - n)) tt) (to_none (i + n)))

  after_none : (d : Directive) → d.code ≡ Jump → (z : Settled) → NoText (act_after count d z)
  after_none d q (settled ss i) = rw q (jump_none d (settings_of ss) i)
  after_none d q (unsettled code) = tt

pub silent_jump : (v : View) (p m : ℕ) (c : Context) (d : Directive) → d.code ≡ Jump → Silent (λ on. item_acts v p m (Written d) c on)
unfolding act_of
silent_jump v p m c d q =
    let z = settle_directive v c d in
    silent_act (λ i. argument_in v c i) p m (act_after c.count d z) (after_none c.count d q z)

-- an end is followed by nothing
done_only : {a k : ℕ} {g : Flow} {w : List ℕ} → Stretch (done a k) g w → g ≡ done a k
done_only still = refl

refused_only : {code p l : ℕ} {g : Flow} {w : List ℕ} → Stretch (refused code p l) g w → g ≡ refused code p l
refused_only still = refl

after_done : {f g : Flow} {w : List ℕ} (a k : ℕ) → f ≡ done a k → Stretch f g w → g ≡ done a k
after_done {f} {g} {w} a k q s = done_only (subst (λ (x : Flow). Stretch x g w) q s)

after_refused : {f g : Flow} {w : List ℕ} (code p l : ℕ) → f ≡ refused code p l → Stretch f g w → g ≡ refused code p l
after_refused {f} {g} {w} code p l q s = refused_only (subst (λ (x : Flow). Stretch x g w) q s)

put_done : {p l a k : ℕ} {w : List ℕ} {f : Flow} → ◌≡◌ {A = Flow} (put p l w f) (done a k) → ⊥
put_done e = let z : ◌≡◌ {A = ℕ} 0 1 = cc in omega arith

put_refused : {p l code q a : ℕ} {w : List ℕ} {f : Flow} → ◌≡◌ {A = Flow} (put p l w f) (refused code q a) → ⊥
put_refused e = let z : ◌≡◌ {A = ℕ} 0 1 = cc in omega arith

refused_done : {code p l a k : ℕ} → ◌≡◌ {A = Flow} (refused code p l) (done a k) → ⊥
refused_done e = let z : ◌≡◌ {A = ℕ} 0 1 = cc in omega arith

-- what a silent directive answers is what comes after it
module _ {f : (ℕ → Flow) → Flow} {count : ℕ} {spot : Spot} {r : Ran} (u : Performed f count spot [] [] r) where
  abbrev mark : ℕ → ℕ → Flow
  mark l i = done l i

  marked : Same (f (λ i. mark spot.left i)) mark (λ l i. mark l i) spot.at [] [] r
  marked = u.does.same mark (λ l i. mark l i)

  ends_as : (i : ℕ) → f (λ k. mark spot.left k) ≡ done spot.left i → comes_after mark (λ l k. mark l k) r.stop r.left r.next.0 ≡ done spot.left i
  ends_as i q = by marked
    where
      by : Same (f (λ k. mark spot.left k)) mark (λ l k. mark l k) spot.at [] [] r → comes_after mark (λ l k. mark l k) r.stop r.left r.next.0 ≡ done spot.left i
      by (gives g) = after_done spot.left i q g.stretch
      by (lacks z g) = absurd (put_done (after_done spot.left i q g.gives.stretch))

  refuses_as : (code p l : ℕ) → f (λ k. mark spot.left k) ≡ refused code p l → comes_after mark (λ l k. mark l k) r.stop r.left r.next.0 ≡ refused code p l
  refuses_as code p l q = by marked
    where
      by : Same (f (λ k. mark spot.left k)) mark (λ l k. mark l k) spot.at [] [] r → comes_after mark (λ l k. mark l k) r.stop r.left r.next.0 ≡ refused code p l
      by (gives g) = after_refused code p l q g.stretch
      by (lacks z g) = absurd (put_refused (after_refused code p l q g.gives.stretch))

  pub silent_is : Silent f → (on out : ℕ → ℕ → Flow) → f (λ i. on spot.left i) ≡ comes_after on out r.stop r.left r.next.0
  silent_is (goes i h) on out = by r.stop refl (ends_as i (h _))
    where
      by : (x : Stop) → r.stop ≡ x → comes_after mark (λ l k. mark l k) x r.left r.next.0 ≡ done spot.left i
          → f (λ k. on spot.left k) ≡ comes_after on out r.stop r.left r.next.0
      by Ended q e =
          let a : r.left ≡ spot.left = cc in
          let k : r.next.0 ≡ i = cc in
          h _ ∙ sym (ap (λ (z : Stop). comes_after on out z r.left r.next.0) q ∙ ap (λ (l : ℕ). on l r.next.0) a ∙ ap (λ (j : ℕ). on spot.left j) k)
      by Escaped q e = absurd (performed_stays u q)
      by (Refused fault) q e = absurd (refused_done e)
  silent_is (stops code p l h) on out = by r.stop refl (refuses_as code p l (h _))
    where
      by : (x : Stop) → r.stop ≡ x → comes_after mark (λ a k. mark a k) x r.left r.next.0 ≡ refused code p l
          → f (λ k. on spot.left k) ≡ comes_after on out r.stop r.left r.next.0
      by Ended q e = absurd (refused_done (sym e))
      by Escaped q e = absurd (performed_stays u q)
      by (Refused fault) q e = h _ ∙ sym e ∙ sym (ap (λ (z : Stop). comes_after on out z r.left r.next.0) q)
