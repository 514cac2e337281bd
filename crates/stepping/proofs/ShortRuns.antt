-- A short directive does what the definition has it do, with the settings that are read. Assumes nothing.
use Prim.Native.Nat.{ℕ, ◌+◌, ◌-◌, ◌≤◌}
use mathlib.Core.Path.{◌≡◌, refl, sym, ap, subst, ◌∙◌}
use mathlib.Core.Bool.{false}
use mathlib.Core.List.{List}
use lib.ListN.{length}
use Rattle.rules.specs.Rows.{form_places}
use Rattle.rules.specs.declared.Places.{Places}
use Rattle.rules.specs.Table.{View}
use Rattle.rules.specs.Text.{Level}
use Rattle.rules.specs.Working.{Context, work_out, settle, settle_all, Source, own, source_of}
use Rattle.rules.specs.Run.{Flow, refused, on_settled, write_from}
use Rattle.rules.specs.declared.Directive.{Directive}
use Rattle.rules.specs.declared.Form.{Form}
use Rattle.rules.specs.declared.Item.TheVariants.{Written}
use Rattle.rules.specs.Setting.{Setting}
use Rattle.std.specs.Prelude.{None, Some}
use Rattle.rules.specs.declared.Settings.{Settings}
use Rattle.reader.specs.Shorts.{Brief, form_of, short_form, short_parameters, short_directive, NoneIn, ShortIn}
use Rattle.reader.specs.declared.short.Kind.{Kind}
use Rattle.reader.specs.declared.short.Kind.TheVariants.{Object as ObjectKind, Numeral as NumeralKind, Repeat as RepeatKind}
use Rattle.reader.proofs.ShortLaws.{short_well}
use Rattle.rules.specs.Piece.{or_else}
use Rattle.std.specs.Option.{unwrap_or}
use Rattle.actions.specs.declared.state.Ran.{Ran}
use Rattle.actions.specs.declared.state.Spot.{Spot}
use Rattle.actions.specs.Acting.{Performed}
use Rattle.actions.specs.Ran.{ended_ran, hand}
use Rattle.actions.proofs.ActLaws.{performed_as, acts_writes, settings_well, from_own_none}
use Rattle.running.specs.Runs.{ActsAt, Ahead, Steps, Strides}
use Rattle.running.proofs.Strides.{strides_none}
use Rattle.stepping.specs.Stepping.{short_settings, Unbegun, HeldUp}
use Rattle.stepping.proofs.ItemLaws.{acts_begun}

-- both are written out, so they are worked out to themselves whatever their places
settled : (v : View) (c : Context) (ys : Places) (x y : Setting) (p m : ℕ) (on : Settings → ℕ → Flow)
    → on_settled p m (settle_all v c ys (short_parameters x y) c.next) on ≡ on (short_settings x y) c.next
unfolding settle work_out
settled v c ys None None p m on = refl
settled v c ys (Some n) None p m on = refl
settled v c ys None (Some k) p m on = refl
settled v c ys (Some n) (Some k) p m on = refl

-- a short directive, once it is begun, at the place `here` of whatever gives the sequences
pub short_begun : (s : ℕ → List Level) (n : ℕ) (v : View) (first count level here i left at : ℕ) (b : List ℕ) (w : Brief) (x y : Setting) {p place : ℕ} → ShortIn w x y
    → ActsAt s here p (Written (short_directive (form_of w) x y place)) place → Ahead n here place → (left ≡ 0 → ⊥)
    → {b₂ : List ℕ} {r : Ran} (spot : Spot) → spot ≡ record { position = p; place = place; left = left - 1; at = at }
    → ((d : Directive) → d.colon ≡ false → d.atsign ≡ false
    → Performed (λ on. write_from v spot.position spot.left (form_of w) d (hand first count 0) (short_settings x y) i on (source_of (form_of w) false (short_settings x y))) count spot b b₂ r)
    → Steps s n v (hand first count) level here i left at b b₂ r
short_begun s n v first count level here i left at b w x y {p} {place} u a h z spot o k =
    let d : Directive = short_directive (form_of w) x y place in
    acts_begun s n v first count level here i left at b z h a spot o
    (performed_as _
    (λ on. acts_writes v spot.position spot.left d (hand first count i) on (form_of w) refl
    ∙ settings_well v spot.position spot.left d (hand first count i) _ (short_well w x y place u)
    ∙ settled v (hand first count i) (form_places (form_of w)) x y spot.position spot.left _)
    (k d refl refl))

-- so the run stands before it
pub held_up : (s : ℕ → List Level) (n : ℕ) (v : View) (first count p i left at : ℕ) (b : List ℕ) {e : List ℕ} (r : Ran) → p ≤ n → at ≤ length b → i ≤ count
    → Unbegun p i left at b e r → HeldUp s n v (hand first count) p i left at b e r
held_up s n v first count p i left at b r h l k u x q level =
    let w = u x q in
    subst (λ (y : List ℕ). Strides s n v (hand first count) level p i left at b y (ended_ran r.next.0 (r.left + 1) r.at x)) (sym w.1)
    (strides_none s n v first count level p i left at b _ w.0 h l k)

-- the form g and the settings a and c are those that are read
module _ (v : View) (k : Context) (i count : ℕ) (spot : Spot) (d : Directive) (b e : List ℕ) (r : Ran) where
  abbrev FormWritten : Form → Setting → Setting → Type 0
  FormWritten f x y = Performed (λ on. write_from v spot.position spot.left f d k (short_settings x y) i on (source_of f false (short_settings x y))) count spot b e r

  pub writes_as : {f g : Form} {x y a c : Setting} → g ≡ f → a ≡ x → c ≡ y → FormWritten g a c → FormWritten f x y
  writes_as {f} {g} {x} {y} {a} {c} q w z h =
      subst (λ (y₂ : Setting). FormWritten f x y₂) z (subst (λ (x₂ : Setting). FormWritten f x₂ c) w (subst (λ (f₂ : Form). FormWritten f₂ a c) q h))

-- a directive of the other two kinds takes the next argument
pub own_source : (kind : Kind) (detail : ℕ) (s : Settings) → (kind ≡ RepeatKind → ⊥) → source_of (short_form kind detail) false s ≡ own
own_source ObjectKind detail s h = refl
own_source NumeralKind detail s h = refl
own_source RepeatKind detail s h = absurd (h refl)

pub own_none : (v : View) (k : Context) (i p m : ℕ) (kind : Kind) (detail : ℕ) (s : Settings) (d : Directive) (on : ℕ → Flow)
    → (kind ≡ RepeatKind → ⊥) → k.count ≤ i
    → write_from v p m (short_form kind detail) d k s i on (source_of (short_form kind detail) false s) ≡ refused 6 p m
own_none v k i p m kind detail s d on h l =
    ap (λ (x : Source). write_from v p m (short_form kind detail) d k s i on x) (own_source kind detail s h)
    ∙ from_own_none v p m d k (short_form kind detail) s on i l

-- what suits a form
pub none_absent : (y : Setting) → NoneIn y → y ≡ None
none_absent None h = refl
none_absent (Some c) h = absurd h

pub or_else_is : (x : Setting) (default : ℕ) → unwrap_or x default ≡ or_else x default
or_else_is None default = refl
or_else_is (Some n) default = refl
