-- What an ordinary item does with the arguments: a piece reads the next argument, or again the one before.
-- Assumes nothing.
use Prim.Native.Nat.{ℕ, suc, ◌-◌, ◌≤◌, ◌<◌}
use mathlib.Core.Path.{◌≡◌, refl, subst⁻¹}
use mathlib.Core.Logic.{◌⊎◌, inl, inr}
use mathlib.Core.Bool.{Bool, true, false, cond}
use native.Mathlib.Omega.{arith}
use lib.Dec.{ltb, eqb}
use borrow.Author.Tests.{ltb-true, eqb-false}
use lib.ListN.{length}
use Rattle.rules.specs.Act.{Act, writes, shows, moves, refuses, act_from, act_by, act_after, act_of}
use Rattle.rules.specs.Rows.{form_row, form_places, accepts}
use Rattle.rules.specs.Piece.{kind_of}
use Rattle.rules.specs.Table.{Value, boolean, character}
use Rattle.rules.specs.Working.{Settled, settled, unsettled, settings_of, settle_all, own, back, given, glyph_source, source_by}
use Rattle.rules.specs.declared.Code.{Code}
use Rattle.rules.specs.declared.Directive.{Directive}
use Rattle.rules.specs.declared.Form.{Form}
use Rattle.rules.specs.declared.Item.{Item}
use Rattle.rules.specs.declared.Item.TheVariants.{End, Literal, Written, BadNumber, Unfinished}
use Rattle.rules.specs.declared.Origin.{Origin}
use Rattle.rules.specs.declared.Origin.TheVariants.{Nowhere, Next as NextArgument, NextOrBack, NextOrNumber}
use Rattle.rules.specs.Setting.{Setting}
use Rattle.std.specs.Prelude.{None, Some}
use Rattle.rules.specs.declared.Settings.{Settings}
use Rattle.rules.proofs.FormLaws.{takes_number}
use Rattle.vet_rules.specs.Use.{in_hand, no_entries, use_of}
use Rattle.vet_rules.specs.Worst.{most_piece}
use Rattle.vet_rules.proofs.Forms.{piece_bound, piece_most}
use Rattle.vet_rules.proofs.Ordinary.{PlainDirective, Ordinary}
use Rattle.vet_rules.proofs.Settling.{Ranged, Settles, settle_placed, directive_suits, settled_as_lem}
use Rattle.vet_rules.proofs.Values.{Allowed}

-- the text of argument i, where `next` is the next one, and `after` then
pub record Shown (count next : ℕ) (f : Form) (s : Settings) (i after : ℕ) : Type 0 where
  pub inside : i < count
  pub ranged : Ranged f s
  pub how :
      ((i ≡ next) × (after ≡ suc next)) ⊎ (((form_row f).origin ≡ NextOrBack) × (suc i ≡ next) × (after ≡ next))

abbrev pub Within : ℕ → ℕ → Act → Type 0
Within count next (writes text after) = (after ≡ next) × (length text ≤ most_piece)
Within count next (shows f d s i after) = Shown count next f s i after
Within count next (moves after) = ⊥
Within count next (refuses code) = (6 ≤ code) × (code ≤ 8)

-- what holds of both outcomes of a test holds of the one that it has
pub by_test : {A : Type 0} (P : A → Type 0) (b : Bool) (x y : A) → (b ≡ true → P x) → (b ≡ false → P y) → P (cond b x y)
by_test P true x y f g = f refl
by_test P false x y f g = g refl

module _ (count : ℕ) (d : Directive) (s : Settings) (next : ℕ) (f : Form) (w : Ranged f s) where
  own_within : Within count next (act_from count f d s next own)
  own_within =
      by_test (Within count next) (ltb next count) _ _
      (λ h. record { inside = ltb-true next count h; ranged = w; how = inl (refl, omega arith) })
      (λ _. (omega arith, omega arith))

  back_within : (form_row f).origin ≡ NextOrBack → Within count next (act_from count f d s next back)
  back_within o =
      by_test (Within count next) (eqb next 0) _ _ (λ _. (omega arith, omega arith))
      (λ z. by_test (Within count next) (ltb (next - 1) count) _ _
      (λ h. let n : next ≡ 0 → ⊥ = eqb-false next 0 z in record { inside = ltb-true (next - 1) count h; ranged = w; how = inr (o, omega arith, refl) })
      (λ _. (omega arith, omega arith)))

  -- the text of a value that is given
  given_within : (v : Value) → Allowed 0 v → Within count next (act_from count f d s next (given v))
  given_within v a =
      by_test (Within count next) (accepts f (kind_of v)) _ _
      (λ k. (refl, omega (arith, piece_bound 0 f d.colon d.atsign s v w k a, piece_most 0 f d.colon d.atsign s (kind_of v) (omega arith) w)))
      (λ _. (omega arith, omega arith))

  number_within : (form_row f).origin ≡ NextOrNumber → (x : Setting) → s.first ≡ x
      → Within count next (act_from count f d s next (glyph_source x))
  number_within o None e = own_within
  number_within o (Some n) e =
      let i : (0 ≤ n) × (n ≤ 127) = rw (e, (takes_number f o).place) at w.places.first in
      given_within (character n) (omega (arith, i.1))

  back_or_own : (colon : Bool) → (form_row f).origin ≡ NextOrBack → Within count next (act_from count f d s next (cond colon back own))
  back_or_own true o = back_within o
  back_or_own false o = own_within

  origin_within : (o : Origin) → (form_row f).origin ≡ o → Within count next (act_from count f d s next (source_by o d.colon s))
  origin_within Nowhere o = given_within (boolean false) tt
  origin_within NextArgument o = own_within
  origin_within NextOrBack o = back_or_own d.colon o
  origin_within NextOrNumber o = number_within o s.first refl

settled_within : (count : ℕ) (d : Directive) (w : PlainDirective d) (next : ℕ) (z : Settled)
    → Settles (form_places w.form) next z
    → Within count next (act_after count d z)
settled_within count d w next (settled ss after) h =
    let s = settings_of ss in
    rw h.0
    (subst⁻¹ (λ (k : Code). Within count next (act_by count d k s next)) w.code
    (origin_within count d s next w.form (record { base = w.based; places = h.1 }) (form_row w.form).origin refl))
settled_within count d w next (unsettled code) h = h

pub use_within : (count : ℕ) (x : Item) (next : ℕ) → Ordinary x → Within count next (use_of count x next)
unfolding act_of
use_within count End next o = absurd o
use_within count (Literal b) next o = (refl, omega arith)
use_within count (Written d) next w =
    let c = in_hand count next in
    subst⁻¹ (λ (z : Settled). Within count next (act_after count d z)) (settled_as_lem no_entries c d w.form w.code w.written)
    (settled_within count d w next (settle_all no_entries c (form_places w.form) d.parameters next)
    (settle_placed c (form_places w.form) d.parameters next w.fixed (directive_suits d w)))
use_within count BadNumber next o = absurd o
use_within count Unfinished next o = absurd o
