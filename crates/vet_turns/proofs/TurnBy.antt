-- The turn of a directive as code works it out: its parameters without a table, and its argument by where it comes from.
-- Assumes nothing.
use Prim.Native.Nat.{ℕ, ◌≤◌}
use mathlib.Core.Path.{◌≡◌, refl, sym, ap, subst, ◌∙◌}
use mathlib.Core.Bool.{true, false, not}
use mathlib.Core.List.{List}
use native.Mathlib.Omega.{arith}
use lib.ListN.{length}
use Rattle.rules.specs.Act.{act_from}
use Rattle.rules.specs.Piece.{glyph_of, text_of, kind_of}
use Rattle.rules.specs.Rows.{form_row, form_places, places_in, in_row, in_order, accepts}
use Rattle.rules.specs.Table.{Value, boolean, character}
use Rattle.rules.specs.Working.{Settled, settle_all, WellSet, Source, given, glyph_source, source_by, source_of}
use Rattle.rules.specs.declared.Code.TheVariants.{Writes}
use Rattle.rules.specs.declared.Directive.{Directive}
use Rattle.rules.specs.declared.Form.{Form}
use Rattle.rules.specs.declared.Item.TheVariants.{Written}
use Rattle.rules.specs.declared.Origin.{Origin}
use Rattle.rules.specs.declared.Origin.TheVariants.{Nowhere, NextOrNumber}
use Rattle.rules.specs.declared.Parameter.{Parameter}
use Rattle.rules.specs.declared.Parameters.{Parameters}
use Rattle.rules.specs.declared.Places.{Places}
use Rattle.rules.specs.Setting.{Setting}
use Rattle.std.specs.Prelude.{Some, Result, Ok, Err}
use Rattle.rules.specs.declared.Settings.{Settings}
use Rattle.rules.proofs.FormLaws.{takes_none, takes_number}
use Rattle.rules.proofs.Tests.{both_true, not_both_ways}
use Rattle.vet_rules.specs.Plain.{is_next, none_next}
use Rattle.vet_rules.specs.Turns.{argument, turn_by, turn_of, Turn, Goes, Stops}
use Rattle.vet_rules.specs.Use.{in_hand, no_entries}
use Rattle.vet_rules.specs.Worst.{worst}
use Rattle.vet_rules.proofs.Forms.{none_fills}
use Rattle.vet_rules.proofs.Ordinary.{PlainDirective}
use Rattle.vet_rules.proofs.Settling.{Settles as Stays, settle_plain, settle_placed, directive_suits}
use Rattle.vet_rules.proofs.TurnLaws.{turn_unsettled, turn_settled_lem}
use Rattle.parameters.specs.Settling.{AllSupplied, Supplied, listed, settled_as, Settles}
use Rattle.parameters.specs.declared.arguments.Hand.{Hand}
use Rattle.parameters.specs.declared.settling.SettledOut.{SettledOut}
use Rattle.rules.specs.Refusals.{code_of}
use Rattle.rules.specs.declared.refusal.Refusal.{Refusal}
use Rattle.vet_turns.specs.Parts.{Writing, SettledOn}

-- without `v` no table is needed
no_next : {t : List ℕ} {hand : Hand} (x : Parameter) → not (is_next x) ≡ true → Supplied t hand x
no_next x e q = absurd (not_both_ways (rw q at e) refl)

pub fixed_supplied : {t : List ℕ} {hand : Hand} (ps : Parameters) → none_next (in_order ps) ≡ true → AllSupplied t hand ps
fixed_supplied ps e =
    let a = both_true (not (is_next ps.first)) _ e in
    let b = both_true (not (is_next ps.second)) _ a.1 in
    let c = both_true (not (is_next ps.third)) _ b.1 in
    let d = both_true (not (is_next ps.fourth)) _ c.1 in
    let f = both_true (not (is_next ps.fifth)) _ d.1 in
    record {
      first = no_next ps.first a.0;
      second = no_next ps.second b.0;
      third = no_next ps.third c.0;
      fourth = no_next ps.fourth d.0;
      fifth = no_next ps.fifth f.0;
    }

pub settled_on : {t : List ℕ} {count : ℕ} {ys : Places} {ps : Parameters} {next : ℕ} {r : Result SettledOut Refusal} → none_next (in_order ps) ≡ true
    → Settles t (record { first = record { 0 = 0 }; count = count }) ys ps next r → SettledOn count ys ps next r
settled_on {t} {count} {ys} {ps} {next} n s = record {
  as_defined = s.as_defined next ∙ settle_plain _ (in_hand count next) (in_row ys) (in_order ps) next n;
  lies = s.lies;
}

-- the argument by where it comes from
module _ (kinds : List ℕ) (longest : ℕ) (f : Form) (d : Directive) (s : Settings) (next : ℕ) where
  abbrev From : Source → Turn
  From x = turn_by kinds longest (act_from (length kinds) f d s next x)

  given_goes : (x : Value) → accepts f (kind_of x) ≡ true → Goes (argument next) (length (text_of f d.colon d.atsign s x)) ≡ From (given x)
  given_goes x h = rw h

  pub numbered_given : (form_row f).origin ≡ NextOrNumber → {n size : ℕ} → s.first ≡ Some n → size ≡ length (glyph_of d.colon d.atsign n)
      → Goes (argument next) size ≡ From (glyph_source s.first)
  numbered_given o {n} e z =
      ap (Goes (argument next)) (z ∙ ap (λ (t : List ℕ). length t) (sym ((takes_number f o).text d.colon d.atsign s n)))
      ∙ given_goes (character n) (takes_number f o).takes ∙ sym (ap (λ (x : Setting). From (glyph_source x)) e)

  -- by the origin
  by_origin : {r : Turn} (o : Origin) → (form_row f).origin ≡ o → r ≡ From (source_by o d.colon s) → r ≡ From (source_of f d.colon s)
  by_origin o e h = h ∙ sym (ap (λ (x : Origin). From (source_by x d.colon s)) e)

  pub by_number : {r : Turn} → (form_row f).origin ≡ NextOrNumber → r ≡ From (glyph_source s.first) → r ≡ From (source_of f d.colon s)
  by_number o h = by_origin NextOrNumber o h

  pub by_nowhere : (form_row f).origin ≡ Nowhere → WellSet f s → longest ≤ 4096 → {size : ℕ}
      → size ≡ worst longest f d.colon d.atsign s 0 → Goes (argument next) size ≡ From (source_of f d.colon s)
  by_nowhere o w h e =
      by_origin Nowhere o
      (ap (Goes (argument next)) (e ∙ none_fills longest h f d.colon d.atsign s w 0 (omega arith) o (boolean false))
      ∙ given_goes (boolean false) ((takes_none f o).takes 0))

-- a directive of a form, from its worked-out parameters
module _ (kinds : List ℕ) (longest : ℕ) (f : Form) (d : Directive) (next : ℕ) (w : Writing f d) where
  abbrev all : Settled
  all = settle_all no_entries (in_hand (length kinds) next) (form_places f) d.parameters next

  is : {o : Result SettledOut Refusal} → SettledOn (length kinds) (places_in d) d.parameters next o → settled_as o ≡ all
  is h = rw w.code at h.as_defined

  pub turn_refused : {refusal : Refusal} → SettledOn (length kinds) (places_in d) d.parameters next (Err refusal)
      → Stops (code_of refusal) ≡ turn_of kinds longest (Written d) next
  turn_refused {refusal} h = sym (turn_unsettled kinds longest d f w.code w.written next (code_of refusal) (sym (is h)))

  module _ {x : SettledOut} (h : SettledOn (length kinds) (places_in d) d.parameters next (Ok x)) where
    pub settled_well : WellSet f x.settings
    settled_well = record { base = w.based; places = (rw w.code at h.lies) w.suits }

    same : x.next.0 ≡ next
    same = (subst (Stays (form_places f) next) (sym (is h)) (settle_placed (in_hand (length kinds) next) (form_places f) d.parameters next w.fixed w.suits)).0

    pub turn_worked : {r : Turn} → r ≡ turn_by kinds longest (act_from (length kinds) f d x.settings next (source_of f d.colon x.settings))
        → r ≡ turn_of kinds longest (Written d) next
    turn_worked t =
        t
        ∙ ap (λ (i : ℕ). turn_by kinds longest (act_from (length kinds) f d x.settings i (source_of f d.colon x.settings))) (sym same)
        ∙ sym (turn_settled_lem kinds longest d f w.code w.written next (listed x.settings) x.next.0 (sym (is h)))

-- a plain directive is of the form of its code
pub writing_of : (d : Directive) → PlainDirective d → (f : Form) → d.code ≡ Writes f → Writing f d
writing_of d w f e =
    let same : w.form ≡ f = cc w.code in
    record {
      code = e;
      written = w.written;
      suits = rw same at (directive_suits d w);
      fixed = w.fixed;
      based = rw same at w.based;
    }
