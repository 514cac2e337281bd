-- The settings of a directive that is well written lie in the ranges of its places. Assumes nothing.
use Prim.Native.Nat.{ℕ, ◌≤◌, ◌<◌}
use mathlib.Core.Path.{◌≡◌}
use mathlib.Core.Bool.{true}
use mathlib.Core.List.{List}
use Rattle.rules.specs.Rows.{any_number, one_place, form_places, places_in, well_written}
use Rattle.rules.specs.Working.{InPlace, InPlaces}
use Rattle.rules.specs.declared.ArgumentPosition.{ArgumentPosition}
use Rattle.rules.specs.declared.Code.TheVariants.{Writes, Jump}
use Rattle.rules.specs.declared.Directive.{Directive}
use Rattle.rules.specs.declared.Form.{Form}
use Rattle.rules.specs.declared.Place.TheVariants.{Number as NumberPlace, Character as CharacterPlace}
use Rattle.rules.specs.Setting.{Setting}
use Rattle.std.specs.Prelude.{Some}
use Rattle.rules.specs.declared.Settings.{Settings}
use Rattle.rules.proofs.Rowed.{written_suits}
use Rattle.parameters.specs.Settling.{SettlesDirective}
use Rattle.parameters.specs.declared.arguments.Hand.{Hand}
use Rattle.parameters.specs.declared.settling.SettledOut.{SettledOut}
use Rattle.std.specs.Prelude.{Result, Ok}
use Rattle.rules.specs.declared.refusal.Refusal.{Refusal}

-- what lies in a place and is not absent
pub number_in : (least most : ℕ) {s : Setting} {n : ℕ} → s ≡ Some n → InPlace (NumberPlace least most) s → (least ≤ n) × (n ≤ most)
number_in least most e h = rw e at h

pub character_in : {s : Setting} {n : ℕ} → s ≡ Some n → InPlace CharacterPlace s → n < 256
character_in e h = rw e at h

module _ {t : List ℕ} {hand : Hand} {d : Directive} {n : ℕ} {r : Result SettledOut Refusal} {s : Settings} {next : ArgumentPosition}
    (h : SettlesDirective t hand d n r) (w : well_written d ≡ true) (e : r ≡ Ok (record { settings = s; next = next })) where
  pub directive_in_range : InPlaces (places_in d) s
  directive_in_range = rw e at (h.in_places.lies (written_suits d w))

  -- by the code: ~a and ~s have form_places (Object q) and so on
  pub form_in_range : {f : Form} → d.code ≡ Writes f → InPlaces (form_places f) s
  form_in_range is = rw is at directive_in_range

  pub jump_in_range : d.code ≡ Jump → InPlace any_number s.first
  jump_in_range is = let all : InPlaces (one_place any_number) s = rw is at directive_in_range in all.first
