-- What the parts of the code of a turn promise. Assumes nothing: these are definitions.
use Rattle.std.specs.Prelude.{ℕ, ◌+◌, ◌-◌, ◌/◌, ◌≤◌, ◌≡◌, Bool, true, cond, Result}
use Rattle.rules.specs.Directive.{FormRight}
use Rattle.rules.specs.Rows.{form_places, in_row, in_order, each_suits, well_written}
use Rattle.rules.specs.Working.{settle_all}
use Rattle.rules.specs.declared.Code.TheVariants.{Writes}
use Rattle.rules.specs.declared.Directive.{Directive}
use Rattle.rules.specs.declared.Form.{Form}
use Rattle.rules.specs.declared.Parameters.{Parameters}
use Rattle.rules.specs.declared.Places.{Places}
use Rattle.rules.specs.declared.refusal.Refusal.{Refusal}
use Rattle.vet_rules.specs.Plain.{none_next}
use Rattle.vet_rules.specs.Use.{in_hand, no_entries}
use Rattle.vet_rules.specs.Worst.{larger, least_digits}
use Rattle.parameters.specs.Settling.{settled_as, AllLie}
use Rattle.parameters.specs.declared.settling.SettledOut.{SettledOut}

-- a directive of a form, as it stands in an accepted plain text: its parameters suit its places, and none is a `v`
pub record Writing (f : Form) (d : Directive) : Type 0 where
  pub code : d.code ≡ Writes f
  pub written : well_written d ≡ true
  pub suits : each_suits (in_row (form_places f)) (in_order d.parameters) ≡ true
  pub fixed : none_next (in_order d.parameters) ≡ true
  pub based : FormRight f

-- what working out parameters without `v` promises of its answer r, where there are so many arguments
pub record SettledOn (count : ℕ) (ys : Places) (ps : Parameters) (next : ℕ) (r : Result SettledOut Refusal) : Type 0 where
  pub as_defined : settled_as r ≡ settle_all no_entries (in_hand count next) ys ps next
  pub lies : each_suits (in_row ys) (in_order ps) ≡ true → AllLie ys r

-- the ranges of minwidth, padinc and minpad
pub record Sizing (minwidth padinc minpad : ℕ) : Type 0 where
  pub width : minwidth ≤ 4096
  pub least : 1 ≤ padinc
  pub most : padinc ≤ 4096
  pub pad : minpad ≤ 4096

-- the sign and the digits of the least integer, in groups of a width with true, or at least minwidth bytes
abbrev pub numeral_most : ℕ → Bool → ℕ → ℕ → ℕ
numeral_most base colon width group =
    larger width (cond colon (least_digits base + (least_digits base - 1) / group) (least_digits base) + 1)
