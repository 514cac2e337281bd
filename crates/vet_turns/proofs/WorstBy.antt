-- The greatest length of a piece as code works it out. Assumes nothing.
use Prim.Native.Nat.{ℕ, ◌≤◌}
use mathlib.Core.Path.{◌≡◌, refl, sym}
use mathlib.Core.Bool.{Bool, true, false}
use native.Mathlib.Numerals.{add-one}
use Rattle.std.specs.Option.{unwrap_or}
use Rattle.std.specs.Prelude.{None, Some}
use Rattle.rules.specs.Piece.{or_else}
use Rattle.rules.specs.Setting.{Setting}
use Rattle.rules.specs.declared.Form.TheVariants.{Numeral}
use Rattle.rules.specs.declared.Settings.{Settings}
use Rattle.vet_rules.specs.Worst.{worst}
use Rattle.vet_rules.proofs.WorstLaws.{worst_numeral_lem, worst_grouped_lem}
use Rattle.vet_turns.specs.Parts.{numeral_most}

pub default_is : (x : Setting) (n : ℕ) → unwrap_or x n ≡ or_else x n
default_is None n = refl
default_is (Some k) n = refl

-- `~d ~x ~o ~b`
pub numeral_worst : (longest base : ℕ) (colon atsign : Bool) (s : Settings) (kind : ℕ) → 1 ≤ or_else s.fourth 3
    → numeral_most base colon (or_else s.first 0) (or_else s.fourth 3) ≡ worst longest (Numeral base) colon atsign s kind
numeral_worst longest base true atsign s kind h = rw add-one (sym (worst_grouped_lem longest base atsign s kind h))
numeral_worst longest base false atsign s kind h = rw add-one (sym (worst_numeral_lem longest base atsign s kind))
