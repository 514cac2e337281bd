-- Parameters of which none is written suit all places. Assumes nothing.
use mathlib.Core.Path.{◌≡◌, refl}
use mathlib.Core.Bool.{true}
use native.Mathlib.Omega.{arith}
use borrow.Author.Tests.{le-leb}
use Rattle.rules.specs.Directive.{no_parameters}
use Rattle.rules.specs.Rows.{suits, fit_into}
use Rattle.rules.specs.declared.Parameter.TheVariants.{Default}
use Rattle.rules.specs.declared.Place.{Place}
use Rattle.rules.specs.declared.Place.TheVariants.{Empty, Number as NumberPlace, Character as CharacterPlace}
use Rattle.rules.specs.declared.Places.{Places}

-- an empty parameter suits every place
suits_default : (y : Place) → suits y Default ≡ true
suits_default Empty = refl
suits_default (NumberPlace least most) = refl
suits_default CharacterPlace = refl

-- where there is no parameter, none is wrong
pub bare_fits : (ys : Places) → fit_into ys no_parameters ≡ true
bare_fits ys =
    rw (le-leb 0 ys.count (omega arith), suits_default ys.first, suits_default ys.second, suits_default ys.third, suits_default ys.fourth, suits_default ys.fifth)
