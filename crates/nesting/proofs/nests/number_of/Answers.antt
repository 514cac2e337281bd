-- The number of passes that are limited, or not. Assumes nothing.
use mathlib.Core.Path.{sym, subst, ◌∙◌}
use Rattle.nesting.specs.Nest.{FitsPasses}
use Rattle.nesting.proofs.NestLaws.{limited}
use native.Mathlib.Omega.{arith}
use Rattle.nesting.proofs.nests.number_of.Goals as goal

pub overflow_cast-result : goal.overflow_cast-result
overflow_cast-result c =
    let h = subst FitsPasses c.in-Some.is c.requires in
    omega (arith, h)

pub returns-in-Some : goal.returns-in-Some
returns-in-Some c =
    let q = c.in-Some.is in
    limited _ (subst FitsPasses q c.requires) ∙ sym q
