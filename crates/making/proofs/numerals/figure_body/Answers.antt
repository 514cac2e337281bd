-- `making::numerals::figure_body` meets its contract: the number that it makes has the sign and the magnitude of the
-- argument. Assumes nothing.
use mathlib.Core.Path.{ap, ◌∙◌}
use native.Mathlib.Omega.{arith}
use mir.ValLaws.{to_z-of_z}
use mir.Syntax.{w64}
use Rattle.rules.specs.Number.{magnitude_of, sign_of}
use Rattle.rules.proofs.Digits.{count_word}
use Rattle.making.proofs.Spelled.{number_is}
use Rattle.making.proofs.Made.{made_figures, makes_same}
use Rattle.making.proofs.numerals.figure_body.Goals as goal

pub size-requires : goal.size-requires
size-requires c =
    (record {
      base = c.requires.le_base;
      width = c.requires.width_bound;
      digits = count_word c.args.base _ c.requires.le_base.0 (omega (arith, c.magnitude.type_inv));
    })

pub returns : goal.returns
returns c =
    let back = to_z-of_z w64 c.args.x c.ranges.x in
    let is = number_is _ c.args.plus c.args.x (c.magnitude.ensures ∙ ap magnitude_of back)
    (c.sign_byte.ensures ∙ ap (sign_of c.args.plus) back) in
    λ t. makes_same is
    (made_figures t _ _ _ (record {
      base = c.requires.le_base;
      width = c.requires.width_bound;
      digits = count_word c.args.base _ c.requires.le_base.0 (omega (arith, c.magnitude.type_inv));
    }) c.size.ensures.size c.size.ensures.within)
