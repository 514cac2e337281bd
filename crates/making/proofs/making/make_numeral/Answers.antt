-- `making::making::make_numeral` meets its contract: with `:` the digits are in groups, and the padding is what the
-- text lacks to the width, on its left. Assumes nothing.
use mathlib.Core.Path.{◌≡◌, ap, ◌∙◌}
use native.Mathlib.Omega.{arith}
use mir.ValLaws.{to_z-of_z}
use mir.Syntax.{w64}
use Rattle.making.specs.Texts.{number_of}
use Rattle.making.proofs.Spelled.{or_else_is, in_range_lem, in_groups, in_one, unpadded, left_is}
use Rattle.making.proofs.Made.{makes_same, gives_same, makes_size}
use Rattle.making.proofs.making.make_numeral.Goals as goal
use Rattle.making.proofs.making.make_numeral.Goals.{then-colon, else-colon}

pub returns : goal.returns
returns c =
    let base = c.args.base in
    let s = c.args.settings in
    let x = c.args.x in
    let fourth = in_range_lem s.fourth 3 c.requires.places.fourth (omega arith) (omega arith) in
    let text : number_of base c.args.atsign c.if-colon.group c.byte_or-comma.result x ≡ unpadded base c.args.colon c.args.atsign s x =
    elim c.if-colon.branch [
      | then-colon w ↦
          let e = w.group-is ∙ w.unwrap_or-group.ensures ∙ or_else_is s.fourth 3 in
          in_groups base c.args.colon c.args.atsign s x _ _ w.if-colon.true e c.byte_or-comma.ensures (omega (arith, e, fourth))
      | else-colon w ↦ rw w.group-is (in_one base c.args.colon c.args.atsign s x 0 c.byte_or-comma.result w.if-colon.false)
    ] in
    λ t.
    let m = makes_same (ap (number_of base c.args.atsign c.if-colon.group c.byte_or-comma.result) (to_z-of_z w64 x c.ranges.x) ∙ text) (c.figure_body-body.ensures t) in
    gives_same (left_is _ c.saturating_sub-missing.ensures (c.unwrap_or.ensures ∙ or_else_is s.first 0) c.byte_or.ensures (makes_size m))
    (c.padded_piece.ensures.gives t _ m)
