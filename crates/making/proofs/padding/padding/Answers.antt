-- `making::padding::padding` meets its contract: minpad where that is wide enough, and else what the shortfall asks for
-- besides. Assumes nothing.
use mathlib.Core.Path.{refl, sym}
use Rattle.rules.proofs.Padding.{padding_wide}
use Rattle.rules.specs.Piece.{times_padded}
use Rattle.making.proofs.padding.padding.Goals as goal

pub returns-then-minwidth-least-clause-padding : goal.returns-then-minwidth-least-clause-padding
returns-then-minwidth-least-clause-padding c =
    sym (padding_wide c.args.minwidth c.args.padinc c.args.minpad c.args.size
    c.requires.le_padinc.0 c.if-minwidth-least.true)

pub returns-clause-padding : goal.returns-clause-padding
unfolding times_padded
returns-clause-padding c = refl
