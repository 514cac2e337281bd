-- `around` meets its contract: the padding is the definition's, on the left with @ and else on the right. Assumes
-- nothing.
use mathlib.Core.Path.{◌∙◌}
use Rattle.making.proofs.Spelled.{or_else_is, around_left, around_right}
use Rattle.making.proofs.Made.{gives_same, makes_size}
use Rattle.making.proofs.padding.around.Goals as goal

pub returns-then-atsign-clause-gives : goal.returns-then-atsign-clause-gives
returns-then-atsign-clause-gives c =
    λ t text makes.
    gives_same (around_left c.args.atsign c.args.settings text
    (c.unwrap_or-minwidth.ensures ∙ or_else_is c.args.settings.first 0)
    (c.unwrap_or-padinc.ensures ∙ or_else_is c.args.settings.second 1)
    (c.unwrap_or-minpad.ensures ∙ or_else_is c.args.settings.third 0) c.byte_or-pad.ensures
    (makes_size makes) c.padding-count.ensures.padding c.if-atsign.true) (c.padded_piece.ensures.gives t text makes)

pub returns-else-atsign-clause-gives : goal.returns-else-atsign-clause-gives
returns-else-atsign-clause-gives c =
    λ t text makes.
    gives_same (around_right c.args.atsign c.args.settings text
    (c.unwrap_or-minwidth.ensures ∙ or_else_is c.args.settings.first 0)
    (c.unwrap_or-padinc.ensures ∙ or_else_is c.args.settings.second 1)
    (c.unwrap_or-minpad.ensures ∙ or_else_is c.args.settings.third 0) c.byte_or-pad.ensures
    (makes_size makes) c.padding-count.ensures.padding c.if-atsign.false) (c.padded_piece-else-atsign.ensures.gives t text makes)
