-- `making::padding::padded_piece` meets its contract: a body with its padding is a piece. Assumes nothing.
use Rattle.making.proofs.Made.{made_piece}
use Rattle.making.proofs.padding.padded_piece.Goals as goal

pub returns-clause-gives : goal.returns-clause-gives
returns-clause-gives c = λ t text m. made_piece _ _ _ c.requires m
