-- `making::padding::bare_piece` meets its contract: no padding on either side. Assumes nothing.
use mathlib.Core.List.{append-nil}
use Rattle.making.proofs.Made.{gives_same}
use Rattle.making.proofs.padding.bare_piece.Goals as goal

pub returns-clause-gives : goal.returns-clause-gives
returns-clause-gives c = λ t text m. gives_same (append-nil text) (c.padded_piece.ensures.gives t text m)
