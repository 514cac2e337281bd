-- A piece is cut at the end of the window: a string in quotes keeps what is left of it. Assumes nothing.
use Rattle.filling.proofs.giving.cut_piece.Goals as goal

pub returns-in-Quoted : goal.returns-in-Quoted
returns-in-Quoted c = rw c.if-progress-eq0.true (c.cut_quote.ensures c.args.progress.here)

pub returns-in_default : goal.returns-in_default
returns-in_default c = c.cut_part.ensures c.args.after
