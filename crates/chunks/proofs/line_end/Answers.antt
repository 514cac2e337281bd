-- `chunks::line_end` meets its contract: at the first newline, or behind all of the bytes. Assumes nothing.
use mathlib.Core.Path.{sym, ◌∙◌}
use native.Mathlib.Omega.{arith}
use lib.ListN.{drop, length-drop}
use Rattle.chunks.proofs.Cuts.{rest_lent, end_found, end_missing}
use Rattle.chunks.proofs.line_end.Goals as goal

pub returns-in-Some : goal.returns-in-Some
returns-in-Some c =
    let chunk = c.args.chunk.now in
    let all = rest_lent chunk c.args.from in
    omega (arith, end_found (drop c.args.from chunk) (rw all at (sym c.in-Some.is ∙ c.newline_in.ensures)))

pub returns-in-None : goal.returns-in-None
returns-in-None c =
    let chunk = c.args.chunk.now in
    let all = rest_lent chunk c.args.from in
    omega (
      arith,
      end_missing (drop c.args.from chunk) (rw all at (sym c.in-None.is ∙ c.newline_in.ensures)),
      length-drop c.args.from chunk,
    )
