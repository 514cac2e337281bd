-- `quote_part` meets its contract: all of it by the loop for that; a part is a quote, a part of the escaped text and a
-- quote, by where the window falls. Assumes nothing.
use mathlib.Core.Path.{◌≡◌}
use Prim.Native.Nat.{◌+◌, ◌-◌, ◌≤◌}
use native.Mathlib.Omega.{arith}
use lib.ListN.{length}
use Rattle.rules.specs.Piece.{escaped}
use Rattle.pieces.specs.Bytes.{quoted_of}
use Rattle.pieces.proofs.Segments.{padded_part, lent_fits}
use Rattle.pieces.proofs.Escapes.{length_quoted}
use Rattle.pieces.proofs.quoting.quote_part.Goals as goal

pub overflow_sub-size : goal.overflow_sub-size
overflow_sub-size c = omega (arith, c.requires.size_value, length_quoted c.args.src.now)

pub escape_part-requires : goal.escape_part-requires
escape_part-requires c =
    let size : c.args.size - 2 ≡ length
    (escaped c.args.src.now) = omega (arith, c.requires.size_value, length_quoted c.args.src.now) in
    lent_fits _ _ _ (rw size at c.cut-a.ensures.middle)

pub returns : goal.returns
unfolding quoted_of
returns c =
    let a = c.args in
    let size : c.args.size - 2 ≡ length
    (escaped c.args.src.now) = omega (arith, c.requires.size_value, length_quoted c.args.src.now) in
    let room : length a.out.now ≤ 1 + (length (escaped a.src.now) + 1) - a.from =
    omega (arith, c.requires.size_value, c.requires.out_len_bound, length_quoted a.src.now) in
    padded_part a.out.now 1 1 34 (escaped a.src.now) a.from (rw size at c.cut-a.ensures) room _ _ _
    c.fill.ensures c.escape_part.ensures c.fill-2.ensures
