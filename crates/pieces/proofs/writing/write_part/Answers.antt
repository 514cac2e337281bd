-- `pieces::writing::write_part` meets its contract: padding, a part of the body and padding, by where the window falls.
-- Assumes nothing.
use Prim.Native.Nat.{◌+◌, ◌-◌, ◌≤◌}
use native.Mathlib.Omega.{arith}
use lib.ListN.{length}
use Rattle.pieces.specs.Bytes.{body_of, bytes_of}
use Rattle.pieces.proofs.Segments.{padded_part}
use Rattle.pieces.proofs.Bodies.{length_bytes}
use Rattle.pieces.proofs.writing.write_part.Goals as goal

pub returns : goal.returns
unfolding bytes_of
returns c =
    let a = c.args in
    let body = body_of a.table.now a.piece.body in
    let room : length a.out.now ≤ a.piece.before +
    (length (body_of a.table.now a.piece.body) + a.piece.behind) - a.from =
    omega (arith, c.requires.out_in_bounds, length_bytes a.table.now a.piece) in
    padded_part a.out.now a.piece.before a.piece.behind a.piece.pad body a.from
    (rw c.requires.good.body.size
    at c.cut-a.ensures) room _ _ _ c.fill.ensures c.body_part.ensures c.fill-2.ensures
