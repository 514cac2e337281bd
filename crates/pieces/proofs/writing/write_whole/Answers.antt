-- `pieces::writing::write_whole` meets its contract: padding, the whole body and padding. Assumes nothing.
use mathlib.Core.Path.{◌∙◌}
use Prim.Native.Nat.{◌≤◌}
use native.Mathlib.Omega.{arith}
use lib.ListN.{length, length-take}
use Rattle.pieces.specs.Bytes.{body_of, bytes_of}
use Rattle.pieces.proofs.Segments.{padded_whole}
use Rattle.pieces.proofs.Bodies.{length_bytes}
use Rattle.pieces.proofs.writing.write_whole.Goals as goal

pub slice_bounds-fill-end-2 : goal.slice_bounds-fill-end-2
slice_bounds-fill-end-2 c =
    let room : c.args.piece.before ≤ length c.args.out.now =
    omega (arith, c.requires.out_len, length_bytes c.args.table.now c.args.piece) in
    rw length-take (omega arith)

pub returns : goal.returns
unfolding bytes_of
returns c =
    let a = c.args in
    padded_whole a.out.now a.piece.before a.piece.behind a.piece.pad
    (body_of a.table.now a.piece.body) _
    (omega (arith, c.requires.good.body.size)) (c.requires.out_len ∙ length_bytes a.table.now a.piece) _ _ _
    c.fill.ensures
    c.body_part.ensures c.fill-2.ensures
