-- A piece is cut at the end of the window. Assumes nothing.
use native.Mathlib.Omega.{arith}
use Rattle.pieces.specs.Bytes.{bytes_of}
use Rattle.filling.proofs.GivingLaws.{piece_small, given_cut}
use Rattle.filling.proofs.giving.cut_part.Goals as goal

pub overflow_add-given : goal.overflow_add-given
overflow_add-given c = omega (arith, c.requires.no_room, piece_small c.args.table.now c.args.piece c.requires.good)

pub returns : goal.returns
returns c =
    let a = c.args in
    let p = a.progress in
    λ after.
    given_cut (bytes_of a.table.now a.piece) p.here after p.given p.at a.window.now a.table.now _
    c.requires.at_in_bounds c.requires.no_room c.full.ensures c.write_part.ensures
