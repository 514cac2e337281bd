-- What is left of a piece is written whole, or cut at the end of the window. Assumes nothing.
use mathlib.Core.Path.{◌≡◌, ◌∙◌}
use mathlib.Core.List.{[]}
use Prim.Native.Nat.{◌+◌, ◌-◌}
use native.Mathlib.Omega.{arith}
use lib.ListN.{length, take, drop, length-drop}
use Rattle.pieces.specs.Bytes.{bytes_of}
use Rattle.pieces.specs.Rest.{Appends}
use Rattle.filling.proofs.GivingLaws.{LeftFits, left_lent, left_whole, left_part, given_before, given_whole}
use Rattle.filling.proofs.giving.give_piece.Goals as goal
use Rattle.filling.proofs.giving.give_piece.Goals.{Else-window-at, Joined-given-eq0, then-given-eq0, else-given-eq0}

-- what is left fits into the window
left_fits : (c : Else-window-at) → let a = c.args in
    LeftFits (bytes_of a.table.now a.piece) a.progress.given a.progress.at a.window.now c.piece_length-n.result
left_fits c =
    record {
      all = c.piece_length-n.ensures.length c.args.table.now c.requires.good;
      some = omega (arith, c.if-n-given.false);
      room = omega (arith, c.if-window-at.false);
      inside = c.requires.at_in_bounds;
    }

lent_left : (c : Else-window-at) → let a = c.args in
    length (take (a.progress.at + (c.piece_length-n.result - a.progress.given) - a.progress.at) (drop a.progress.at a.window.now))
    ≡ length (drop a.progress.given (bytes_of a.table.now a.piece))
lent_left c =
    let a = c.args in
    left_lent (bytes_of a.table.now a.piece) a.progress.given a.progress.at a.window.now (left_fits c)

-- either way it is written
written : (c : Joined-given-eq0) → let a = c.args in
    let left = c.piece_length-n.result - a.progress.given in
    LeftFits (bytes_of a.table.now a.piece) a.progress.given a.progress.at a.window.now c.piece_length-n.result
    → Appends (drop a.progress.given (bytes_of a.table.now a.piece)) a.progress.at a.window.now c.if-given-eq0.window (a.progress.at + left) []
written c f =
    let a = c.args in
    let w = bytes_of a.table.now a.piece in
    elim c.if-given-eq0.branch [
      | then-given-eq0 v ↦ rw v.window-is (left_whole w a.progress.given a.progress.at a.window.now f _ v.if-given-eq0.true v.write_whole.ensures)
      | else-given-eq0 v ↦ rw v.window-is (left_part w a.progress.given a.progress.at a.window.now f _ v.write_part.ensures)
    ]

pub returns-then-n-given : goal.returns-then-n-given
returns-then-n-given c =
    let a = c.args in
    let w = bytes_of a.table.now a.piece in
    let n = c.piece_length-n.ensures.length a.table.now c.requires.good in
    given_before w a.progress.here a.after a.progress.given a.progress.at a.window.now a.table.now n c.if-n-given.true c.requires.at_in_bounds
    c.on.ensures

pub cut_piece-requires-clause-no_room : goal.cut_piece-requires-clause-no_room
cut_piece-requires-clause-no_room c =
    let n = c.piece_length-n.ensures.length c.args.table.now c.requires.good in
    omega (arith, n, c.if-n-given.false, c.if-window-at.true)

pub write_whole-requires-clause-out_len : goal.write_whole-requires-clause-out_len
write_whole-requires-clause-out_len c =
    (lent_left (goal.at.write_whole-requires-clause-out_len c).Else-window-at) ∙ rw c.if-given-eq0.true

pub write_part-requires-clause-out_in_bounds : goal.write_part-requires-clause-out_in_bounds
write_part-requires-clause-out_in_bounds c =
    let a = c.args in
    let w = bytes_of a.table.now a.piece in
    let n = c.piece_length-n.ensures.length a.table.now c.requires.good in
    omega (arith, n, c.if-n-given.false, (lent_left (goal.at.write_part-requires-clause-out_in_bounds c).Else-window-at), length-drop a.progress.given w)

pub shape_of-window : goal.shape_of-window
shape_of-window c =
    (written (goal.at.shape_of-window c).Joined-given-eq0 (left_fits (goal.at.shape_of-window c).Else-window-at)).size

pub returns : goal.returns
returns c =
    let a = c.args in
    let w = bytes_of a.table.now a.piece in
    let n = c.piece_length-n.ensures.length a.table.now c.requires.good in
    given_whole w a.progress.here a.after a.progress.given a.progress.at a.window.now a.table.now n (omega (arith, c.if-n-given.false))
    c.on-2.ensures (written (goal.at.returns c).Joined-given-eq0 (left_fits (goal.at.returns c).Else-window-at))
