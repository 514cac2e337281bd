-- A piece is written whole or refused. Assumes nothing.
use Rattle.rules.specs.declared.refusal.Refusal.TheVariants.{NoRoom}
use Rattle.actions.specs.Ran.{ended_ran}
use Rattle.actions.proofs.Buffer.{lent_length, put_lent}
use Rattle.actions.proofs.ActLaws.{performed_put, performed_full, untouched_on, untouched_refused}
use Rattle.pieces.specs.Bytes.{bytes_of}
use lib.ListN.{length}
use Prim.Native.Nat.{ℕ, ◌+◌}
use native.Mathlib.Omega.{arith}
use mathlib.Core.Path.{◌≡◌, ◌∙◌, ap}
use Rattle.actions.proofs.acting.put_piece.Goals as goal

pub write_whole-requires-clause-out_len : goal.write_whole-requires-clause-out_len
write_whole-requires-clause-out_len c =
    let a = c.args in
    let w = bytes_of a.table.now a.piece in
    lent_length a.out.now a.spot.at c.piece_length-n.result w (c.piece_length-n.ensures.length a.table.now c.requires.good) c.if-n-out.true c.requires.at_in_bounds

pub returns-then-n-out-clause-puts : goal.returns-then-n-out-clause-puts
returns-then-n-out-clause-puts c =
    let a = c.args in
    let w = bytes_of a.table.now a.piece in
    let n : c.piece_length-n.result ≡ length w = c.piece_length-n.ensures.length a.table.now c.requires.good in
    performed_put a.spot a.next.0 a.count a.out.now w _
    (c.go_on.ensures ∙ ap (λ (k : ℕ). ended_ran a.next.0 a.spot.left (a.spot.at + k) a.spot.place) n)
    (put_lent a.out.now a.spot.at c.piece_length-n.result _ w n c.if-n-out.true c.requires.at_in_bounds c.write_whole.ensures)
    c.requires.before_le_count.1

pub returns-then-n-out-clause-untouched : goal.returns-then-n-out-clause-untouched
returns-then-n-out-clause-untouched c = untouched_on _ c.go_on.ensures

pub returns-clause-puts : goal.returns-clause-puts
returns-clause-puts c =
    let a = c.args in
    let w = bytes_of a.table.now a.piece in
    let n : c.piece_length-n.result ≡ length w = c.piece_length-n.ensures.length a.table.now c.requires.good in
    performed_full a.spot a.next.0 a.count a.out.now w _ a.before.0 c.refuse.ensures c.requires.at_in_bounds (omega (arith, c.if-n-out.false)) c.requires.before_le_count.0

pub returns-clause-untouched : goal.returns-clause-untouched
returns-clause-untouched c = untouched_refused _ NoRoom c.refuse.ensures
