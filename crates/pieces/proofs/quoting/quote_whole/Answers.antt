-- `pieces::quoting::quote_whole` meets its contract: what is written, with what the string still owes and the last
-- quote, is the whole. Assumes nothing.
use mathlib.Core.Path.{sym, ◌∙◌}
use Rattle.pieces.proofs.Escapes.{quote_room, quote_none, QuotingByte, quote_plain, quote_marked, quote_all}
use Rattle.rules.proofs.Writing.{write_room, write_one}
use Rattle.pieces.proofs.quoting.quote_whole.Goals as goal
use Rattle.pieces.proofs.quoting.quote_whole.Goals.{then-is_marked, else-is_marked}

pub bounds-out-0 : goal.bounds-out-0
bounds-out-0 c = quote_room c.args.src.now c.args.out.now c.requires

pub loop-byte-init : goal.loop-byte-init
loop-byte-init c = quote_none c.args.src.now c.args.out.now c.requires

pub bounds-out-to-in-loop-byte : goal.bounds-out-to-in-loop-byte
bounds-out-to-in-loop-byte c =
    let next : QuotingByte c.args.src.now c.if-is_marked.out c.loop-byte.byte-index c.if-is_marked.to =
    elim c.if-is_marked.branch [
      | then-is_marked w ↦
          rw (w.out-is, w.to-is)
          (quote_marked c.args.src.now _ c.loop-byte.invariant c.loop-byte-test.true (sym c.is_marked.ensures ∙ w.if-is_marked.true))
      | else-is_marked w ↦
          rw (w.out-is, w.to-is)
          (quote_plain c.args.src.now _ c.loop-byte.invariant c.loop-byte-test.true (sym c.is_marked.ensures ∙ w.if-is_marked.false))
    ] in
    write_room _ _ next

pub loop-byte-preserved : goal.loop-byte-preserved
loop-byte-preserved c =
    let next : QuotingByte c.args.src.now c.if-is_marked.out c.loop-byte.byte-index c.if-is_marked.to =
    elim c.if-is_marked.branch [
      | then-is_marked w ↦
          rw (w.out-is, w.to-is)
          (quote_marked c.args.src.now _ c.loop-byte.invariant c.loop-byte-test.true (sym c.is_marked.ensures ∙ w.if-is_marked.true))
      | else-is_marked w ↦
          rw (w.out-is, w.to-is)
          (quote_plain c.args.src.now _ c.loop-byte.invariant c.loop-byte-test.true (sym c.is_marked.ensures ∙ w.if-is_marked.false))
    ] in
    write_one _ _ next

pub returns : goal.returns
returns c = quote_all c.args.src.now _ c.loop-byte.invariant c.loop-byte-test.false
