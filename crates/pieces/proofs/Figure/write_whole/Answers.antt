-- `pieces::Figure::write_whole` meets its contract: the sign first, and then the digits. Assumes nothing.
use mathlib.Core.Path.{sym, ap, ◌∙◌}
use native.Mathlib.Omega.{arith}
use lib.ListN.{length, length-set}
use Rattle.pieces.specs.Bytes.{digits_in}
use Rattle.pieces.proofs.Numerals.{with_sign, sign_put, sign_room}
use Rattle.pieces.proofs.Figure.write_whole.Goals as goal

pub slice_bounds-write_digits-count : goal.slice_bounds-write_digits-count
slice_bounds-write_digits-count c = simp length-set (omega (arith, (c.requires.out_len ∙ ap length (with_sign c.args.self c.if-self-eq0.false))))

pub slice_bounds-write_digits-start : goal.slice_bounds-write_digits-start
slice_bounds-write_digits-start c = simp length-set (omega (arith, (c.requires.out_len ∙ ap length (with_sign c.args.self c.if-self-eq0.false))))

pub write_digits-requires-2-clause-out_len : goal.write_digits-requires-2-clause-out_len
write_digits-requires-2-clause-out_len c =
    sign_room c.args.out.now c.args.self.sign (digits_in c.args.self)
    (c.requires.out_len ∙ ap length (with_sign c.args.self c.if-self-eq0.false))

pub returns : goal.returns
returns c =
    sign_put c.args.out.now c.args.self.sign (digits_in c.args.self)
    (c.requires.out_len ∙ ap length (with_sign c.args.self c.if-self-eq0.false))
    c.write_digits-2.ensures
    ∙ sym (with_sign c.args.self c.if-self-eq0.false)
