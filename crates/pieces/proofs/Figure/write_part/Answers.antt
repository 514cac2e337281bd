-- `pieces::Figure::write_part` meets its contract: all of it goes straight into the buffer; for a part the whole is written into an array,
-- and the part is copied. Assumes nothing.
use mathlib.Core.List.{List}
use mathlib.Core.Path.{ap, ◌∙◌}
use Prim.Native.Nat.{ℕ}
use native.Mathlib.Omega.{arith}
use lib.ListN.{length, length-take}
use Rattle.pieces.specs.Bytes.{part, figure_of}
use Rattle.pieces.proofs.Numerals.{figure_most, read_back}
use Rattle.pieces.proofs.Parts.{part_whole}
use Rattle.pieces.proofs.Figure.write_part.Goals as goal

pub returns-then-out-size : goal.returns-then-out-size
returns-then-out-size c =
    c.write_whole.ensures
    ∙ part_whole c.args.from (length c.args.out.now) (figure_of c.args.self)
    (c.if-out-size.true ∙ c.requires.size_value) (omega (arith, c.requires.size_value, c.requires.out_len_bound))

pub slice_bounds-write_whole-end : goal.slice_bounds-write_whole-end
slice_bounds-write_whole-end c =
    rw length-take (omega (arith, c.requires.size_value, figure_most c.args.self c.requires.good_figure))

pub write_whole-requires-2-clause-out_len : goal.write_whole-requires-2-clause-out_len
write_whole-requires-2-clause-out_len c =
    rw length-take (omega (arith, c.requires.size_value, figure_most c.args.self c.requires.good_figure))

pub returns : goal.returns
returns c =
    c.copy_part.ensures
    ∙ ap (λ (l : List ℕ). part c.args.from (length c.args.out.now) l)
    (read_back _ _ _ _ c.write_whole-2.ensures c.requires.size_value)
