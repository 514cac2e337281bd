-- `pieces::Figure::write_digits` meets its contract: without groups the digits go to their place, and with groups by
-- way of an array. Assumes nothing.
use mathlib.Core.List.{List}
use mathlib.Core.Path.{sym, ap, ◌∙◌}
use Prim.Native.Nat.{ℕ}
use lib.ListN.{length}
use Rattle.rules.specs.Number.{grouped}
use Rattle.pieces.proofs.Numerals.{in_groups, read_back}
use Rattle.pieces.proofs.Figure.write_digits.Goals as goal

pub write_grouped-requires-clause-out_len : goal.write_grouped-requires-clause-out_len
write_grouped-requires-clause-out_len c =
    c.requires.out_len
    ∙ ap length (in_groups c.args.self c.if-self-eq0.false)
    ∙ sym (ap length (ap (λ (l : List ℕ). grouped c.args.self.width c.args.self.comma l)
    (read_back _ _ _ _ c.fill_digits-2.ensures
    c.digit_count-count.ensures.count)))

pub returns : goal.returns
returns c =
    c.write_grouped.ensures
    ∙ (ap (λ (l : List ℕ). grouped c.args.self.width c.args.self.comma l)
    (read_back _ _ _ _ c.fill_digits-2.ensures
    c.digit_count-count.ensures.count))
    ∙ sym (in_groups c.args.self
    c.if-self-eq0.false)
