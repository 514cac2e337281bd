-- The item at a place, and the end of the text where a sequence ends. Assumes nothing.
use mathlib.Core.Path.{refl, sym, ◌∙◌}
use Rattle.rules.proofs.Tests.{not_both_ways}
use Rattle.reader.proofs.MarkLaws.{closes_end}
use Rattle.blocks.proofs.EndLaws.{ends_item}
use Rattle.blocks.proofs.ends.element_at.Goals as goal

pub returns-then-closes_at : goal.returns-then-closes_at
returns-then-closes_at c =
    let a = c.args in
    record {
      ends = λ _. closes_end a.text.now a.p (sym c.closes_at.ensures ∙ c.if-closes_at.true);
      is = λ h. absurd (not_both_ways refl h);
    }

pub returns : goal.returns
returns c =
    let a = c.args in
    record {
      ends = ends_item a.text.now a.p _ (sym c.item_at.ensures);
      is = λ _. sym c.item_at.ensures;
    }
