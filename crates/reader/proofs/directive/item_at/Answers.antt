-- `reader::directive::item_at` meets its contract: the end, a directive or a byte. Assumes nothing.
use Rattle.std.proofs.Common.{sym, ◌∙◌}
use Rattle.rules.proofs.Reading.{item_end, item_tilde, item_literal}
use Rattle.reader.proofs.directive.item_at.Goals as goal

pub returns-then-text-p : goal.returns-then-text-p
returns-then-text-p c = sym (item_end c.args.text.now c.args.p c.if-text-p.true)

pub returns-then-text-p-ne126 : goal.returns-then-text-p-ne126
returns-then-text-p-ne126 c = sym (item_literal c.args.text.now c.args.p c.if-text-p.false c.if-text-p-ne126.true)

pub returns-in-Ok : goal.returns-in-Ok
returns-in-Ok c = c.in-Ok.ensures ∙ sym (item_tilde c.args.text.now c.args.p c.if-text-p.false c.if-text-p-ne126.false)

pub returns-in-Err-BadNumber : goal.returns-in-Err-BadNumber
returns-in-Err-BadNumber c =
    rw c.in-Err-BadNumber.field-0-is at c.in-Err-BadNumber.ensures
    ∙ sym (item_tilde c.args.text.now c.args.p c.if-text-p.false c.if-text-p-ne126.false)

pub returns-in-Err-Unfinished : goal.returns-in-Err-Unfinished
returns-in-Err-Unfinished c =
    rw c.in-Err-Unfinished.field-0-is at c.in-Err-Unfinished.ensures
    ∙ sym (item_tilde c.args.text.now c.args.p c.if-text-p.false c.if-text-p-ne126.false)
