-- `check_text` meets its contract: the length first, then the text from its start, with no block open. Assumes nothing.
use Rattle.std.proofs.Common.{rules}
use Rattle.syntax.proofs.CheckLaws.{text_long, text_fault, text_right}
use Rattle.syntax.proofs.text.check_text.Goals as goal

pub returns-then-text-gt-LONGEST_FORMAT : goal.returns-then-text-gt-LONGEST_FORMAT
returns-then-text-gt-LONGEST_FORMAT c = text_long c.args.text.now c.if-text-gt-LONGEST_FORMAT.true

pub returns-in_err-check_from : goal.returns-in_err-check_from
returns-in_err-check_from c = search (rules, text_fault c.in_err-check_from.ensures c.if-text-gt-LONGEST_FORMAT.false)

pub returns : goal.returns
returns c = text_right _ c.in_ok-check_from.ensures c.if-text-gt-LONGEST_FORMAT.false
