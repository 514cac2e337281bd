-- `reader::short::leading_number` meets its contract: a number, one that is refused, or none. Assumes nothing.
use Rattle.std.proofs.Common.{sym}
use Rattle.reader.proofs.ShortLaws.{leads_none, leads_number}
use Rattle.reader.proofs.short.leading_number.Goals as goal

pub returns-then-not-digit_at : goal.returns-then-not-digit_at
returns-then-not-digit_at c = leads_none c.args.text.now c.args.start c.requires (sym c.if-not-digit_at.ensures)

pub returns : goal.returns
returns c =
    leads_number c.args.text.now c.args.start _ (sym c.if-not-digit_at.ensures) (sym c.if-zeros_at.ensures)
    c.read_number.ensures c.in_ok-r.r c.in_ok-r.was
