-- A string in quotes is cut at the end of the window, and the rest of it kept. Assumes nothing.
use Rattle.filling.proofs.GivingLaws.{quote_in, given_quoted}
use Rattle.filling.proofs.giving.cut_quote.Goals as goal

pub write_rest-w-requires-clause-rest_in : goal.write_rest-w-requires-clause-rest_in
write_rest-w-requires-clause-rest_in c =
    let a = c.args in
    quote_in a.table.now a.piece c.requires.good c.requires.content_value c.quote_rest-q.ensures

pub returns : goal.returns
returns c =
    let a = c.args in
    λ before.
    rw c.full.ensures (given_quoted a.table.now a.piece before a.after a.at c.requires.content_value c.quote_rest-q.ensures
    c.requires.at_in_bounds c.requires.no_room c.write_rest-w.ensures)
