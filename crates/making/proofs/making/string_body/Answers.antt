-- `making::making::string_body` meets its contract: a string as it is or in quotes. Assumes nothing.
use Rattle.making.proofs.Spelled.{bare_quoted, bare_string}
use Rattle.making.proofs.Made.{makes_same, made_copied, made_quoted}
use Rattle.making.proofs.making.string_body.Goals as goal

pub returns-then-quoted : goal.returns-then-quoted
returns-then-quoted c =
    makes_same (bare_quoted c.args.quoted _ c.if-quoted.true)
    (made_quoted _ _ _ _ _ c.requires c.string_part.ensures
    c.quoted_size.ensures.size c.quoted_size.ensures.within)

pub returns-else-quoted : goal.returns-else-quoted
returns-else-quoted c = makes_same (bare_string c.args.quoted _ c.if-quoted.false) (made_copied _ _ _ _ c.requires)
