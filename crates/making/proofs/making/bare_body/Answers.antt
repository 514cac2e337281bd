-- `making::making::bare_body` meets its contract: each kind of argument has the text that the definition gives it.
-- Assumes nothing.
use mathlib.Core.Bool.{false}
use mathlib.Core.Path.{◌≡◌, ap, ◌∙◌}
use mir.Val.{of_z, to_z}
use mir.ValLaws.{to_z-of_z}
use Rattle.std.proofs.Common.{rules}
use mir.Syntax.{w64}
use Rattle.making.specs.Texts.{number_of}
use Rattle.making.proofs.Spelled.{bare_at, bare_boolean, bare_integer, bare_written, bare_character, bare_list}
use Rattle.making.proofs.Made.{makes_same}
use Rattle.making.proofs.making.bare_body.Goals as goal

pub returns-in-Boolean : goal.returns-in-Boolean
returns-in-Boolean c =
    makes_same (bare_boolean c.args.quoted _
    ∙ bare_at c.args.quoted c.args.table.now c.in-Boolean.is)
    (c.flag_body.ensures c.args.table.now)

pub returns-in-Integer : goal.returns-in-Integer
returns-in-Integer c =
    let back : to_z w64 (of_z w64 c.in-Integer.x) ≡ c.in-Integer.x = search (rules, to_z-of_z) in
    makes_same (ap (number_of 10 false 0 44) back ∙ bare_integer c.args.quoted _
    ∙ bare_at c.args.quoted c.args.table.now c.in-Integer.is)
    (c.figure_body.ensures c.args.table.now)

pub returns-in-Character : goal.returns-in-Character
returns-in-Character c =
    makes_same (bare_written c.args.quoted _ c.if-quoted.true
    ∙ bare_at c.args.quoted c.args.table.now c.in-Character.is)
    (c.written_body.ensures c.args.table.now)

pub returns-in-Character-2 : goal.returns-in-Character-2
returns-in-Character-2 c =
    makes_same (bare_character c.args.quoted _ c.if-quoted.false
    ∙ bare_at c.args.quoted c.args.table.now c.in-Character-2.is)
    (c.run_body.ensures c.args.table.now)

pub returns-in-Entries : goal.returns-in-Entries
returns-in-Entries c =
    makes_same (bare_list c.args.quoted _ _
    ∙ bare_at c.args.quoted c.args.table.now c.in-Entries.is)
    (c.run_body-in-Entries.ensures c.args.table.now)
