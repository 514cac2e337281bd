-- `making::making::make_piece` meets its contract: each form has the text that the definition gives it. Assumes
-- nothing.
use mathlib.Core.Path.{ap, ◌∙◌}
use mir.ValLaws.{to_z-of_z}
use mir.Syntax.{w64}
use Rattle.rules.specs.Table.{meant}
use Rattle.rules.specs.Piece.{numeral_of, glyph_of, plural_of, text_of}
use Rattle.making.proofs.Spelled.{or_else_is, text_at}
use Rattle.making.proofs.Made.{gives_same}
use Rattle.pieces.proofs.Parts.{fill_same}
use Rattle.making.proofs.making.make_piece.Goals as goal

pub returns-in-Object : goal.returns-in-Object
unfolding text_of
returns-in-Object c =
    gives_same (text_at c.in-Object.is c.args.colon c.args.atsign c.args.settings (meant c.args.table.now c.args.argument))
    (c.around.ensures.gives _ _ c.bare_body.ensures)

pub returns-in-Numeral : goal.returns-in-Numeral
unfolding text_of
returns-in-Numeral c =
    let back = to_z-of_z w64 c.integer_of.result (record { sfits = c.integer_of.type_inv }) in
    gives_same (ap (numeral_of _ c.args.colon c.args.atsign c.args.settings)
    (back ∙ c.integer_of.ensures c.args.table.now)
    ∙ text_at c.in-Numeral.is c.args.colon c.args.atsign
    c.args.settings (meant c.args.table.now c.args.argument))
    (c.make_numeral.ensures c.args.table.now)

pub returns-in-Glyph : goal.returns-in-Glyph
unfolding text_of
returns-in-Glyph c =
    gives_same (ap (glyph_of c.args.colon c.args.atsign)
    (c.code_of.ensures c.args.table.now)
    ∙ text_at c.in-Glyph.is c.args.colon c.args.atsign
    c.args.settings (meant c.args.table.now c.args.argument))
    (c.bare_piece.ensures.gives c.args.table.now _
    (c.glyph_body.ensures c.args.table.now))

pub returns-in-Plural : goal.returns-in-Plural
unfolding text_of
returns-in-Plural c =
    gives_same (ap (plural_of c.args.atsign)
    (c.is_one.ensures c.args.table.now)
    ∙ text_at c.in-Plural.is c.args.colon c.args.atsign
    c.args.settings (meant c.args.table.now c.args.argument))
    (c.bare_piece-in-Plural.ensures.gives c.args.table.now _
    (c.plural_body.ensures c.args.table.now))

pub returns-in-Repeat : goal.returns-in-Repeat
unfolding text_of
returns-in-Repeat c =
    gives_same (fill_same _ _ _ (c.unwrap_or.ensures ∙ or_else_is c.args.settings.first 1)
    ∙ text_at c.in-Repeat.is c.args.colon c.args.atsign
    c.args.settings (meant c.args.table.now c.args.argument))
    (c.bare_piece-in-Repeat.ensures.gives c.args.table.now _ (c.run_body.ensures c.args.table.now))

pub returns-in-Fold : goal.returns-in-Fold
unfolding text_of
returns-in-Fold c =
    gives_same (text_at c.in-Fold.is c.args.colon c.args.atsign
    c.args.settings (meant c.args.table.now c.args.argument))
    (c.bare_piece-in-Fold.ensures.gives c.args.table.now _
    (c.fold_body.ensures c.args.table.now))
