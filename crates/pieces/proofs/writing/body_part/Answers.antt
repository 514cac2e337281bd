-- `pieces::writing::body_part` meets its contract: each source has its own writer of a part. Assumes nothing.
use mathlib.Core.Path.{refl, sym, ◌∙◌}
use native.Mathlib.Omega.{arith}
use Rattle.pieces.proofs.Parts.{part_fill}
use Rattle.pieces.proofs.Bodies.{is_run, is_copied, is_quoted, is_figures, is_word}
use Rattle.pieces.proofs.writing.body_part.Goals as goal

pub string_part-requires : goal.string_part-requires
string_part-requires c =
    (is_copied c.requires.good_body _ _ refl
    c.in-Copied.is).places

pub copy_part-requires : goal.copy_part-requires
copy_part-requires c =
    let lent =
    is_copied c.requires.good_body _ _ c.string_part.ensures c.in-Copied.is in
    rw lent.size at c.requires.out_len_bound

pub string_part-requires-in-Quoted : goal.string_part-requires-in-Quoted
string_part-requires-in-Quoted c =
    (is_quoted c.requires.good_body _ _ refl
    c.in-Quoted.is).places

pub quote_part-requires-clause-size_value : goal.quote_part-requires-clause-size_value
quote_part-requires-clause-size_value c =
    let lent =
    is_quoted c.requires.good_body _ _ c.string_part-in-Quoted.ensures c.in-Quoted.is in
    lent.size

pub quote_part-requires-clause-size_bound : goal.quote_part-requires-clause-size_bound
quote_part-requires-clause-size_bound c = c.requires.good_body.small

pub write_part-requires-clause-good_figure : goal.write_part-requires-clause-good_figure
write_part-requires-clause-good_figure c = (is_figures c.requires.good_body _ c.in-Figures.is).places

pub write_part-requires-clause-size_value : goal.write_part-requires-clause-size_value
write_part-requires-clause-size_value c = (is_figures c.requires.good_body _ c.in-Figures.is).size

pub shared_ref_as_front-copy_part : goal.shared_ref_as_front-copy_part
shared_ref_as_front-copy_part c = omega (arith, (is_word c.requires.good_body _ c.in-Word.is).places)

pub copy_part-requires-in-Word : goal.copy_part-requires-in-Word
copy_part-requires-in-Word c = rw (is_word c.requires.good_body _ c.in-Word.is).size at c.requires.out_len_bound

pub returns-in-Run : goal.returns-in-Run
returns-in-Run c =
    c.fill.ensures
    ∙ sym (rw (is_run c.requires.good_body _ _ c.in-Run.is).text
    (part_fill c.args.from _ _ _
    (rw (is_run c.requires.good_body _ _ c.in-Run.is).places
    at c.requires.out_len_bound)))

pub returns-in-Copied : goal.returns-in-Copied
returns-in-Copied c =
    let lent =
    is_copied c.requires.good_body _ _ c.string_part.ensures
    c.in-Copied.is in
    rw lent.text
    c.copy_part.ensures

pub returns-in-Quoted : goal.returns-in-Quoted
returns-in-Quoted c =
    let lent =
    is_quoted c.requires.good_body _ _ c.string_part-in-Quoted.ensures
    c.in-Quoted.is in
    rw lent.text
    c.quote_part.ensures

pub returns-in-Figures : goal.returns-in-Figures
returns-in-Figures c =
    rw (is_figures c.requires.good_body _ c.in-Figures.is).text
    c.write_part.ensures

pub returns-in-Word : goal.returns-in-Word
returns-in-Word c =
    rw (is_word c.requires.good_body _
    c.in-Word.is).text
    c.copy_part-in-Word.ensures
