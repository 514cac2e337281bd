-- Marks, by the bytes of a text: the directives that open, part and close blocks, where no parameter is written.
-- Assumes nothing: these are definitions.
use Rattle.std.specs.Prelude.{ℕ, ◌+◌, ◌≡◌, Bool, true, false, cond, List, leb, eqb, length, get_or, Option, None, Some}
use Rattle.rules.specs.Choice.{both, either}
use Rattle.rules.specs.Letters.{letter}
use Rattle.rules.specs.Directive.{no_parameters, item_at}
use Rattle.rules.specs.Rows.{well_written}
use Rattle.rules.specs.declared.Bracket.TheVariants.{Conditional, Iteration}
use Rattle.rules.specs.declared.Code.{Code}
use Rattle.rules.specs.declared.Code.TheVariants.{Opens, Separator as CodeSeparator, Closes}
use Rattle.rules.specs.declared.Directive.{Directive}
use Rattle.rules.specs.declared.Item.TheVariants.{Written}
use Rattle.reader.specs.declared.marks.Mark.{Mark}
use Rattle.reader.specs.declared.marks.Mark.TheVariants.{Separator, EndConditional, EndIteration, Numbered, TwoClauses, OneClause, OverList, OverArguments}

-- b stands for x, or for another
abbrev pub means : {A : Type 0} → ℕ → ℕ → A → A → A
means b k x other = cond (eqb b k) x other

-- the mark of a code after `:` or `@`
abbrev pub mark_after_colon : ℕ → Option Mark
mark_after_colon b = means b (letter "[") (Some TwoClauses) None

abbrev pub mark_after_at : ℕ → Option Mark
mark_after_at b = means b (letter "[") (Some OneClause) (means b (letter "{") (Some OverArguments) None)

-- the mark of the bytes b and c after a tilde
unfoldable pub mark_of : ℕ → ℕ → Option Mark
mark_of b c =
    means b (letter ";") (Some Separator)
    (means b (letter "]") (Some EndConditional)
    (means b (letter "}") (Some EndIteration)
    (means b (letter "[") (Some Numbered)
    (means b (letter "{") (Some OverList)
    (means b (letter ":") (mark_after_colon c)
    (means b (letter "@") (mark_after_at c)
    None))))))

-- the mark at p
abbrev pub mark_at : List ℕ → ℕ → Option Mark
mark_at t p = cond (eqb (get_or t p 0) (letter "~")) (mark_of (get_or t (p + 1) 0) (get_or t (p + 2) 0)) None

-- how many bytes a mark has
abbrev pub mark_size : Mark → ℕ
mark_size Separator = 2
mark_size EndConditional = 2
mark_size EndIteration = 2
mark_size Numbered = 2
mark_size TwoClauses = 3
mark_size OneClause = 3
mark_size OverList = 2
mark_size OverArguments = 3

abbrev pub mark_code : Mark → Code
mark_code Separator = CodeSeparator
mark_code EndConditional = Closes Conditional
mark_code EndIteration = Closes Iteration
mark_code Numbered = Opens Conditional
mark_code TwoClauses = Opens Conditional
mark_code OneClause = Opens Conditional
mark_code OverList = Opens Iteration
mark_code OverArguments = Opens Iteration

-- its modifiers
abbrev pub mark_colon : Mark → Bool
mark_colon TwoClauses = true
mark_colon _ = false

abbrev pub mark_at_sign : Mark → Bool
mark_at_sign OneClause = true
mark_at_sign OverArguments = true
mark_at_sign _ = false

-- the directive that a mark stands for, after which the text goes on at next
unfoldable pub mark_directive : Mark → ℕ → Directive
mark_directive m after = record {
  code = mark_code m;
  colon = mark_colon m;
  atsign = mark_at_sign m;
  parameters = no_parameters;
  after = after;
}

-- the mark m stands at p
pub record IsMark (t : List ℕ) (p : ℕ) (m : Mark) : Type 0 where
  pub item : item_at t p ≡ Written (mark_directive m (p + mark_size m))
  pub well : (after : ℕ) → well_written (mark_directive m after) ≡ true

-- `~;` `~]` and `~}`
abbrev pub is_closer : ℕ → Bool
is_closer b = either (eqb b (letter ";")) (either (eqb b (letter "]")) (eqb b (letter "}")))

-- the text ends at p, or a clause or a block does
abbrev pub closes_at : List ℕ → ℕ → Bool
closes_at t p = either (leb (length t) p) (both (eqb (get_or t p 0) (letter "~")) (is_closer (get_or t (p + 1) 0)))
