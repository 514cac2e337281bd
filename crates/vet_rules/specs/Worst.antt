-- The greatest length of one piece over all values of a kind, in constant time. Assumes nothing: these are definitions.
use Rattle.std.specs.Prelude.{ℕ, ◌+◌, ◌*◌, ◌-◌, Bool, true, false, cond, List, [], ◌∷◌, ltb, leb, ℤ, negsuc, length}
use Rattle.rules.specs.Number.{digits_of}
use Rattle.rules.specs.Table.{Kind, a_boolean, an_integer, a_character, a_string, a_list, no_kind, kind_tagged}
use Rattle.rules.specs.Piece.{or_else, times_padded, padding_of, numeral_of}
use Rattle.rules.specs.declared.Form.{Form}
use Rattle.rules.specs.declared.Form.TheVariants.{Object, Numeral, Glyph, Plural, Repeat, Fold}
use Rattle.rules.specs.declared.Settings.{Settings}

unfoldable pub larger : ℕ → ℕ → ℕ
larger a b = cond (leb a b) b a

-- the least multiple of padinc that is not below the shortfall
abbrev pub round_up : ℕ → ℕ → ℕ
round_up padinc shortfall = times_padded padinc shortfall * padinc

-- a text of so many bytes, with its padding ("Padding is minpad + N x padinc, N the least that brings the total to
-- minwidth")
abbrev pub padded_size : ℕ → ℕ → ℕ → ℕ → ℕ
padded_size minwidth padinc minpad size = size + padding_of minwidth padinc minpad size

-- What padding brings a text to at the most, minwidth + padinc - 1: just where the text and minpad stop one more than a
-- multiple of padinc short of minwidth. 0 where no text of least to most bytes does
unfoldable pub top_of : ℕ → ℕ → ℕ → ℕ → ℕ → ℕ
top_of minwidth padinc minpad least most =
    cond (ltb (round_up padinc (minwidth - 1 - (most + minpad))) (minwidth - (least + minpad))) (minwidth + padinc - 1) 0

-- the greatest padded length of the texts of least to most bytes: the longest text need not have it (`~5,4a`, L 5)
unfoldable pub greatest : ℕ → ℕ → ℕ → ℕ → ℕ → ℕ
greatest minwidth padinc minpad least most =
    larger (padded_size minwidth padinc minpad most) (top_of minwidth padinc minpad least most)

-- the lengths from least to most
pub record Span : Type 0 where
  pub least : ℕ
  pub most : ℕ

abbrev pub span : ℕ → ℕ → Span
span a b = record { least = a; most = b }

-- the lengths that the texts of a kind have before padding, and with true for `~s`: `#t` and `#f`; 0 to the least integer;
-- a character's byte, or `#\` and a name of 1 to 7 or 9 bytes; a string of at most `longest` bytes, or the same in quotes,
-- where each byte may have a backslash. A list has none
abbrev pub spans_by : ℕ → Bool → Kind → List Span
spans_by longest quoted a_boolean = span 2 2 ∷ []
spans_by longest quoted an_integer = span 1 20 ∷ []
spans_by longest false a_character = span 1 1 ∷ []
spans_by longest true a_character = span 3 9 ∷ span 11 11 ∷ []
spans_by longest false a_string = span 0 longest ∷ []
spans_by longest true a_string = span 2 (2 * longest + 2) ∷ []
spans_by longest quoted a_list = []
spans_by longest quoted no_kind = []

unfoldable pub spans_of : ℕ → Bool → ℕ → List Span
spans_of longest quoted kind = spans_by longest quoted (kind_tagged kind)

abbrev pub greatest_over : ℕ → ℕ → ℕ → List Span → ℕ
greatest_over minwidth padinc minpad [] = 0
greatest_over minwidth padinc minpad (s ∷ ss) =
    larger (greatest minwidth padinc minpad s.least s.most) (greatest_over minwidth padinc minpad ss)

-- the integer of the greatest magnitude
abbrev pub least_integer : ℤ
least_integer = negsuc 9223372036854775807

-- how many digits it has in a base
abbrev pub least_digits : ℕ → ℕ
least_digits base = length (digits_of base 9223372036854775808)

-- The greatest length of the piece of a form, with these modifiers, `:` and `@`, and parameters, over the values of a
-- kind that it takes. `~d x o b`: the least integer is never shorter than another. `~@c`: `#\backspace`; `~:c`: `^` and
-- a byte. `~p`: `s`, `~@p`: `ies`
unfoldable pub worst : ℕ → Form → Bool → Bool → Settings → ℕ → ℕ
worst longest (Object quoted) colon atsign s kind =
    greatest_over (or_else s.first 0) (or_else s.second 1) (or_else s.third 0) (spans_of longest quoted kind)
worst longest (Numeral base) colon atsign s kind = length (numeral_of base colon atsign s least_integer)
worst longest Glyph colon atsign s kind = cond atsign 11 (cond colon 2 1)
worst longest Plural colon atsign s kind = cond atsign 3 1
worst longest (Repeat b) colon atsign s kind = or_else s.first 1
worst longest Fold colon atsign s kind = cond atsign 1 0

-- no piece of any kind is longer, whatever its parameters, where no string is longer than 4,096 bytes
abbrev pub most_piece : ℕ
most_piece = 16385
