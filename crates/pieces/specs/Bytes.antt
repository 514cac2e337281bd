-- What a piece stands for: its bytes, and when its parts are in order. Assumes nothing: these are definitions.
use Rattle.std.specs.Prelude.{◌≡◌, ℕ, ◌+◌, ◌-◌, ◌≤◌, min, Bool, true, false, cond, List, [], ◌∷◌, ◌++◌, eqb, length, take, drop, replicate}
use Rattle.rules.specs.Letters.{letter, bytes}
use Rattle.rules.specs.Number.{digits_of, grouped}
use Rattle.rules.specs.Piece.{escaped}
use Rattle.pieces.specs.declared.Figure.{Figure}
use Rattle.pieces.specs.declared.Content.{Content}
use Rattle.pieces.specs.declared.Content.TheVariants.{Run, Copied, Quoted, Figures, Word}
use Rattle.pieces.specs.declared.Body.{Body}
use Rattle.pieces.specs.declared.Piece.{Piece}

-- the n bytes of a text from a place on
abbrev pub part : ℕ → ℕ → List ℕ → List ℕ
part from n xs = take n (drop from xs)

-- a byte before which a backslash stands: a quote or a backslash
unfoldable pub is_marked : ℕ → Bool
is_marked b = cond (eqb b (letter "\"")) true (eqb b (letter "\\"))

-- what is to come of an escaped text, where the backslash of the first byte may be gone already
unfoldable pub owed : Bool → List ℕ → List ℕ
owed false s = escaped s
owed true [] = []
owed true (b ∷ s) = b ∷ escaped s

-- a string in quotes
unfoldable pub quoted_of : List ℕ → List ℕ
quoted_of s = letter "\"" ∷ escaped s ++ bytes "\""

-- the digits of a number, in groups where the width is not 0
unfoldable pub digits_in : Figure → List ℕ
digits_in x =
    cond (eqb x.width 0) (digits_of x.base x.magnitude)
    (grouped x.width x.comma (digits_of x.base x.magnitude))

-- a sign before them; 0 is none
unfoldable pub signed : ℕ → List ℕ
signed sign = cond (eqb sign 0) [] (sign ∷ [])

unfoldable pub figure_of : Figure → List ℕ
figure_of x = signed x.sign ++ digits_in x

unfoldable pub content_of : List ℕ → List ℕ → Content → List ℕ
content_of t word (Run b n) = replicate n b
content_of t word (Copied start end) = part start (end - start) t
content_of t word (Quoted start end) = quoted_of (part start (end - start) t)
content_of t word (Figures x) = figure_of x
content_of t word (Word n) = take n word

-- the text before padding, from the table t
abbrev pub body_of : List ℕ → Body → List ℕ
body_of t b = content_of t b.word b.content

-- a text with so many bytes of padding on its left and on its right
abbrev pub beside : ℕ → ℕ → ℕ → List ℕ → List ℕ
beside before behind pad text = replicate before pad ++ (text ++ replicate behind pad)

-- the bytes of a piece
unfoldable pub bytes_of : List ℕ → Piece → List ℕ
bytes_of t p = beside p.before p.behind p.pad (body_of t p.body)

pub record GoodFigure (x : Figure) : Type 0 where
  pub base : (2 ≤ x.base) × (x.base ≤ 36)
  pub width : x.width ≤ 4096
  pub digits : length (digits_of x.base x.magnitude) ≤ 64

-- the places that a source names are there
unfoldable pub Inside : List ℕ → List ℕ → Content → Type 0
Inside t word (Run b n) = 0 ≤ n
Inside t word (Copied start end) = (start ≤ end) × (end ≤ length t)
Inside t word (Quoted start end) = (start ≤ end) × (end ≤ length t)
Inside t word (Figures x) = GoodFigure x
Inside t word (Word n) = n ≤ length word

-- the size is right and small
pub record GoodBody (t : List ℕ) (b : Body) : Type 0 where
  pub size : b.size ≡ length (body_of t b)
  pub small : b.size ≤ 131074
  pub inside : Inside t b.word b.content

pub record Good (t : List ℕ) (p : Piece) : Type 0 where
  pub body : GoodBody t p.body
  pub padding : p.before + p.behind ≤ 65536

-- a body that is in order and stands for a text, and a piece that does
pub record Makes (t : List ℕ) (b : Body) (text : List ℕ) : Type 0 where
  pub good : GoodBody t b
  pub is : body_of t b ≡ text

pub record Gives (t : List ℕ) (p : Piece) (text : List ℕ) : Type 0 where
  pub good : Good t p
  pub is : bytes_of t p ≡ text

-- a window of n places from `from` on, over x places, y places and the rest: those below a fall in the first, those
-- below b in the second, from its place start on
pub record Window (x y from n a b start : ℕ) : Type 0 where
  pub first : a ≡ min n (x - from)
  pub second : b ≡ min n (x + y - from)
  pub begins : start ≡ from - x
  pub order : a ≤ b
  pub inside : b ≤ n
  pub middle : b - a ≤ y - start
