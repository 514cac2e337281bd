-- Short directives, by the bytes of a text, and what the parts of their reader answer.
-- Assumes nothing: these are definitions.
use Rattle.std.specs.Prelude.{ℕ, ◌+◌, ◌≤◌, ◌<◌, ◌≡◌, ◌⊎◌, Bool, true, false, cond, List, [], ◌∷◌, eqb, length, get_or, drop}
use Rattle.rules.specs.Choice.{both}
use Rattle.rules.specs.Letters.{letter, look_up}
use Rattle.rules.specs.Directive.{Reading, start as starting, whole, lower_case, scan, item_at, no_parameters}
use Rattle.rules.specs.Text.{Block, verdict_at, innermost, outer, levels_at}
use Rattle.rules.specs.declared.Code.TheVariants.{Writes}
use Rattle.rules.specs.declared.Directive.{Directive}
use Rattle.rules.specs.declared.Form.{Form}
use Rattle.rules.specs.declared.Form.TheVariants.{Object, Numeral, Repeat}
use Rattle.rules.specs.declared.Item.TheVariants.{Written}
use Rattle.rules.specs.declared.Parameter.TheVariants.{Default, Number, Character}
use Rattle.rules.specs.declared.Parameters.{Parameters}
use Rattle.rules.specs.Setting.{Setting}
use Rattle.std.specs.Prelude.{Option, None, Some}
use Rattle.reader.specs.Scans.{digit_at, zeros_at, number_at, after_at}
use Rattle.reader.specs.declared.directive.NumberRead.{NumberRead}
use Rattle.reader.specs.declared.short.Kind.{Kind}
use Rattle.reader.specs.declared.short.Kind.TheVariants.{Object as ObjectKind, Numeral as NumeralKind, Repeat as RepeatKind}
use Rattle.reader.specs.declared.short.Leading.{Leading}
use Rattle.reader.specs.declared.short.Short.{Short}

-- What may be short: ~a and, with true, ~s; ~d ~x ~o ~b by their base; ~~ ~% ~_ ~| ~/ by the byte that they repeat
pub data Brief : Type 0 where
  object : Bool → Brief
  numeral : ℕ → Brief
  repeats : ℕ → Brief

abbrev pub form_of : Brief → Form
form_of (object q) = Object q
form_of (numeral base) = Numeral base
form_of (repeats b) = Repeat b

-- The same by kind and detail: the detail is 1 for ~s, the base, or the byte repeated
abbrev pub brief_of : Kind → ℕ → Brief
brief_of ObjectKind detail = object (eqb detail 1)
brief_of NumeralKind detail = numeral detail
brief_of RepeatKind detail = repeats detail

abbrev pub short_form : Kind → ℕ → Form
short_form kind detail = form_of (brief_of kind detail)

-- kind and detail by the letter
abbrev pub short_letters : List (ℕ × (Option Kind × ℕ))
short_letters =
    (letter "a", (Some ObjectKind, 0))
    ∷ (letter "s", (Some ObjectKind, 1))
    ∷ (letter "d", (Some NumeralKind, 10))
    ∷ (letter "x", (Some NumeralKind, 16))
    ∷ (letter "o", (Some NumeralKind, 8))
    ∷ (letter "b", (Some NumeralKind, 2))
    ∷ (letter "~", (Some RepeatKind, letter "~"))
    ∷ (letter "|", (Some RepeatKind, 12))
    ∷ (letter "%", (Some RepeatKind, letter "\n"))
    ∷ (letter "_", (Some RepeatKind, letter " "))
    ∷ (letter "/", (Some RepeatKind, letter "\t"))
    ∷ []

unfoldable pub short_kind : ℕ → Option Kind
short_kind b = (look_up short_letters (None, 0) b).0

unfoldable pub short_detail : ℕ → ℕ
short_detail b = (look_up short_letters (None, 0) b).1

-- the parameters of a short directive: a number x and a character y
abbrev pub short_parameters : Setting → Setting → Parameters
short_parameters None None = no_parameters
short_parameters (Some n) None =
    record { count = 1; first = Number n; second = Default; third = Default; fourth = Default; fifth = Default }
short_parameters None (Some c) =
    record { count = 2; first = Default; second = Character c; third = Default; fourth = Default; fifth = Default }
short_parameters (Some n) (Some c) =
    record { count = 2; first = Number n; second = Character c; third = Default; fourth = Default; fifth = Default }

abbrev pub short_directive : Form → Setting → Setting → ℕ → Directive
short_directive f x y after =
    record { code = Writes f; colon = false; atsign = false; parameters = short_parameters x y; after = after }

-- the parameters that a short directive takes
abbrev pub NumberIn : Setting → Type 0
NumberIn None = Unit {0}
NumberIn (Some n) = n ≤ 4096

abbrev pub CharacterIn : Setting → Type 0
CharacterIn None = Unit {0}
CharacterIn (Some c) = c < 256

abbrev pub NoneIn : Setting → Type 0
NoneIn None = Unit {0}
NoneIn (Some c) = ⊥

abbrev pub ShortIn : Brief → Setting → Setting → Type 0
ShortIn (object q) x y = NumberIn x × NoneIn y
ShortIn (numeral base) x y = NumberIn x × CharacterIn y
ShortIn (repeats b) x y = NumberIn x × NoneIn y

-- a short directive stands at p
pub record IsShort (t : List ℕ) (p : ℕ) (s : Brief) (x y : Setting) (after : ℕ) : Type 0 where
  pub item : item_at t p ≡ Written (short_directive (form_of s) x y after)
  pub suits : ShortIn s x y

abbrev pub ShortAt : List ℕ → ℕ → Option Short → Type 0
ShortAt t p None = Unit {0}
ShortAt t p (Some s) = IsShort t p (brief_of s.kind s.detail) s.number s.byte s.after

abbrev pub absent : Setting → Bool
absent None = true
absent (Some c) = false

-- whether a directive of the kind is short with this character, or none: only a numeral may have one
abbrev pub fits_in : Kind → Setting → Bool
fits_in ObjectKind byte = absent byte
fits_in NumeralKind byte = true
fits_in RepeatKind byte = absent byte

abbrev pub short_of : Option Kind → ℕ → Setting → Setting → ℕ → Option Short
short_of None detail number byte after = None
short_of (Some kind) detail number byte after =
    cond (fits_in kind byte)
    (Some (record { kind = kind; detail = detail; number = number; byte = byte; after = after })) None

-- the short directive whose parameters are read, and whose code stands at i
unfoldable pub coded_at : List ℕ → Setting → Setting → ℕ → Option Short
coded_at t number byte i =
    let b : ℕ = lower_case (get_or t i 0) in
    short_of (short_kind b) (short_detail b) number byte (i + 1)

-- the character c of a `,'c` at i, if there is one; and where the text goes on then
abbrev pub second_at : List ℕ → ℕ → Setting
second_at t i =
    cond (both (eqb (get_or t i 0) (letter ",")) (eqb (get_or t (i + 1) 0) (letter "'"))) (Some (get_or t (i + 2) 0)) None

abbrev pub after_second : ℕ → Setting → ℕ
after_second i None = i
after_second i (Some c) = i + 3

-- a number, or none, and where the text goes on after it
abbrev pub lead_to : Setting → ℕ → Leading
lead_to x i = record { number = x; after = i }

abbrev pub lead_of : Option NumberRead → Option Leading
lead_of None = None
lead_of (Some r) = Some (lead_to (Some r.value) r.after)

-- after the number, the character and the code; behind a number that is refused nothing short stands
abbrev pub short_after : List ℕ → Option Leading → Option Short
short_after t None = None
short_after t (Some r) = coded_at t r.number (second_at t r.after) (after_second r.after (second_at t r.after))

-- the number that begins at i, or none; one that begins with two zeros is refused, so that a directive with thousands of
-- them is read once, the general way
abbrev pub leading_at : List ℕ → ℕ → Option Leading
leading_at t i = cond (digit_at t i) (cond (zeros_at t i) None (lead_of (number_at t false i))) (Some (lead_to None i))

-- the short directive at p, if one stands there
unfoldable pub short_at : List ℕ → ℕ → Option Short
short_at t p = cond (eqb (get_or t p 0) (letter "~")) (short_after t (leading_at t (p + 1))) None

-- r is the short directive at p, and what that says
pub record ShortRead (t : List ℕ) (p : ℕ) (r : Option Short) : Type 0 where
  pub is : r ≡ short_at t p
  pub means : ShortAt t p r

-- where reading stands after a number that may be left out
abbrev pub leading : Setting → Reading
leading None = starting
leading (Some n) = whole (Number n)

-- the byte at i begins no parameter, or none but a number
pub record NoSign (t : List ℕ) (i : ℕ) : Type 0 where
  pub plus : get_or t i 0 ≡ letter "+" → ⊥
  pub minus : get_or t i 0 ≡ letter "-" → ⊥
  pub quoted : get_or t i 0 ≡ letter "'" → ⊥
  pub taken : (get_or t i 0 ≡ letter "V") ⊎ (get_or t i 0 ≡ letter "v") → ⊥
  pub counted : get_or t i 0 ≡ letter "#" → ⊥

-- the number that begins at `first`, or none, ends at r.after, unless a sign, a character, `v` or `#` follows; then
-- nothing short stands there
pub record Leads (t : List ℕ) (first : ℕ) (r : Leading) : Type 0 where
  pub is : r.after < length t → NoSign t r.after → (d : Directive)
      → scan starting d (drop first t) first ≡ after_at t (leading r.number) d r.after
  pub within : r.after ≤ length t
  pub few : NumberIn r.number

abbrev pub LeadsIf : List ℕ → ℕ → Option Leading → Type 0
LeadsIf t first None = Unit {0}
LeadsIf t first (Some r) = Leads t first r

pub record LeadRead (t : List ℕ) (first : ℕ) (r : Option Leading) : Type 0 where
  pub same : r ≡ leading_at t first
  pub leads : LeadsIf t first r

-- whatever blocks are open, what is found in reading from `first` on is found from r on, and both stand in one clause
pub record Skips (t : List ℕ) (first r : ℕ) : Type 0 where
  pub same : (os : List Block) → verdict_at t os first ≡ verdict_at t os r
  pub more : (innermost (levels_at t first)).more ≡ (innermost (levels_at t r)).more
  pub outside : outer (levels_at t first) ≡ outer (levels_at t r)
  pub least : first ≤ r
  pub most : first ≤ length t → r ≤ length t

-- the text ends at r, or a directive stands there that is not short
abbrev pub Stops : List ℕ → ℕ → Type 0
Stops t r = (length t ≤ r) ⊎ ((get_or t r 0 ≡ letter "~") × (short_at t r ≡ None))

pub record SkipsShort (t : List ℕ) (first r : ℕ) : Type 0 where
  pub over : Skips t first r
  pub stops : Stops t r
