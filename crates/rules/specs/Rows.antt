-- What each directive is: the places of its parameters, its modifiers, the kinds that it takes, where its argument comes
-- from, and whether it is plain. 01's list of places, in its order. Assumes nothing: these are definitions.
use Rattle.std.specs.Prelude.{ℕ, Bool, true, false, cond, not, List, [], ◌∷◌, leb, eqb}
use Rattle.rules.specs.Choice.{both, either}
use Rattle.rules.specs.declared.Bracket.TheVariants.{Conditional, Iteration}
use Rattle.rules.specs.declared.Code.{Code}
use Rattle.rules.specs.declared.Code.TheVariants.{Writes, Jump, Escape, Opens, Separator, Closes, Unknown}
use Rattle.rules.specs.declared.Directive.{Directive}
use Rattle.rules.specs.declared.Form.{Form}
use Rattle.rules.specs.declared.Form.TheVariants.{Object, Numeral, Glyph, Plural, Repeat, Fold}
use Rattle.rules.specs.declared.Kinds.{Kinds}
use Rattle.rules.specs.declared.Kinds.TheVariants.{Any as AnyKind, NoList, Integer, Character as CharacterKind}
use Rattle.rules.specs.declared.Modifiers.{Modifiers}
use Rattle.rules.specs.declared.Modifiers.TheVariants.{Neither, Colon, At, Either, Any}
use Rattle.rules.specs.declared.Origin.TheVariants.{Nowhere, Next as NextArgument, NextOrBack, NextOrNumber}
use Rattle.rules.specs.declared.Parameter.{Parameter}
use Rattle.rules.specs.declared.Parameter.TheVariants.{Default, Number, Character, Next, Remaining}
use Rattle.rules.specs.declared.Parameters.{Parameters}
use Rattle.rules.specs.declared.Place.{Place}
use Rattle.rules.specs.declared.Place.TheVariants.{Empty, Number as NumberPlace, Character as CharacterPlace}
use Rattle.rules.specs.declared.Places.{Places}
use Rattle.rules.specs.declared.Plainness.{Plainness}
use Rattle.rules.specs.declared.Plainness.TheVariants.{Plain, Conditional as PlainButFor, Never}
use Rattle.rules.specs.declared.Row.{Row}

-- any number that can be written
abbrev pub any_number : Place
any_number = NumberPlace 0 4096

-- "Padinc and commawidth are at least 1."
abbrev pub counting_number : Place
counting_number = NumberPlace 1 4096

abbrev pub no_places : Places
no_places = record { count = 0; first = Empty; second = Empty; third = Empty; fourth = Empty; fifth = Empty }

abbrev pub one_place : Place → Places
one_place y = record { count = 1; first = y; second = Empty; third = Empty; fourth = Empty; fifth = Empty }

abbrev pub four_places : Place → Place → Place → Place → Places
four_places a b c d = record { count = 4; first = a; second = b; third = c; fourth = d; fifth = Empty }

-- minwidth, padinc, minpad and padchar: padding round a text
abbrev pub padding_places : Places
padding_places = four_places any_number counting_number any_number CharacterPlace

-- a directive that takes no argument by itself
abbrev pub no_argument : Places → Modifiers → Plainness → Row
no_argument ys ms p = record { places = ys; modifiers = ms; kinds = AnyKind; origin = Nowhere; plainness = p }

-- The directives that write. `a s`: "minwidth .., padinc .., minpad .., padchar .. Modifier @.", and "A list is of the wrong
-- kind." `d x o b`: "minwidth .., padchar .., commachar .., commawidth .. Any modifiers.", "integers only". `c`: "charnum, 0
-- to 127. Modifier : or @, not both.", "a character, or charnum without taking an argument". `p`: "none, any modifiers",
-- "`:` first steps back one argument. Any kind." "`* ~ % _ | /`: n .. the others none." "Newline: none; : or @, not both."
abbrev pub form_row : Form → Row
form_row (Object q) = record {
  places = padding_places;
  modifiers = At;
  kinds = NoList;
  origin = NextArgument;
  plainness = Plain;
}
form_row (Numeral b) = record {
  places = four_places any_number CharacterPlace CharacterPlace counting_number;
  modifiers = Any;
  kinds = Integer;
  origin = NextArgument;
  plainness = Plain;
}
form_row Glyph = record {
  places = one_place (NumberPlace 0 127);
  modifiers = Either;
  kinds = CharacterKind;
  origin = NextOrNumber;
  plainness = Plain;
}
form_row Plural = record { places = no_places; modifiers = Any; kinds = AnyKind; origin = NextOrBack; plainness = Plain }
form_row (Repeat b) = no_argument (one_place any_number) Neither Plain
form_row Fold = no_argument no_places Either Plain

-- All of them, by whether a modifier is written. `*`: "n", ": or @, not both". `[`: "n, only without modifier. Modifier : or
-- @, not both." `{`: "most passes .. Modifier @." `;`: "none, modifier :". "`] } ^`: none, no modifiers." "Plain means none
-- of `~* ~[ ~{ ~^`"; `~; ~] ~}` stand only after a `~[` or `~{`
abbrev pub row_of : Code → Bool → Row
row_of (Writes f) modified = form_row f
row_of Jump modified = no_argument (one_place any_number) Either Never
row_of Escape modified = no_argument no_places Neither Never
row_of (Opens Conditional) modified = no_argument (cond modified no_places (one_place any_number)) Either PlainButFor
row_of (Opens Iteration) modified = no_argument (one_place any_number) At Never
row_of Separator modified = no_argument no_places Colon Plain
row_of (Closes b) modified = no_argument no_places Neither Plain
row_of Unknown modified = no_argument no_places Any Plain

abbrev pub row_in : Directive → Row
row_in d = row_of d.code (either d.colon d.atsign)

abbrev pub form_places : Form → Places
form_places f = (form_row f).places

abbrev pub places_in : Directive → Places
places_in d = (row_in d).places

abbrev pub takes : Modifiers → Bool → Bool → Bool
takes Neither colon atsign = not (either colon atsign)
takes Colon colon atsign = not atsign
takes At colon atsign = not colon
takes Either colon atsign = not (both colon atsign)
takes Any colon atsign = true

-- "A byte after `'` fits only a character place; a number or `#` only a number place." "A literal zero where 1 is
-- least, or charnum above 127, is code 5."
abbrev pub suits : Place → Parameter → Bool
suits Empty Default = true
suits Empty (Number n) = false
suits Empty (Character c) = false
suits Empty Next = false
suits Empty Remaining = false
suits (NumberPlace least most) Default = true
suits (NumberPlace least most) (Number n) = both (leb least n) (leb n most)
suits (NumberPlace least most) (Character c) = false
suits (NumberPlace least most) Next = true
suits (NumberPlace least most) Remaining = true
suits CharacterPlace Default = true
suits CharacterPlace (Number n) = false
suits CharacterPlace (Character c) = true
suits CharacterPlace Next = true
suits CharacterPlace Remaining = false

-- the places in order, and the parameters; those that are not written are empty
abbrev pub in_row : Places → List Place
in_row ys = ys.first ∷ ys.second ∷ ys.third ∷ ys.fourth ∷ ys.fifth ∷ []

abbrev pub in_order : Parameters → List Parameter
in_order ps = ps.first ∷ ps.second ∷ ps.third ∷ ps.fourth ∷ ps.fifth ∷ []

abbrev pub each_suits : List Place → List Parameter → Bool
each_suits [] xs = true
each_suits (y ∷ ys) [] = true
each_suits (y ∷ ys) (x ∷ xs) = both (suits y x) (each_suits ys xs)

-- "more than the code has places is code 5"
abbrev pub fit_into : Places → Parameters → Bool
fit_into ys ps = both (leb ps.count ys.count) (each_suits (in_row ys) (in_order ps))

-- "wrong parameter or modifier, seen in the text" is what this is not
unfoldable pub well_written : Directive → Bool
well_written d = both (takes (row_in d).modifiers d.colon d.atsign) (fit_into (places_in d) d.parameters)

-- the kinds, by their tags
abbrev pub kind_taken : Kinds → ℕ → Bool
kind_taken AnyKind kind = true
kind_taken NoList kind = not (eqb kind 4)
kind_taken Integer kind = eqb kind 1
kind_taken CharacterKind kind = eqb kind 2

abbrev pub accepts : Form → ℕ → Bool
accepts f kind = kind_taken (form_row f).kinds kind

-- "Plain means none of ..", or with true the same but for `~[`: "in formats otherwise plain"
abbrev pub plain_but : Bool → Plainness → Bool
plain_but choosing Plain = true
plain_but choosing PlainButFor = choosing
plain_but choosing Never = false
