-- What holds of every form: it suits where its argument comes from. A new form needs a line in `origin-suits`. Assumes
-- nothing.
use Prim.Native.Nat.{ℕ}
use mathlib.Core.Path.{◌≡◌, refl, ap, subst}
use mathlib.Core.Bool.{Bool, true}
use Rattle.rules.specs.Piece.{glyph_of, plural_of, is_one, text_of}
use Rattle.rules.specs.Rows.{form_row, form_places, accepts}
use Rattle.rules.specs.Table.{Value, character}
use Rattle.rules.specs.declared.Form.{Form}
use Rattle.rules.specs.declared.Form.TheVariants.{Object, Numeral, Glyph, Plural, Repeat, Fold}
use Rattle.rules.specs.declared.Origin.{Origin}
use Rattle.rules.specs.declared.Origin.TheVariants.{Nowhere, Next, NextOrBack, NextOrNumber}
use Rattle.rules.specs.declared.Place.TheVariants.{Number as NumberPlace}
use Rattle.rules.specs.declared.Settings.{Settings}

-- what takes no argument takes any value, and its text is the same for all
pub record TakesNone (f : Form) : Type 0 where
  pub takes : (kind : ℕ) → accepts f kind ≡ true
  pub text : (colon atsign : Bool) (s : Settings) (v w : Value) → text_of f colon atsign s v ≡ text_of f colon atsign s w

-- of an argument that is shown again only whether it is the integer 1 counts
abbrev pub StepsBack : Form → Type 0
StepsBack f =
    (colon atsign : Bool) (s : Settings) (v w : Value) → is_one v ≡ is_one w → text_of f colon atsign s v ≡ text_of f colon atsign s w

-- a number in place of the argument is the code of a character
pub record TakesNumber (f : Form) : Type 0 where
  pub place : (form_places f).first ≡ NumberPlace 0 127
  pub takes : accepts f 2 ≡ true
  pub text : (colon atsign : Bool) (s : Settings) (n : ℕ) → text_of f colon atsign s (character n) ≡ glyph_of colon atsign n

abbrev OriginSuits : Form → Origin → Type 0
OriginSuits f Nowhere = TakesNone f
OriginSuits f Next = Unit {0}
OriginSuits f NextOrBack = StepsBack f
OriginSuits f NextOrNumber = TakesNumber f

origin_suits : (f : Form) → OriginSuits f (form_row f).origin
unfolding text_of
origin_suits (Object q) = tt
origin_suits (Numeral base) = tt
origin_suits Glyph = record { place = refl; takes = refl; text = λ colon atsign s n. refl }
origin_suits Plural = λ colon atsign s v w e. ap (plural_of atsign) e
origin_suits (Repeat b) = record { takes = λ kind. refl; text = λ colon atsign s v w. refl }
origin_suits Fold = record { takes = λ kind. refl; text = λ colon atsign s v w. refl }

module _ (f : Form) where
  pub takes_none : (form_row f).origin ≡ Nowhere → TakesNone f
  takes_none e = subst (OriginSuits f) e (origin_suits f)

  pub steps_back : (form_row f).origin ≡ NextOrBack → StepsBack f
  steps_back e = subst (OriginSuits f) e (origin_suits f)

  pub takes_number : (form_row f).origin ≡ NextOrNumber → TakesNumber f
  takes_number e = subst (OriginSuits f) e (origin_suits f)
