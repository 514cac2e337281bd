-- Short directives by their letters: what kind and detail say is the code, and what suits a kind. Assumes nothing.
use mathlib.Core.Path.{◌≡◌, subst}
use mathlib.Core.Bool.{true}
use Prim.Native.Nat.{ℕ}
use Rattle.std.specs.Prelude.{Option, None, Some}
use Rattle.rules.specs.Directive.{code_named}
use Rattle.rules.specs.Setting.{Setting}
use Rattle.rules.specs.declared.Code.TheVariants.{Writes}
use Rattle.rules.proofs.Tables.{Each, looked_up}
use Rattle.reader.specs.Shorts.{NumberIn, CharacterIn, ShortIn, brief_of, short_form, short_letters, short_kind, short_detail, fits_in}
use Rattle.reader.specs.declared.short.Kind.{Kind}
use Rattle.reader.specs.declared.short.Kind.TheVariants.{Object, Numeral, Repeat}
use Rattle.reader.proofs.ScanLaws.{no_both}

-- kind and detail say what the code is
abbrev SaysOf : ℕ → Option Kind → ℕ → Type 0
SaysOf b None detail = Unit {0}
SaysOf b (Some kind) detail = code_named b ≡ Writes (short_form kind detail)

abbrev Says : ℕ → Option Kind × ℕ → Type 0
Says b x = SaysOf b x.0 x.1

letters_say : Each Says short_letters
unfolding code_named
letters_say = search tt

pub kind_is : (b : ℕ) (kind : Kind) → short_kind b ≡ Some kind → code_named b ≡ Writes (short_form kind (short_detail b))
unfolding short_kind short_detail
kind_is b kind e = subst (λ (o : Option Kind). SaysOf b o (short_detail b)) e (looked_up Says short_letters (None, 0) b letters_say tt)

-- a directive of the kind is short with this character, or none
pub short_in_lem : (kind : Kind) (detail : ℕ) (x y : Setting) → fits_in kind y ≡ true → NumberIn x → CharacterIn y
    → ShortIn (brief_of kind detail) x y
short_in_lem Object detail x None f h k = (h, tt)
short_in_lem Object detail x (Some c) f h k = absurd (no_both f)
short_in_lem Numeral detail x y f h k = (h, k)
short_in_lem Repeat detail x None f h k = (h, tt)
short_in_lem Repeat detail x (Some c) f h k = absurd (no_both f)
