-- The texts that the makers write, beside the definitions of what each directive writes. Assumes nothing.
use mathlib.Core.Path.{◌≡◌, refl, sym, ap, ◌∙◌}
use mathlib.Core.Logic.{◌≢◌}
use mathlib.Core.Bool.{Bool, true, false, cond}
use mathlib.Core.List.{List, [], ◌∷◌, ◌++◌, append-nil}
use Prim.Native.Nat.{ℕ, ◌+◌, ◌-◌, ◌/◌, ◌%◌, ◌≤◌, ◌<◌}
use native.Mathlib.Omega.{arith}
use borrow.Author.Tests.{lt-ltb, ne_eqb}
use lib.IntN.{ℤ}
use lib.ListN.{length, replicate}
use Rattle.rules.specs.declared.Place.TheVariants.{Number as NumberPlace}
use Rattle.rules.specs.Number.{digit_byte, digits_of, magnitude_of, sign_of, pad_left}
use Rattle.rules.specs.Piece.{or_else, name_of, written_of, bare_of, padding_of, around, digits_in, text_of}
use Rattle.rules.specs.Table.{Value, boolean, integer, character, string, list, meant}
use Rattle.rules.specs.declared.Argument.{Argument}
use Rattle.rules.specs.declared.Form.{Form}
use Rattle.rules.specs.Setting.{Setting}
use Rattle.std.specs.Option.{unwrap_or}
use Rattle.std.specs.Prelude.{None, Some}
use Rattle.rules.specs.declared.Settings.{Settings}
use Rattle.rules.proofs.Digits.{digits_one, digits_more}
use Rattle.pieces.specs.Bytes.{quoted_of, signed, figure_of, digits_in as figure_digits}
use Rattle.pieces.specs.declared.Figure.{Figure}
use Rattle.rules.specs.Working.{InPlace}
use Rattle.making.specs.Texts.{number_of, unnamed_of}

-- a parameter with its default, as the library has it
pub or_else_is : (s : Setting) (d : ℕ) → unwrap_or s d ≡ or_else s d
or_else_is None d = refl
or_else_is (Some n) d = refl

-- and in the range of its place
pub in_range_lem : {least most : ℕ} (s : Setting) (d : ℕ) → InPlace (NumberPlace least most) s → least ≤ d → d ≤ most
    → (least ≤ or_else s d) × (or_else s d ≤ most)
in_range_lem None d a h k = (h, k)
in_range_lem (Some n) d a h k = a

-- the hex digits of a code below 32
pub hex_one : (c low : ℕ) → c / 16 ≡ 0 → low ≡ digit_byte (c % 16) → low ∷ [] ≡ digits_of 16 c
hex_one c low e l =
    let r : c % 16 ≡ c = omega arith in
    rw (l, r) (sym (digits_one 16 c (omega arith)))

pub hex_two : (c low : ℕ) → c < 32 → c / 16 ≢ 0 → low ≡ digit_byte (c % 16) → (48 + c / 16) ∷ low ∷ [] ≡ digits_of 16 c
hex_two c low h e l =
    let high : c / 16 < 10 = omega arith in
    let two : digits_of 16 c ≡ digits_of 16 (c / 16) ++ (digit_byte (c % 16) ∷ []) =
    digits_more 16 c (omega arith) (omega (arith, e)) in
    let one : digits_of 16 (c / 16) ≡ (48 + c / 16) ∷ [] =
    digits_one 16 (c / 16) (omega arith) ∙ rw (lt-ltb (c / 16) 10 high) in
    sym (two ∙ rw (one, l))

-- the names of characters
pub named : {c k : ℕ} → c ≡ k → written_of k ≡ written_of c
named e = ap written_of (sym e)

pub unnamed : (c : ℕ) → c ≢ 0 → c ≢ 7 → c ≢ 8 → c ≢ 9 → c ≢ 10 → c ≢ 13 → c ≢ 27 → c ≢ 32 → c ≢ 127
    → unnamed_of c ≡ written_of c
unfolding name_of
unnamed c e₁ e₂ e₃ e₄ e₅ e₆ e₇ e₈ e₉ =
    simp (
      ne_eqb c 0 e₁,
      ne_eqb c 7 e₂,
      ne_eqb c 8 e₃,
      ne_eqb c 9 e₄,
      ne_eqb c 10 e₅,
      ne_eqb c 13 e₆,
      ne_eqb c 27 e₇,
      ne_eqb c 32 e₈,
      ne_eqb c 127 e₉,
    )

-- numbers
pub number_is : (x : Figure) (plus : Bool) (z : ℤ) → x.magnitude ≡ magnitude_of z → signed x.sign ≡ sign_of plus z
    → figure_of x ≡ number_of x.base plus x.width x.comma z
unfolding figure_of figure_digits
number_is x plus z em es = rw (es, em)

module _ (base : ℕ) (colon plus : Bool) (s : Settings) (z : ℤ) (w c : ℕ) where
  pub in_groups : colon ≡ true → w ≡ or_else s.fourth 3 → c ≡ or_else s.third 44 → 1 ≤ w
      → number_of base plus w c z ≡ sign_of plus z ++ digits_in colon s (digits_of base (magnitude_of z))
  in_groups e ew ec h = rw (ne_eqb w 0 (λ n. omega arith), e, ew, ec)

  pub in_one : colon ≡ false
      → number_of base plus 0 c z ≡ sign_of plus z ++ digits_in colon s (digits_of base (magnitude_of z))
  in_one e = rw e

abbrev pub unpadded : ℕ → Bool → Bool → Settings → ℤ → List ℕ
unpadded base colon plus s z = sign_of plus z ++ digits_in colon s (digits_of base (magnitude_of z))

-- padding
pub left_is : {w p n size w' p' : ℕ} (text : List ℕ) → n ≡ w - size → w ≡ w' → p ≡ p' → size ≡ length text
    → replicate n p ++ (text ++ []) ≡ pad_left w' p' text
unfolding pad_left
left_is text en ew ep es = rw (append-nil text, en, ew, ep, es)

module _ (atsign : Bool) (s : Settings) (text : List ℕ) {mw pi mp p n size : ℕ} (e₁ : mw ≡ or_else s.first 0)
    (e₂ : pi ≡ or_else s.second 1) (e₃ : mp ≡ or_else s.third 0) (e₄ : p ≡ or_else s.fourth 32)
    (es : size ≡ length text) (en : n ≡ padding_of mw pi mp size) where
  pub around_left : atsign ≡ true → replicate n p ++ (text ++ []) ≡ around atsign s text
  around_left e = rw (append-nil text, en, e₁, e₂, e₃, e₄, es, e)

  pub around_right : atsign ≡ false → text ++ replicate n p ≡ around atsign s text
  around_right e = rw (en, e₁, e₂, e₃, e₄, es, e)

-- the text of an argument before padding
module _ (quoted : Bool) (t : List ℕ) {a k : Argument} (e : a ≡ k) where
  pub bare_at : bare_of quoted (meant t k) ≡ bare_of quoted (meant t a)
  bare_at = ap (λ (x : Argument). bare_of quoted (meant t x)) (sym e)

pub bare_boolean : (quoted b : Bool) → 35 ∷ cond b 116 102 ∷ [] ≡ bare_of quoted (boolean b)
unfolding bare_of
bare_boolean true b = refl
bare_boolean false b = refl

pub bare_integer : (quoted : Bool) (z : ℤ) → number_of 10 false 0 44 z ≡ bare_of quoted (integer z)
unfolding bare_of
bare_integer true z = refl
bare_integer false z = refl

pub bare_written : (quoted : Bool) (c : ℕ) → quoted ≡ true → written_of c ≡ bare_of quoted (character c)
unfolding bare_of
bare_written quoted c e = rw e

pub bare_character : (quoted : Bool) (c : ℕ) → quoted ≡ false → c ∷ [] ≡ bare_of quoted (character c)
unfolding bare_of
bare_character quoted c e = rw e

pub bare_quoted : (quoted : Bool) (s : List ℕ) → quoted ≡ true → quoted_of s ≡ bare_of quoted (string s)
unfolding bare_of quoted_of
bare_quoted quoted s e = rw e

pub bare_string : (quoted : Bool) (s : List ℕ) → quoted ≡ false → s ≡ bare_of quoted (string s)
unfolding bare_of
bare_string quoted s e = rw e

pub bare_list : (quoted : Bool) (first count : ℕ) → [] ≡ bare_of quoted (list first count)
unfolding bare_of
bare_list true first count = refl
bare_list false first count = refl

-- the text of a form
pub text_at : {f k : Form} → f ≡ k → (colon atsign : Bool) (s : Settings) (v : Value)
    → text_of k colon atsign s v ≡ text_of f colon atsign s v
text_at e colon atsign s v = ap (λ (x : Form). text_of x colon atsign s v) (sym e)
