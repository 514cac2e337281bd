-- The texts of the directives that most formats are made of, without their unused parameters: a string, a decimal
-- number, a repeated byte. Assumes nothing.
use mathlib.Core.Path.{◌≡◌, refl}
use mathlib.Core.Bool.{Bool, false}
use mathlib.Core.List.{List, ◌++◌}
use Prim.Native.Nat.{ℕ, ◌+◌, ◌-◌}
use native.Mathlib.Omega.{arith}
use lib.IntN.{ℤ}
use lib.ListN.{length, replicate}
use Rattle.rules.specs.Number.{digits_of, magnitude_of, sign_of, pad_left}
use Rattle.rules.specs.Piece.{or_else, padding_of, bare_of, text_of}
use Rattle.rules.specs.Table.{Value, integer, string}
use Rattle.rules.specs.declared.Form.TheVariants.{Object, Numeral, Repeat}
use Rattle.std.specs.Prelude.{None}
use Rattle.rules.specs.declared.Settings.{Settings}
use Rattle.rules.proofs.Padding.{times_enough, times_most}

-- one byte at a time, the padding is just what is missing
pub padding_single : (width size : ℕ) → padding_of width 1 0 size ≡ width - size
padding_single width size =
    let n = width - (size + 0) in
    omega (arith, times_enough 1 n (omega arith), times_most 1 n (omega arith))

module _ (colon : Bool) (s : Settings) where
  pub object_text : (w : List ℕ) → s.second ≡ None → s.third ≡ None → s.fourth ≡ None
      → text_of (Object false) colon false s (string w) ≡ w ++ replicate (or_else s.first 0 - length w) 32
  unfolding text_of bare_of
  object_text w e₂ e₃ e₄ = rw (e₂, e₃, e₄, padding_single (or_else s.first 0) (length w))

  pub repeat_text : (atsign : Bool) (b : ℕ) (v : Value) → text_of (Repeat b) colon atsign s v ≡ replicate (or_else s.first 1) b
  unfolding text_of
  repeat_text atsign b v = refl

pub decimal_text : (s : Settings) (z : ℤ)
    → text_of (Numeral 10) false false s (integer z)
    ≡ pad_left (or_else s.first 0) (or_else s.second 32) (sign_of false z ++ digits_of 10 (magnitude_of z))
unfolding text_of
decimal_text s z = refl
