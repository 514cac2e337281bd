-- `making::numerals::sign_byte` meets its contract: the sign by whether the number is negative, zero or positive.
-- Assumes nothing.
use mathlib.Core.Path.{◌≡◌, refl, sym, ap, ◌∙◌}
use mathlib.Core.Bool.{false}
use mathlib.Core.List.{[]}
use Prim.Native.Nat.{zero, suc, ◌≤◌, ◌<◌, ◌^◌}
use native.Mathlib.Omega.{arith}
use lib.IntN.{ℤ, pos, negsuc}
use mir.Syntax.{w64}
use mir.Val.{SFits, of_z, to_z}
use mir.ValLaws.{to_z-of_z}
use Rattle.rules.specs.Number.{is_negative, magnitude_of, sign_of}
use Rattle.rules.proofs.Signs.{sign_negative, sign_zero, sign_positive}
use Rattle.pieces.specs.Bytes.{signed}
use Rattle.making.proofs.numerals.sign_byte.Goals as goal
use Rattle.making.proofs.numerals.sign_byte.Goals.{else-plus-via-then-plus+else-x-ne0, else-plus-via-else-plus}

-- the number that is asked for its sign, by way of its bits
same : {z : ℤ} → SFits w64 z → is_negative (to_z w64 (of_z w64 z)) ≡ is_negative z
same {z} f = ap is_negative (to_z-of_z w64 z f)

some_bits : (z : ℤ) → (of_z w64 z ≡ 0 → ⊥) → is_negative z ≡ false → 1 ≤ magnitude_of z
some_bits (pos n) h e = omega (arith, h)
some_bits (negsuc n) h e = omega arith

no_bits : (z : ℤ) → SFits w64 z → of_z w64 z ≡ 0 → magnitude_of z ≡ 0
no_bits (pos n) f e = e
no_bits (negsuc n) f e = let h : n < 2 ^ 63 = f.sfits in absurd (omega (arith, e))

no_sign : (z : ℤ) → is_negative z ≡ false → sign_of false z ≡ []
no_sign (pos zero) e = refl
no_sign (pos (suc n)) e = refl
no_sign (negsuc n) e = absurd (cc e)

pub returns-then-is_negative : goal.returns-then-is_negative
unfolding signed
returns-then-is_negative c = sym (sign_negative c.args.plus c.args.x (sym (same c.ranges.x) ∙ sym c.is_negative.ensures ∙ c.if-is_negative.true))

pub returns-then-x-ne0 : goal.returns-then-x-ne0
unfolding signed
returns-then-x-ne0 c =
    let e = sym (same c.ranges.x) ∙ sym c.is_negative.ensures ∙ c.if-is_negative.false in
    sym (sign_positive c.args.plus c.args.x e (some_bits c.args.x c.if-x-ne0.true e) ∙ rw c.if-plus.true)

pub returns-else-plus : goal.returns-else-plus
unfolding signed
returns-else-plus c =
    sym (elim c.else-plus.branch [
      | else-plus-via-then-plus+else-x-ne0 w ↦ sign_zero c.args.plus c.args.x (no_bits c.args.x c.ranges.x w.if-x-ne0.false)
      | else-plus-via-else-plus w ↦ rw w.if-plus.false (no_sign c.args.x (sym (same c.ranges.x) ∙ sym c.is_negative.ensures ∙ c.if-is_negative.false))
    ])
