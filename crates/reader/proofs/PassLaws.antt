-- Literal bytes and short directives leave the check of a text, its clauses and its blocks as they were.
-- Assumes nothing.
use mathlib.Core.Path.{◌≡◌, refl, ap, subst, ◌∙◌}
use mathlib.Core.List.{List}
use Prim.Native.Nat.{ℕ, ◌+◌, ◌<◌}
use native.Mathlib.Omega.{arith}
use lib.ListN.{length, get_or}
use Rattle.rules.specs.Text.{directive_met, innermost, outer}
use Rattle.rules.specs.Setting.{Setting}
use Rattle.rules.proofs.Reading.{item_literal}
use Rattle.rules.proofs.TextLaws.{Within, next_inside, verdict_literal, verdict_written, levels_literal, levels_writes}
use Rattle.reader.specs.Shorts.{Brief, form_of, short_directive, IsShort, ShortAt, Skips}
use Rattle.reader.specs.Shorts.{ShortRead}
use Rattle.reader.specs.declared.short.Short.{Short}
use Rattle.std.specs.Prelude.{Option, Some}
use Rattle.reader.proofs.ShortLaws.{short_well}

pub skip_none : (t : List ℕ) (p : ℕ) → Skips t p p
skip_none t p = record { same = λ os. refl; more = refl; outside = refl; least = omega arith; most = λ h. h }

module _ {t : List ℕ} {first p : ℕ} (k : Skips t first p) where
  pub skip_literal : p < length t → (get_or t p 0 ≡ 126 → ⊥) → Skips t first (p + 1)
  skip_literal h e =
      let i = item_literal t p h e in
      let l = levels_literal t p _ i in
      record {
        same = λ os. k.same os ∙ verdict_literal t os p _ i;
        more = k.more ∙ ap (λ xs. (innermost xs).more) l;
        outside = k.outside ∙ ap outer l;
        least = omega (arith, k.least);
        most = λ z. omega arith;
      }

  module _ {b : Brief} {x y : Setting} {after : ℕ} (u : IsShort t p b x y after) where
    skip_on : Within p (length t) after
    skip_on =
        let w = next_inside t p (short_directive (form_of b) x y after) u.item in
        record { above = omega (arith, w.above); most = w.most }

    skip_directive : Skips t first after
    unfolding directive_met
    skip_directive =
        let l = levels_writes t p (short_directive (form_of b) x y after) u.item (form_of b) refl in
        record {
          same = λ os. k.same os ∙ verdict_written t os p (short_directive (form_of b) x y after) u.item ∙ rw (short_well b x y after u.suits);
          more = k.more ∙ ap (λ xs. (innermost xs).more) l;
          outside = k.outside ∙ ap outer l;
          least = omega (arith, k.least, skip_on.above);
          most = λ z. skip_on.most;
        }

  -- over a short directive, if one stands at p
  module _ {r : Option Short} (a : ShortRead t p r) where
    pub skip_short_at : (s : Short) → r ≡ Some s → Skips t first s.after × Within p (length t) s.after
    skip_short_at s e = let u : ShortAt t p (Some s) = subst (ShortAt t p) e a.means in (skip_directive u, skip_on u)
