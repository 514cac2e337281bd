-- Where a sequence ends. Assumes nothing.
use Prim.Native.Nat.{ℕ}
use mathlib.Core.Path.{◌≡◌, refl, ap, subst}
use mathlib.Core.Bool.{true, false}
use mathlib.Core.List.{List, [], ◌∷◌}
use denote.Enum.Declared.{tag_of}
use types.Run.{OneOf, miss}
use Rattle.rules.specs.Directive.{item_at}
use Rattle.rules.specs.Text.{Level, end, innermost, levels_at}
use Rattle.rules.specs.declared.Code.{Code}
use Rattle.rules.specs.declared.Code.TheVariants.{Writes, Jump, Escape, Opens, Separator, Closes, Unknown}
use Rattle.rules.specs.declared.Directive.{Directive}
use Rattle.rules.specs.declared.Item.{Item}
use Rattle.rules.specs.declared.Item.TheVariants.{End, Literal, Written, BadNumber, Unfinished}
use Rattle.rules.specs.contracts.Item as item_declared
use Rattle.rules.proofs.Tests.{not_both_ways}
use Rattle.rules.proofs.TextLaws.{levels_end, levels_bad, levels_unfinished, levels_separator, levels_closer, levels_unknown}
use Rattle.blocks.specs.Parts.{ends_sequence, ends_at}

module _ (t : List ℕ) (p : ℕ) where
  rest_of : {y : List Level} → levels_at t p ≡ y → (innermost (levels_at t p)).rest ≡ (innermost y).rest
  rest_of e = ap (λ (x : List Level). (innermost x).rest) e

  ends_code : (d : Directive) → item_at t p ≡ Written d → (c : Code) → d.code ≡ c → ends_sequence c ≡ true → (innermost (levels_at t p)).rest ≡ end
  ends_code d e (Writes f) w h = absurd (not_both_ways h refl)
  ends_code d e Jump w h = absurd (not_both_ways h refl)
  ends_code d e Escape w h = absurd (not_both_ways h refl)
  ends_code d e (Opens b) w h = absurd (not_both_ways h refl)
  ends_code d e Separator w h = rest_of (levels_separator t p d e w)
  ends_code d e (Closes b) w h = rest_of (levels_closer t p d e b w)
  ends_code d e Unknown w h = rest_of (levels_unknown t p d e w)

  pub ends_item : (x : Item) → item_at t p ≡ x → ends_at x ≡ true → (innermost (levels_at t p)).rest ≡ end
  ends_item End e h = rest_of (levels_end t p e)
  ends_item (Literal b) e h = absurd (not_both_ways h refl)
  ends_item (Written d) e h = ends_code d e d.code refl h
  ends_item BadNumber e h = rest_of (levels_bad t p e)
  ends_item Unfinished e h = rest_of (levels_unfinished t p e)

-- of the items that are neither a literal byte nor a directive each ends its sequence
pub no_other : (keys : List ℕ) (x : Item) → keys ≡ 0 ∷ 3 ∷ 4 ∷ [] → ends_at x ≡ false → OneOf keys (tag_of item_declared.the_type x) → ⊥
no_other keys End q h o = not_both_ways refl h
no_other keys (Literal b) q h o = miss (0 ∷ 3 ∷ 4 ∷ []) 1 tt (subst (λ (k : List ℕ). OneOf k 1) q o)
no_other keys (Written d) q h o = miss (0 ∷ 3 ∷ 4 ∷ []) 2 tt (subst (λ (k : List ℕ). OneOf k 2) q o)
no_other keys BadNumber q h o = not_both_ways refl h
no_other keys Unfinished q h o = not_both_ways refl h
