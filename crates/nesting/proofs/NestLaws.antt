-- The open blocks with one more, and their frames. Assumes nothing.
use Prim.Native.Nat.{ℕ, zero, suc, ◌+◌, ◌-◌, ◌<◌}
use mathlib.Core.Path.{◌≡◌, refl, sym, ap, ◌∙◌}
use mathlib.Core.Bool.{Bool, true}
use mathlib.Core.List.{List, ◌∷◌}
use native.Mathlib.Numerals.{add-one}
use native.Mathlib.Omega.{arith}
use lib.ListN.{length, set}
use lib.Seq.{get_or-set_same, get_or-set_other}
use borrow.Author.Tests.{ne_eqb}
use Rattle.rules.specs.Choice.{both}
use Rattle.rules.specs.Text.{Level}
use Rattle.rules.specs.Run.{Frame}
use Rattle.std.specs.Prelude.{Some}
use Rattle.rules.specs.Setting.{Setting}
use Rattle.nesting.specs.declared.nests.Block.{Block}
use Rattle.nesting.specs.declared.nests.Kind.{Kind}
use Rattle.nesting.specs.declared.nests.Kind.TheVariants.{Conditional, OverList, OverArguments}
use Rattle.nesting.specs.declared.nests.Nest.{Nest}
use Rattle.rules.proofs.Tests.{both_true, true_both}
use Rattle.nesting.specs.Nest.{kind_by, number_of_kind, passes_of, block_at, with_passes, cut, frame_of, frames_of, block_lies, all_lie, Pushes}

-- a number of passes that is limited
pub limits : (n : ℕ) → (n ≡ 65535 → ⊥) → passes_of n ≡ Some n
limits n h = rw (ne_eqb n 65535 h)

pub limited : (n : ℕ) → n < 65535 → passes_of n ≡ Some n
limited n h = limits n (λ q. omega (arith, q))

-- a kind is read back from its number
pub kind_numbered : (k : Kind) → kind_by (number_of_kind k) ≡ k
kind_numbered Conditional = refl
kind_numbered OverList = refl
kind_numbered OverArguments = refl

-- the block is written behind the open ones
module _ (o : Nest) (b : Block) (kind passes : ℕ) where
  abbrev more : Nest
  more =
      record {
        depth = o.depth + 1;
        kinds = set o.kinds o.depth kind;
        places = set o.places o.depth b.place;
        insides = set o.insides o.depth b.inside;
        passes = set o.passes o.depth passes;
        starts = set o.starts o.depth b.hand.first.0;
        counts = set o.counts o.depth b.hand.count;
        positions = set o.positions o.depth b.next.0;
      }

  pub pushes : kind_by kind ≡ b.kind → passes_of passes ≡ b.passes → o.depth < 8 → length o.kinds ≡ 8 → length o.places ≡ 8 → length o.insides ≡ 8 → length o.passes ≡ 8
      → length o.starts ≡ 8 → length o.counts ≡ 8 → length o.positions ≡ 8 → Pushes o b more
  pushes w q r k p i n s c j =
      record {
        depth = refl;
        block =
            rw (
              get_or-set_same o.kinds o.depth kind 0 (omega (arith, r, k)),
              get_or-set_same o.places o.depth b.place 0 (omega (arith, r, p)),
              get_or-set_same o.insides o.depth b.inside 0 (omega (arith, r, i)),
              get_or-set_same o.passes o.depth passes 0 (omega (arith, r, n)),
              get_or-set_same o.starts o.depth b.hand.first.0 0 (omega (arith, r, s)),
              get_or-set_same o.counts o.depth b.hand.count 0 (omega (arith, r, c)),
              get_or-set_same o.positions o.depth b.next.0 0 (omega (arith, r, j)),
              w,
              q,
            ) refl;
        others = λ x h.
            rw (
              get_or-set_other o.kinds o.depth x kind 0 (λ e. omega (arith, e)),
              get_or-set_other o.places o.depth x b.place 0 (λ e. omega (arith, e)),
              get_or-set_other o.insides o.depth x b.inside 0 (λ e. omega (arith, e)),
              get_or-set_other o.passes o.depth x passes 0 (λ e. omega (arith, e)),
              get_or-set_other o.starts o.depth x b.hand.first.0 0 (λ e. omega (arith, e)),
              get_or-set_other o.counts o.depth x b.hand.count 0 (λ e. omega (arith, e)),
              get_or-set_other o.positions o.depth x b.next.0 0 (λ e. omega (arith, e)),
            ) refl;
      }

-- the block behind the open ones is open again
module _ (o : Nest) (n : ℕ) where
  abbrev again : Nest
  again =
      record {
        depth = o.depth + 1;
        kinds = o.kinds;
        places = o.places;
        insides = o.insides;
        passes = set o.passes o.depth n;
        starts = o.starts;
        counts = o.counts;
        positions = o.positions;
      }

  pub reopens : {x : Setting} → passes_of n ≡ x → o.depth < 8 → length o.passes ≡ 8 → Pushes o (with_passes (block_at o o.depth) x) again
  reopens q r e =
      record {
        depth = refl;
        block = rw (get_or-set_same o.passes o.depth n 0 (omega (arith, r, e)), q) refl;
        others = λ i h. rw (get_or-set_other o.passes o.depth i n 0 (λ z. omega (arith, z))) refl;
      }

-- frames and bounds by the blocks that are open
module _ (o r : Nest) where
  pub frames_same : (s : ℕ → List Level) (d : ℕ) → ((i : ℕ) → i < d → block_at r i ≡ block_at o i) → frames_of s r d ≡ frames_of s o d
  unfolding frames_of
  frames_same s zero h = refl
  frames_same s (suc d) h =
      ap (λ (b : Block). frame_of s b ∷ frames_of s r d) (h d (omega arith))
      ∙ ap (λ (x : List Frame). frame_of s (block_at o d) ∷ x) (frames_same s d (λ i l. h i (omega (arith, l))))

  pub lie_same : (n : ℕ) (table : List ℕ) (d : ℕ) → ((i : ℕ) → i < d → block_at r i ≡ block_at o i) → all_lie n table r d ≡ all_lie n table o d
  unfolding all_lie
  lie_same n table zero h = refl
  lie_same n table (suc d) h =
      ap (λ (b : Block). both (block_lies n table b) (all_lie n table r d)) (h d (omega arith))
      ∙ ap (λ (x : Bool). both (block_lies n table (block_at o d)) x) (lie_same n table d (λ i l. h i (omega (arith, l))))

pub frames_length : (s : ℕ → List Level) (o : Nest) (d : ℕ) → length (frames_of s o d) ≡ d
unfolding frames_of
frames_length s o zero = refl
frames_length s o (suc d) = ap suc (frames_length s o d)

module _ {o r : Nest} {b : Block} (p : Pushes o b r) where
  pub frames_pushed : (s : ℕ → List Level) → frames_of s r r.depth ≡ frame_of s b ∷ frames_of s o o.depth
  unfolding frames_of
  frames_pushed s =
      ap (frames_of s r) (p.depth ∙ add-one o.depth) ∙ ap (λ (x : Block). frame_of s x ∷ frames_of s r o.depth) p.block
      ∙ ap (λ (x : List Frame). frame_of s b ∷ x) (frames_same o r s o.depth p.others)

  pub lie_pushed : (n : ℕ) (table : List ℕ) → block_lies n table b ≡ true → all_lie n table o o.depth ≡ true → all_lie n table r r.depth ≡ true
  unfolding all_lie
  lie_pushed n table h l =
      ap (all_lie n table r) (p.depth ∙ add-one o.depth)
      ∙ true_both (ap (block_lies n table) p.block ∙ h) (lie_same o r n table o.depth p.others ∙ l)

-- the open blocks without the innermost
abbrev pub fewer : Nest → Nest
fewer o = cut o (o.depth - 1)

module _ (o : Nest) (h : (o.depth ≡ 0 → ⊥)) where
  depth_is : o.depth ≡ suc (o.depth - 1)
  depth_is = omega arith

  pub frames_top : (s : ℕ → List Level) → frames_of s o o.depth ≡ frame_of s (block_at o (o.depth - 1)) ∷ frames_of s (fewer o) (o.depth - 1)
  unfolding frames_of
  frames_top s = ap (frames_of s o) depth_is ∙ ap (λ (x : List Frame). frame_of s (block_at o (o.depth - 1)) ∷ x) (frames_same (fewer o) o s (o.depth - 1) (λ i l. refl))

  pub lie_top : (n : ℕ) (table : List ℕ) → all_lie n table o o.depth ≡ true → (block_lies n table (block_at o (o.depth - 1)) ≡ true) × (all_lie n table (fewer o) (o.depth - 1) ≡ true)
  unfolding all_lie
  lie_top n table l =
      let z = both_true _ _ (sym (ap (all_lie n table o) depth_is) ∙ l) in
      (z.0, sym (lie_same (fewer o) o n table (o.depth - 1) (λ i k. refl)) ∙ z.1)
