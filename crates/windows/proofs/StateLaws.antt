-- The numbers of a state: whether they are in range, as the code tests it, and what follows. Assumes nothing.
use Prim.Native.Nat.{ℕ, zero, suc, ◌-◌, ◌<◌}
use mathlib.Core.Path.{◌≡◌, sym, ◌∙◌}
use mathlib.Core.Bool.{Bool, true, false}
use mathlib.Core.List.{List}
use native.Mathlib.Omega.{arith}
use lib.ListN.{length}
use borrow.Author.Tests.{leb-true, le-leb}
use Rattle.rules.specs.Choice.{both}
use Rattle.rules.specs.Table.{table_verdict}
use Rattle.rules.specs.Verdict.{Accepted}
use Rattle.rules.proofs.Tests.{both_true, true_both}
use Rattle.pieces.specs.Rest.{RestIn}
use Rattle.pieces.specs.declared.resuming.QuoteRest.{QuoteRest}
use Rattle.nesting.specs.Nest.{block_at, block_lies, all_lie}
use Rattle.nesting.specs.Moves.{comes, Sound}
use Rattle.nesting.specs.declared.moves.Here.{Here}
use Rattle.nesting.specs.declared.nests.Block.{Block}
use Rattle.nesting.specs.declared.nests.Nest.{Nest}
use Rattle.windows.specs.declared.state.State.{State}
use Rattle.windows.specs.States.{here_of, is_sound, to_come, remains}
use Rattle.windows.specs.Continuing.{begun_state}

-- 1. The tests

-- the open blocks, from the innermost on
module _ (n : ℕ) (table : List ℕ) (o : Nest) where
  one_less_lem : (i : ℕ) → 0 < i → all_lie n table o i ≡ both (block_lies n table (block_at o (i - 1))) (all_lie n table o (i - 1))
  unfolding all_lie
  one_less_lem zero h = absurd (omega arith)
  one_less_lem (suc i) h = let z : suc i - 1 ≡ i = omega arith in rw z

  pub all_in : {i : ℕ} {x : Bool} → x ≡ all_lie n table o i → i ≡ 0 → true ≡ x
  unfolding all_lie
  all_in q z = sym (q ∙ rw z)

  module _ {i : ℕ} {x r : Bool} {k : Block} (q : x ≡ all_lie n table o i) (some : 0 < i) (at : k ≡ block_at o (i - 1)) (is : r ≡ block_lies n table k) where
    lies_by : x ≡ both r (all_lie n table o (i - 1))
    lies_by = q ∙ one_less_lem i some ∙ rw (is, at)

    pub one_out : r ≡ false → false ≡ x
    one_out e = sym (lies_by ∙ rw e)

    pub one_in : r ≡ true → x ≡ all_lie n table o (i - 1)
    one_in e = lies_by ∙ rw e

-- 2. What they say

module _ (t table : List ℕ) where
  pub in_range_lem : (s : State) → is_sound t table s ≡ true → Sound (length t) table (here_of s) s.nest × RestIn table s.rest
  in_range_lem s e =
      let short = both_true _ _ e in
      let depth = both_true _ _ short.1 in
      let left = both_true _ _ depth.1 in
      let place = both_true _ _ left.1 in
      let hand = both_true _ _ place.1 in
      let blocks = both_true _ _ hand.1 in
      let rest = both_true _ _ blocks.1 in
      let inside = both_true _ _ rest.1 in
      let padding = both_true _ _ inside.1 in (
        record {
          short = leb-true _ _ short.0;
          depth = leb-true _ _ depth.0;
          left = leb-true _ _ left.0;
          place = leb-true _ _ place.0;
          hand = hand.0;
          blocks = blocks.0;
        },
        record { order = leb-true _ _ rest.0; inside = leb-true _ _ inside.0; before = leb-true _ _ padding.0; behind = leb-true _ _ padding.1 },
      )

  module _ {h : Here} {o : Nest} (given : ℕ) {q : QuoteRest} (w : Sound (length t) table h o) (l : RestIn table q) where
    begun_sound : is_sound t table (begun_state h o given q) ≡ true
    begun_sound =
        true_both (le-leb _ _ w.short)
        (true_both (le-leb _ _ w.depth)
        (true_both (le-leb _ _ w.left)
        (true_both (le-leb _ _ w.place)
        (true_both w.hand
        (true_both w.blocks
        (true_both (le-leb _ _ l.order) (true_both (le-leb _ _ l.inside) (true_both (le-leb _ _ l.before) (le-leb _ _ l.behind)))))))))

    -- a state that is begun means what comes from there
    pub begun_remains : table_verdict table ≡ Accepted → remains t table (begun_state h o given q) ≡ to_come table q given (comes t table h o)
    unfolding remains
    begun_remains a = rw (a, begun_sound)
