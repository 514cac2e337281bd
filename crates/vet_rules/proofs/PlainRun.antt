-- The run of a plain text is a walk over its items: no blocks, and no value is read but by a piece's text. Its steps
-- suffice. Assumes nothing.
use Prim.Native.Nat.{ℕ, zero, suc, ◌+◌, ◌-◌, ◌≤◌}
use mathlib.Core.Path.{◌≡◌, refl, ap, ◌∙◌}
use mathlib.Core.Bool.{Bool, true, false, cond}
use mathlib.Core.List.{List, [], ◌∷◌}
use native.Mathlib.Omega.{arith}
use lib.ListN.{length}
use Rattle.rules.specs.Choice.{choose}
use Rattle.rules.specs.Act.{Act, writes, shows, moves, refuses, act_after, act_of}
use Rattle.rules.specs.Table.{Value, View, entry_in}
use Rattle.rules.specs.Rows.{places_in, in_row, in_order, well_written, accepts}
use Rattle.rules.specs.Text.{Token, acts, Level, innermost, item_before, levels_of}
use Rattle.rules.specs.Piece.{text_of, kind_of}
use Rattle.rules.specs.Working.{Settled, unsettled}
use Rattle.rules.specs.Flow.{Flow, done, refused, put}
use Rattle.rules.specs.Run.{joined, item_acts, turn, walk, run}
use Rattle.rules.specs.declared.Item.{Item}
use Rattle.rules.specs.declared.Item.TheVariants.{End, Literal, Written, BadNumber, Unfinished}
use Rattle.vet_rules.specs.Use.{in_hand, use_of}
use Rattle.vet_rules.proofs.Ordinary.{Ordinary, AllOrdinary}
use Rattle.vet_rules.proofs.Settling.{settle_plain}

-- an ordinary item opens and closes nothing
pub before_ordinary : (p : ℕ) (x : Item) (ls : List Level) → Ordinary x
    → (innermost (item_before p x ls)).rest ≡ acts p x (innermost ls).rest
before_ordinary p End ls o = absurd o
before_ordinary p (Literal b) ls o = refl
before_ordinary p (Written d) ls w = rw w.code
before_ordinary p BadNumber ls o = absurd o
before_ordinary p Unfinished ls o = absurd o

module _ (v : View) (count : ℕ) where
  -- argument i
  abbrev pub value_in : ℕ → Value
  value_in i = entry_in v (0 + i)

  -- the flow of items
  unfoldable pub flow_from : List Token → ℕ → ℕ → Flow
  flow_from [] n next = done n (count - next)
  flow_from (x ∷ xs) n next = joined value_in x.position (n - 1) (use_of count x.item next) (λ i. flow_from xs (n - 1) i)

  flow_same : (p m : ℕ) (u : Act) (k l : ℕ → Flow) → ((i : ℕ) → k i ≡ l i) → joined value_in p m u k ≡ joined value_in p m u l
  flow_same p m (writes text next) k l h = rw (h next)
  flow_same p m (shows f d s i next) k l h = pick (accepts f (kind_of (value_in i)))
    where
      pick : (b : Bool) → choose b (λ _. put p m (text_of f d.colon d.atsign s (value_in i)) (k next)) (λ _. refused 7 p m)
          ≡ choose b (λ _. put p m (text_of f d.colon d.atsign s (value_in i)) (l next)) (λ _. refused 7 p m)
      pick true = rw (h next)
      pick false = refl
  flow_same p m (moves next) k l h = h next
  flow_same p m (refuses code) k l h = refl

  -- one item: without a `v` no entry is read
  pub act_same : (x : Item) (next : ℕ) → Ordinary x → act_of v (in_hand count next) x ≡ use_of count x next
  unfolding act_of
  act_same End next o = absurd o
  act_same (Literal b) next o = refl
  act_same (Written d) next w =
      let c = in_hand count next in
      ap (λ (z : Settled). act_after count d (cond (well_written d) z (unsettled 5)))
      (settle_plain v c (in_row (places_in d)) (in_order d.parameters) next w.fixed)
  act_same BadNumber next o = absurd o
  act_same Unfinished next o = absurd o

  pub item_same : (p m : ℕ) (x : Item) (next : ℕ) (on : ℕ → Flow) → Ordinary x
      → item_acts v p m x (in_hand count next) on ≡ joined value_in p m (use_of count x next) on
  item_same p m x next on o = ap (λ (u : Act). joined value_in p m u on) (act_same x next o)

  pub plain_run : (xs : List Token) (n next : ℕ) → AllOrdinary xs → length xs ≤ n
      → run v n (innermost (levels_of xs)).rest [] (in_hand count next) ≡ flow_from xs n next
  unfolding run walk turn levels_of flow_from
  plain_run [] zero next o h = refl
  plain_run [] (suc m) next o h = refl
  plain_run (x ∷ xs) zero next o h = absurd (omega arith)
  plain_run (x ∷ xs) (suc m) next o h =
      let e : suc m - 1 ≡ m = omega arith in
      rw (before_ordinary x.position x.item (levels_of xs) o.0, e)
      (item_same x.position m x.item next (λ i. run v m (innermost (levels_of xs)).rest [] (in_hand count i)) o.0
      ∙ flow_same x.position m (use_of count x.item next) _ _ (λ i. plain_run xs m i o.1 (omega arith)))
