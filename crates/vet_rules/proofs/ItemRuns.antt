-- Over all values of the kinds, an ordinary item runs as its way goes on, and its piece is no longer. Assumes nothing.
use Prim.Native.Nat.{ℕ, suc, ◌+◌, ◌-◌, ◌≤◌, ◌<◌}
use mathlib.Core.Path.{◌≡◌, refl, sym, ◌∙◌}
use mathlib.Core.Bool.{Bool, true, false, cond}
use mathlib.Core.List.{List}
use native.Mathlib.Omega.{arith}
use lib.ListN.{length}
use Rattle.rules.specs.Choice.{choose}
use Rattle.rules.specs.Act.{Act, writes, shows, moves, refuses}
use Rattle.rules.specs.Flow.{Flow, refused, put}
use Rattle.rules.specs.Piece.{text_of, kind_of}
use Rattle.rules.specs.Rows.{accepts}
use Rattle.rules.specs.Run.{joined, Frame, run}
use Rattle.rules.specs.Table.{Value, View}
use Rattle.rules.specs.Text.{Sequence, acts}
use Rattle.rules.specs.declared.Item.{Item}
use Rattle.rules.proofs.RunLaws.{begin_yes, run_acts}
use Rattle.vet_rules.specs.Turns.{argument, kind_in, turn_by, turn_of, Goes, Stops}
use Rattle.vet_rules.specs.Use.{in_hand, use_of}
use Rattle.vet_rules.specs.Ways.{Way, on_turn, way_of}
use Rattle.vet_rules.specs.Worst.{worst}
use Rattle.vet_rules.proofs.Forms.{piece_bound}
use Rattle.vet_rules.proofs.Meetings.{Led, led_on}
use Rattle.vet_rules.proofs.Ordinary.{Ordinary}
use Rattle.vet_rules.proofs.PlainRun.{value_in, item_same}
use Rattle.vet_rules.proofs.Reached.{Runs, Walks, reached_piece}
use Rattle.vet_rules.proofs.Uses.{Within, use_within}
use Rattle.vet_rules.proofs.Values.{Allowed}
use Rattle.vet_rules.proofs.Weights.{weight}

module _ (kinds : List ℕ) (longest : ℕ) (v : View)
    (agree : (i : ℕ) → i < length kinds → kind_of (value_in v (length kinds) i) ≡ kind_in kinds i)
    (allowed : (i : ℕ) → i < length kinds → Allowed longest (value_in v (length kinds) i)) where
  abbrev count : ℕ
  count = length kinds

  -- the item x at p and what follows it, from the argument `next`
  module _ (k p : ℕ) (x : Item) (rest : Sequence) (walk : Walks kinds longest v k rest) (next : ℕ) where
    abbrev Goal : ℕ → Way → Type 0
    Goal sum w = Led (Runs v count k (weight (acts p x rest)) (acts p x rest) next sum) w

    -- what its run gives
    abbrev Gives : (ℕ → (ℕ → Flow) → Flow) → Type 0
    Gives f = (ks : List Frame) (left : ℕ) → suc (weight rest) ≤ left
        → run v left (acts p x rest) ks (in_hand count next) ≡ f (left - 1) (λ i. run v (left - 1) rest ks (in_hand count i))

    -- a piece w of at most `most` bytes
    piece_walks : (w : List ℕ) (after most sum : ℕ) → length w ≤ most → Gives (λ m on. put p m w (on after))
        → Goal sum (way_of kinds longest rest after (sum + most))
    unfolding weight
    piece_walks w after most sum h is =
        led_on (Runs v count k (weight rest) rest after (sum + most))
        (Runs v count k (suc (weight rest)) (acts p x rest) next sum)
        (λ n s r ks d left l. (
        let e : left - suc (weight rest) ≡ left - 1 - weight rest = omega arith in
        rw (is ks left l, e) (reached_piece v count p (left - 1) w sum most h (r ks d (left - 1) (omega arith)))))
        (way_of kinds longest rest after (sum + most)) (walk after (sum + most))

    -- what it does with the arguments
    use_walks : (u : Act) → Within count next u → Gives (λ m on. joined (value_in v count) p m u on) → (sum : ℕ)
        → Goal sum (on_turn p (turn_by kinds longest u) sum (λ n s. way_of kinds longest rest n s))
    use_walks (writes text after) w is sum = piece_walks text after (length text) sum (omega arith) is
    use_walks (moves after) w is sum = absurd w
    use_walks (refuses code) w is sum = tt
    use_walks (shows f d s i after) w is sum =
        rw (sym (agree i w.inside))
        (by (accepts f (kind_of value)) is
        (λ t. piece_bound longest f d.colon d.atsign s value w.ranged t (allowed i w.inside)))
      where
        value : Value
        value = value_in v count i

        text : List ℕ
        text = text_of f d.colon d.atsign s value

        most : ℕ
        most = worst longest f d.colon d.atsign s (kind_of value)

        by : (b : Bool) → Gives (λ m on. choose b (λ _. put p m text (on after)) (λ _. refused 7 p m))
            → (b ≡ true → length text ≤ most)
            → Goal sum (on_turn p (cond b (Goes (argument after) most) (Stops 7)) sum (λ n s. way_of kinds longest rest n s))
        by true is l = piece_walks text after most sum (l refl) is
        by false is l = tt

    acts_gives : Ordinary x → Gives (λ m on. joined (value_in v count) p m (use_of count x next) on)
    acts_gives o ks left h =
        run_acts v (in_hand count next) p rest x ks left ∙ begin_yes p left _ (λ z. omega arith)
        ∙ item_same v count p (left - 1) x next _ o

  pub acts_walks : (k p : ℕ) (x : Item) (rest : Sequence) → Ordinary x → Walks kinds longest v k rest
      → Walks kinds longest v k (acts p x rest)
  unfolding way_of turn_of
  acts_walks k p x rest o walk next sum =
      use_walks k p x rest walk next (use_of count x next) (use_within count x next o)
      (acts_gives k p x rest walk next o) sum
