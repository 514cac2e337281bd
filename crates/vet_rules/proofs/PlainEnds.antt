-- Over all values of the kinds, the run of a plain text ends as its vet says. Assumes nothing.
use Prim.Native.Nat.{ℕ, ◌+◌, ◌-◌, ◌<◌}
use mathlib.Core.Path.{◌≡◌, refl, sym}
use mathlib.Core.Bool.{Bool, true, false, cond}
use mathlib.Core.List.{List, [], ◌∷◌}
use lib.ListN.{length}
use Rattle.rules.specs.Choice.{choose}
use Rattle.rules.specs.Act.{Act, writes, shows, moves, refuses}
use Rattle.rules.specs.Table.{View}
use Rattle.rules.specs.Text.{Token}
use Rattle.rules.specs.Piece.{text_of, kind_of}
use Rattle.rules.specs.Rows.{accepts}
use Rattle.rules.specs.Flow.{Flow, refused, put, finish_of}
use Rattle.rules.specs.Run.{joined}
use Rattle.vet_rules.specs.Turns.{Goes, Stops, argument, kind_in, turn_by, turn_of}
use Rattle.vet_rules.specs.Vet.{Vetted}
use Rattle.vet_rules.specs.Use.{use_of}
use Rattle.vet_rules.specs.Worst.{worst}
use Rattle.vet_rules.proofs.Ordinary.{AllOrdinary}
use Rattle.vet_rules.proofs.PlainRun.{value_in, flow_from}
use Rattle.vet_rules.proofs.PlainVet.{on_turn, vet_from}
use Rattle.vet_rules.proofs.Uses.{Within, use_within}

-- a flow that ends with the code and position of an answer
pub record Ended (flow : Flow) (r : Vetted) : Type 0 where
  pub code : (finish_of flow).code ≡ r.code
  pub position : (finish_of flow).position ≡ r.position

module _ (kinds : List ℕ) (longest : ℕ) (v : View)
    (agree : (i : ℕ) → i < length kinds → kind_of (value_in v (length kinds) i) ≡ kind_in kinds i) where
  abbrev count : ℕ
  count = length kinds

  use_ended : (p m : ℕ) (u : Act) (next sum : ℕ) (on : ℕ → Flow) (rest : ℕ → ℕ → Vetted) → Within count next u
      → ((i n : ℕ) → Ended (on i) (rest i n))
      → Ended (joined (value_in v count) p m u on) (on_turn p (turn_by kinds longest u) sum rest)
  use_ended p m (writes text after) next sum on rest w h =
      let e = h after (sum + length text) in
      record { code = e.code; position = e.position }
  use_ended p m (moves after) next sum on rest w h = absurd w
  use_ended p m (refuses code) next sum on rest w h = record { code = refl; position = refl }
  use_ended p m (shows f d s i after) next sum on rest w h =
      rw (sym (agree i w.inside)) (pick (accepts f (kind_of (value_in v count i))))
    where
      text : List ℕ
      text = text_of f d.colon d.atsign s (value_in v count i)

      most : ℕ
      most = worst longest f d.colon d.atsign s (kind_of (value_in v count i))

      pick : (b : Bool)
          → Ended (choose b (λ _. put p m text (on after)) (λ _. refused 7 p m))
          (on_turn p (cond b (Goes (argument after) most) (Stops 7)) sum rest)
      pick true = let e = h after (sum + most) in record { code = e.code; position = e.position }
      pick false = record { code = refl; position = refl }

  pub plain_ended : (xs : List Token) → AllOrdinary xs → (n next sum : ℕ)
      → Ended (flow_from v count xs n next) (vet_from kinds longest xs next sum)
  unfolding flow_from vet_from turn_of
  plain_ended [] o n next sum = record { code = refl; position = refl }
  plain_ended (x ∷ xs) o n next sum =
      use_ended x.position (n - 1) (use_of count x.item next) next sum (λ i. flow_from v count xs (n - 1) i)
      (λ i s. vet_from kinds longest xs i s) (use_within count x.item next o.0)
      (λ i s. plain_ended xs o.1 (n - 1) i s)
