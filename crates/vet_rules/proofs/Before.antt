-- The pieces of a plain text that is refused all stand before the refusal. Assumes nothing.
use Prim.Native.Nat.{ℕ, suc, ◌-◌, ◌≤◌}
use mathlib.Core.Path.{◌≡◌, refl}
use mathlib.Core.Bool.{Bool, true, false}
use mathlib.Core.List.{List, [], ◌∷◌}
use native.Mathlib.Omega.{arith}
use lib.ListN.{length, length-append}
use borrow.Author.Tests.{lt-ltb}
use Rattle.rules.specs.Choice.{choose}
use Rattle.rules.specs.Act.{Act, writes, shows, moves, refuses}
use Rattle.rules.specs.Table.{View}
use Rattle.rules.specs.Text.{Token}
use Rattle.rules.specs.Piece.{text_of, kind_of}
use Rattle.rules.specs.Rows.{accepts}
use Rattle.rules.specs.Flow.{Flow, refused, put, given_text, finish_of}
use Rattle.rules.specs.Run.{joined}
use Rattle.vet_rules.specs.Use.{use_of}
use Rattle.vet_rules.specs.Demand.{bytes_before}
use Rattle.vet_rules.proofs.Items.{Read}
use Rattle.vet_rules.proofs.PlainRun.{value_in, flow_from}

-- refused at a position from `least` on, with all its pieces before that
abbrev pub Before : ℕ → Flow → Type 0
Before least flow =
    ((finish_of flow).code ≡ 0 → ⊥) → (least ≤ (finish_of flow).position) × (bytes_before (finish_of flow).position flow ≡ length (given_text flow))

before_piece : (p m : ℕ) (text : List ℕ) (flow : Flow) (least : ℕ) → least ≤ p → Before (suc p) flow
    → Before least (put p m text flow)
unfolding given_text bytes_before
before_piece p m text flow least h b n =
    let r = b n in
    (omega arith, rw (lt-ltb p (finish_of flow).position (omega arith)) (omega (arith, r.1, length-append text (given_text flow))))

before_refused : (code p m least : ℕ) → least ≤ p → Before least (refused code p m)
unfolding given_text bytes_before
before_refused code p m least h n = (h, refl)

module _ (v : View) (count : ℕ) where
  before_use : (p m : ℕ) (u : Act) (on : ℕ → Flow) (least : ℕ) → least ≤ p → ((i : ℕ) → Before (suc p) (on i))
      → Before least (joined (value_in v count) p m u on)
  before_use p m (writes text after) on least h b = before_piece p m text (on after) least h (b after)
  before_use p m (moves after) on least h b = λ n. let r = b after n in (omega arith, r.1)
  before_use p m (refuses code) on least h b = before_refused code p m least h
  before_use p m (shows f d s i after) on least h b = pick (accepts f (kind_of (value_in v count i)))
    where
      text : List ℕ
      text = text_of f d.colon d.atsign s (value_in v count i)

      pick : (t : Bool) → Before least (choose t (λ _. put p m text (on after)) (λ _. refused 7 p m))
      pick true = before_piece p m text (on after) least h (b after)
      pick false = before_refused 7 p m least h

  pub plain_before : (xs : List Token) (n next least : ℕ) → Read least xs → Before least (flow_from v count xs n next)
  unfolding flow_from
  plain_before [] n next least r e = absurd (e refl)
  plain_before (x ∷ xs) n next least r e =
      before_use x.position (n - 1) (use_of count x.item next) (λ i. flow_from v count xs (n - 1) i) least r.0
      (λ i. plain_before xs (n - 1) i (suc x.position) r.2) e
