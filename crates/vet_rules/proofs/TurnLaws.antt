-- What an item does to a vet, by what code finds out about it: a literal byte; or the worked-out parameters of a directive,
-- where its argument comes from, and whether it takes the argument's kind. Assumes nothing.
use Prim.Native.Nat.{ℕ, ◌≤◌}
use mathlib.Core.Path.{◌≡◌, refl, ap, ◌∙◌}
use mathlib.Core.Logic.{inl, inr}
use mathlib.Core.Bool.{Bool, true, false, cond}
use mathlib.Core.List.{List}
use native.Mathlib.Omega.{arith}
use lib.ListN.{length}
use Rattle.rules.specs.Act.{Act, writes, shows, moves, refuses, act_from, act_by, act_after, act_of}
use Rattle.rules.specs.Rows.{form_places, well_written, accepts}
use Rattle.rules.specs.Working.{Settled, settled, unsettled, settings_of, settle_all, source_of}
use Rattle.rules.specs.declared.Code.{Code}
use Rattle.rules.specs.declared.Code.TheVariants.{Writes}
use Rattle.rules.specs.declared.Directive.{Directive}
use Rattle.rules.specs.declared.Form.{Form}
use Rattle.rules.specs.declared.Item.{Item}
use Rattle.rules.specs.declared.Item.TheVariants.{Literal, Written}
use Rattle.rules.specs.Setting.{Setting}
use Rattle.rules.specs.declared.Settings.{Settings}
use Rattle.vet_rules.specs.Turns.{Turn, Goes, Stops, argument, kind_in, turn_by, turn_of}
use Rattle.vet_rules.specs.Use.{in_hand, no_entries, use_of}
use Rattle.vet_rules.specs.Worst.{most_piece, worst}
use Rattle.vet_rules.proofs.Forms.{piece_most}
use Rattle.vet_rules.proofs.Ordinary.{Ordinary}
use Rattle.vet_rules.proofs.Uses.{Shown, Within, by_test, use_within}
use Rattle.vet_rules.proofs.Settling.{settled_as_lem}

module _ (kinds : List ℕ) (longest : ℕ) where
  pub turn_literal : (b next : ℕ) → turn_of kinds longest (Literal b) next ≡ Goes (argument next) 1
  unfolding turn_of act_of
  turn_literal b next = refl

  module _ (d : Directive) (f : Form) (code : d.code ≡ Writes f) (written : well_written d ≡ true) (next : ℕ) where
    abbrev worked_out : Settled
    worked_out = settle_all no_entries (in_hand (length kinds) next) (form_places f) d.parameters next

    turn_is : (z : Settled) → worked_out ≡ z
        → turn_of kinds longest (Written d) next ≡ turn_by kinds longest (act_after (length kinds) d z)
    unfolding turn_of act_of
    turn_is z e =
        ap (λ (x : Settled). turn_by kinds longest (act_after (length kinds) d x))
        (settled_as_lem no_entries (in_hand (length kinds) next) d f code written ∙ e)

    -- a parameter is refused
    pub turn_unsettled : (c : ℕ) → worked_out ≡ unsettled c → turn_of kinds longest (Written d) next ≡ Stops c
    turn_unsettled c e = turn_is (unsettled c) e

    -- they are worked out
    pub turn_settled_lem : (ss : List Setting) (after : ℕ) → worked_out ≡ settled ss after
        → turn_of kinds longest (Written d) next
        ≡ turn_by kinds longest (act_from (length kinds) f d (settings_of ss) after (source_of f d.colon (settings_of ss)))
    turn_settled_lem ss after e =
        turn_is (settled ss after) e
        ∙ ap (λ (k : Code). turn_by kinds longest (act_by (length kinds) d k (settings_of ss) after)) code

-- the codes with which an ordinary item stops
abbrev pub Low : Turn → Type 0
Low (Goes next size) = Unit {0}
Low (Stops code) = code ≤ 8

module _ (kinds : List ℕ) (longest : ℕ) where
  use_low : (u : Act) (next : ℕ) → Within (length kinds) next u → Low (turn_by kinds longest u)
  use_low (writes text after) next w = tt
  use_low (moves after) next w = absurd w
  use_low (refuses code) next w = w.1
  use_low (shows f d s i after) next w =
      by_test Low (accepts f (kind_in kinds i)) _ _ (λ _. tt) (λ _. omega arith)

  pub item_low : (x : Item) → Ordinary x → (next : ℕ) → Low (turn_of kinds longest x next)
  unfolding turn_of
  item_low x o next = use_low (use_of (length kinds) x next) next (use_within (length kinds) x next o)

-- one turn goes on within the arguments, with a piece of that size, or stops with 6 to 8
abbrev pub Turned : ℕ → Turn → Type 0
Turned count (Goes next size) = (next.0 ≤ count) × (size ≤ most_piece)
Turned count (Stops code) = (6 ≤ code) × (code ≤ 8)

module _ (kinds : List ℕ) (longest : ℕ) (hl : longest ≤ 4096) where
  shown_next : {next i after : ℕ} {f : Form} {s : Settings} → Shown (length kinds) next f s i after → next ≤ length kinds
      → after ≤ length kinds
  shown_next w h = elim w.how [ inl e ↦ omega (arith, w.inside) | inr e ↦ omega arith ]

  use_turned : (u : Act) (next : ℕ) → next ≤ length kinds → Within (length kinds) next u
      → Turned (length kinds) (turn_by kinds longest u)
  use_turned (writes text after) next h w = (omega arith, omega arith)
  use_turned (moves after) next h w = absurd w
  use_turned (refuses code) next h w = w
  use_turned (shows f d s i after) next h w = pick (accepts f (kind_in kinds i))
    where
      pick : (b : Bool)
          → Turned (length kinds) (cond b (Goes (argument after) (worst longest f d.colon d.atsign s (kind_in kinds i))) (Stops 7))
      pick true = (shown_next w h, piece_most longest f d.colon d.atsign s (kind_in kinds i) hl w.ranged)
      pick false = (omega arith, omega arith)

  pub item_turned : (x : Item) → Ordinary x → (next : ℕ) → next ≤ length kinds
      → Turned (length kinds) (turn_of kinds longest x next)
  unfolding turn_of
  item_turned x o next h = use_turned (use_of (length kinds) x next) next h (use_within (length kinds) x next o)
