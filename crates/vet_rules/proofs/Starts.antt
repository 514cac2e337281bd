-- Where the clauses of a conditional start: at an argument or after the last, with no bytes; or a code. Assumes nothing.
use Prim.Native.Nat.{ℕ, ◌+◌, ◌≤◌}
use mathlib.Core.Path.{◌≡◌, refl}
use mathlib.Core.Logic.{◌⊎◌, inl, inr}
use mathlib.Core.Bool.{true, false}
use mathlib.Core.List.{List}
use native.Mathlib.Omega.{arith}
use lib.Dec.{ltb, eqb}
use lib.ListN.{length}
use borrow.Author.Tests.{ltb-true, eqb-true}
use Rattle.rules.specs.Choice.{either}
use Rattle.rules.specs.Working.{Settled, settled, unsettled, settings_of, settle_all}
use Rattle.rules.specs.declared.Directive.{Directive}
use Rattle.rules.specs.Setting.{Setting}
use Rattle.std.specs.Prelude.{None, Some}
use Rattle.rules.proofs.Rowed.{written_suits}
use Rattle.vet_rules.specs.Plain.{Opener}
use Rattle.vet_rules.specs.Turns.{argument, kind_in, Turn, Goes, Stops}
use Rattle.vet_rules.specs.Use.{in_hand, no_entries}
use Rattle.vet_rules.specs.Ways.{on_own, numbered_start, unmodified_places, settled_start, start_of}
use Rattle.vet_rules.proofs.Settling.{Settles, settle_placed}
use Rattle.vet_rules.proofs.Uses.{by_test}

-- what a way through a format may fail with
abbrev pub Reason : ℕ → Type 0
Reason code = ((6 ≤ code) × (code ≤ 8)) ⊎ (code ≡ 11)

pub reason_range : {code : ℕ} → Reason code → (6 ≤ code) × (code ≤ 11)
reason_range (inl h) = (h.0, omega arith)
reason_range (inr e) = (omega arith, omega arith)

-- a fact of where the clauses start, if they do
abbrev pub Begun : (ℕ → Type 0) → Turn → Type 0
Begun P (Goes start size) = P start.0
Begun P (Stops code) = Unit {0}

abbrev pub Started : ℕ → Turn → Type 0
Started count (Goes start size) = (start.0 ≤ count) × (size ≡ 0)
Started count (Stops code) = Reason code

module _ (kinds : List ℕ) (longest : ℕ) where
  abbrev count : ℕ
  count = length kinds

  own_started : (next : ℕ) (go : Turn) → (next + 1 ≤ count → Started count go) → Started count (on_own kinds longest next go)
  own_started next go h =
      by_test (Started count) (ltb next count) go (Stops 6) (λ t. h (let b = ltb-true next count t in omega arith))
      (λ _. inl (omega arith, omega arith))

  numbered_started : (next : ℕ) (s : Setting) → next ≤ count → Started count (numbered_start kinds longest next s)
  numbered_started next None h =
      own_started next _
      (λ b. by_test (Started count) (eqb (kind_in kinds next) 1) _ _ (λ _. (b, refl)) (λ _. inl (omega arith, omega arith)))
  numbered_started next (Some n) h = (h, refl)

  settled_started : (next : ℕ) (z : Settled) → next ≤ count → Settles unmodified_places next z
      → Started count (settled_start kinds longest z)
  settled_started next (settled ss after) h s = numbered_started after (settings_of ss).first (omega (arith, s.0))
  settled_started next (unsettled code) h s = inl s

  -- the worked-out parameters of `~[`
  abbrev pub worked_number : Directive → ℕ → Settled
  worked_number d next =
      settle_all no_entries (in_hand count next) unmodified_places d.parameters next

  number_settles : (d : Directive) (next : ℕ) → Opener d → either d.colon d.atsign ≡ false
      → Settles unmodified_places next (worked_number d next)
  number_settles d next o e =
      settle_placed (in_hand count next) unmodified_places d.parameters next o.fixed
      (rw (o.code, e) at (written_suits d o.written))

  pub start_turned : (d : Directive) (next : ℕ) → next ≤ count → Opener d → Started count (start_of kinds longest d next)
  unfolding start_of
  start_turned d next h o =
      by_test (Started count) d.colon _ _ (λ _. own_started next (Goes (argument (next + 1)) 0) (λ b. (b, refl)))
      (λ e. by_test (Started count) d.atsign _ _
      (λ _. own_started next _
      (λ _. by_test (Started count) (eqb (kind_in kinds next) 0) (Goes (argument next) 0) (Stops 11) (λ _. (h, refl)) (λ _. inr refl)))
      (λ f. settled_started next (worked_number d next) h (number_settles d next o (rw (e, f)))))

  -- "`~@[` is accepted only for a boolean"
  pub only_boolean : (d : Directive) (next : ℕ) → d.colon ≡ false → d.atsign ≡ true
      → Begun (λ _. kind_in kinds next ≡ 0) (start_of kinds longest d next)
  unfolding start_of
  only_boolean d next e f =
      rw (e, f)
      (by_test (Begun (λ _. kind_in kinds next ≡ 0)) (ltb next count) _ _
      (λ _. by_test (Begun (λ _. kind_in kinds next ≡ 0)) (eqb (kind_in kinds next) 0) _ _
      (eqb-true (kind_in kinds next) 0) (λ _. tt)) (λ _. tt))
