-- What a conditional runs, whatever the values of its arguments: a clause from where the clauses start, or none of them.
-- Assumes nothing.
use Prim.Native.Nat.{ℕ, ◌+◌, ◌<◌}
use mathlib.Core.Path.{◌≡◌, ◌∙◌}
use mathlib.Core.Bool.{Bool, true, false, cond}
use mathlib.Core.List.{List, [], ◌∷◌}
use native.Mathlib.Omega.{arith}
use lib.Dec.{ltb, eqb}
use lib.ListN.{length}
use borrow.Author.Tests.{ltb-true, eqb-true}
use Rattle.rules.specs.Choice.{either}
use Rattle.rules.specs.Rows.{no_places, in_row, in_order, each_suits}
use Rattle.rules.specs.Piece.{kind_of}
use Rattle.rules.specs.Run.{Flow, clause_at, is_false, on_settled, with_settings, pick_by, pick_numbered, pick}
use Rattle.rules.specs.Table.{Value, boolean, integer, character, string, list, View}
use Rattle.rules.specs.Text.{Sequence, end, Clauses}
use Rattle.rules.specs.Working.{Context, Settled, settled, unsettled, settings_of}
use Rattle.rules.specs.declared.Directive.{Directive}
use Rattle.rules.specs.Setting.{Setting}
use Rattle.std.specs.Prelude.{None, Some}
use Rattle.rules.proofs.Rowed.{written_suits, none_settled}
use Rattle.vet_rules.specs.Turns.{argument, kind_in, Turn, Goes, Stops}
use Rattle.vet_rules.specs.Use.{in_hand}
use Rattle.vet_rules.specs.Ways.{has_fallback, on_own, numbered_start, unmodified_places, settled_start, start_of}
use Rattle.vet_rules.proofs.Clauses.{Each, each_within, each_number, each_integer}
use Rattle.vet_rules.proofs.PlainRun.{value_in}
use Rattle.vet_rules.proofs.Settling.{settle_plain}
use Rattle.vet_rules.proofs.Starts.{Begun, worked_number}
use Rattle.vet_rules.proofs.Vettable.{Choosing}
use Rattle.vet_rules.proofs.Uses.{by_test}

-- what a conditional gives once it is begun, where `on` runs a clause from an argument
abbrev pub chosen : View → ℕ → ℕ → ℕ → Directive → Clauses → ℕ → (Sequence → ℕ → Flow) → Flow
chosen v count p m d cs next on =
    with_settings v p m d (in_hand count next) (λ s i. pick v p m d cs (in_hand count next) s i on)

-- P holds of every clause from the argument `start`, and of the end of the block where none of them is run
pub record Any (d : Directive) (cs : Clauses) (P : Sequence → ℕ → Type 0) (start : ℕ) : Type 0 where
  pub each : Each (λ x. P x start) cs
  pub boolean : d.colon ≡ false → d.atsign ≡ true → P end (start + 1)
  pub number : d.colon ≡ false → d.atsign ≡ false → has_fallback cs ≡ false → P end start

module _ (kinds : List ℕ) (longest : ℕ) (v : View)
    (agree : (i : ℕ) → i < length kinds → kind_of (value_in v (length kinds) i) ≡ kind_in kinds i)
    (p m : ℕ) (d : Directive) (cs : Clauses) (b : Choosing d cs) (next : ℕ)
    (on : Sequence → ℕ → Flow) (P : Flow → Type 0) where
  abbrev count : ℕ
  count = length kinds

  abbrev here : Context
  here = in_hand count next

  abbrev flow : Flow
  flow = chosen v count p m d cs next on

  abbrev AnyRun : ℕ → Type 0
  AnyRun start = Any d cs (λ x i. P (on x i)) start

  -- what holds of whatever may be run holds of the conditional
  abbrev Picks : Turn → Type 0
  Picks t = Begun (λ start. AnyRun start → P flow) t

  own_picks : (i : ℕ) (go : Turn) → (ltb i count ≡ true → Picks go) → Picks (on_own kinds longest i go)
  own_picks i go h = by_test Picks (ltb i count) go (Stops 6) h (λ _. tt)

  -- with a modifier nothing is worked out
  modified : either d.colon d.atsign ≡ true
      → flow ≡ pick v p m d cs here (settings_of (None ∷ None ∷ None ∷ None ∷ None ∷ [])) next on
  modified e =
      let o = b.opener in
      let s : each_suits (in_row no_places) (in_order d.parameters) ≡ true = rw (o.code, e) at (written_suits d o.written) in
      rw (o.written, o.code, e, none_settled v here d.parameters next s)

  -- `~:[`
  two_picks : d.colon ≡ true → Picks (on_own kinds longest next (Goes (argument (next + 1)) 0))
  two_picks e =
      own_picks next (Goes (argument (next + 1)) 0)
      (λ t a. rw (modified (rw e), e, t) (by (is_false (value_in v count next)) a))
    where
      by : (f : Bool) → AnyRun (next + 1) → P (on (clause_at cs (cond f 0 1) end) (next + 1))
      by true a = each_within (λ x. P (on x (next + 1))) cs a.each 0 end b.some
      by false a = each_within (λ x. P (on x (next + 1))) cs a.each 1 end (b.two e)

  -- `~@[`
  one_picks : d.colon ≡ false → d.atsign ≡ true
      → Picks (on_own kinds longest next (cond (eqb (kind_in kinds next) 0) (Goes (argument next) 0) (Stops 11)))
  one_picks e f =
      own_picks next _
      (λ t. by_test Picks (eqb (kind_in kinds next) 0) (Goes (argument next) 0) (Stops 11)
      (λ _ a. rw (modified (rw (e, f)), e, f, t) (by (is_false (value_in v count next)) a)) (λ _. tt))
    where
      by : (y : Bool) → AnyRun next → P (on (cond y end (clause_at cs 0 end)) (cond y (next + 1) next))
      by true a = a.boolean e f
      by false a = each_within (λ x. P (on x next)) cs a.each 0 end b.some

  -- `~[` with its parameters worked out
  module _ (e : d.colon ≡ false) (f : d.atsign ≡ false) where
    by_value : (i : ℕ) (x : Value) → kind_of x ≡ 1 → AnyRun (i + 1) → P (pick_by v p m cs here i on x)
    by_value i (boolean y) k a = absurd (omega arith)
    by_value i (integer z) k a = each_integer (λ x. P (on x (i + 1))) cs a.each (a.number e f) z
    by_value i (character c) k a = absurd (omega arith)
    by_value i (string t) k a = absurd (omega arith)
    by_value i (list first n) k a = absurd (omega arith)

    by_number : (i : ℕ) (s : Setting)
        → Begun (λ start. AnyRun start → P (pick_numbered v p m cs here i on s)) (numbered_start kinds longest i s)
    by_number i None =
        by_test Goal (ltb i count) _ (Stops 6)
        (λ t. by_test Goal (eqb (kind_in kinds i) 1) (Goes (argument (i + 1)) 0) (Stops 7)
        (λ k a. rw t (by_value i (value_in v count i) (agree i (ltb-true i count t) ∙ eqb-true (kind_in kinds i) 1 k) a))
        (λ _. tt))
        (λ _. tt)
      where
        Goal : Turn → Type 0
        Goal = Begun (λ start. AnyRun start → P (pick_numbered v p m cs here i on None))
    by_number i (Some n) = λ a. each_number (λ x. P (on x i)) cs a.each (a.number e f) n

    by_settled : (z : Settled) → flow ≡ on_settled p m z (λ s i. pick v p m d cs here s i on)
        → Picks (settled_start kinds longest z)
    by_settled (settled ss i) q =
        let s = settings_of ss in
        let n : pick v p m d cs here s i on ≡ pick_numbered v p m cs here i on s.first = rw (e, f) in
        rw (q ∙ n) (by_number i s.first)
    by_settled (unsettled code) q = tt

    number_picks : Picks (settled_start kinds longest (worked_number kinds longest d next))
    number_picks =
        let o = b.opener in
        by_settled (worked_number kinds longest d next)
        (rw (o.written, o.code, e, f, settle_plain v here (in_row unmodified_places) (in_order d.parameters) next o.fixed))

  pub picks : Picks (start_of kinds longest d next)
  unfolding start_of
  picks =
      by_test Picks d.colon _ _ two_picks
      (λ e. by_test Picks d.atsign _ _ (one_picks e) (number_picks e))
