-- What the values of a suiting table are: integers of 64 bits, codes below 128, strings no longer than the longest; and a
-- run reads them. Assumes nothing.
use Prim.Native.Nat.{ℕ, zero, suc, ◌+◌, ◌*◌, ◌^◌, ◌≤◌, ◌<◌}
use mathlib.Core.Path.{◌≡◌, refl, ap, ◌∙◌, subst⁻¹}
use mathlib.Core.List.{List, []}
use native.Mathlib.Nat.{zero-add}
use native.Mathlib.Decide.{dec_lt}
use native.Mathlib.Omega.{arith}
use lib.Signed.{mag}
use lib.ListN.{length}
use borrow.Author.Tests.{lt-ltb, le-ltb}
use Rattle.rules.specs.Table.{Value, boolean, integer, character, string, list, signed_of, value_by, value_at, string_in, entry_at, entry_place, pool_of, entry_count, view_of, entry_in}
use Rattle.rules.specs.Text.{sequence_of}
use Rattle.rules.specs.Piece.{kind_of}
use Rattle.rules.specs.Run.{run}
use Rattle.rules.specs.Answer.{limit}
use Rattle.rules.proofs.TableLaws.{accepted_sound, accepted_entry}
use Rattle.rules.proofs.ViewLaws.{view_arguments, view_entry}
use Rattle.vet_rules.specs.Turns.{kind_in}
use Rattle.vet_rules.specs.Use.{in_hand}
use Rattle.vet_rules.specs.Demand.{Suits, run_of}

abbrev pub Allowed : ℕ → Value → Type 0
Allowed longest (boolean b) = Unit {0}
Allowed longest (integer z) = mag z < 2 ^ 63
Allowed longest (character c) = c < 128
Allowed longest (string s) = length s ≤ longest
Allowed longest (list first count) = Unit {0}

signed_range : (bits : ℕ) → bits < 18446744073709551616 → mag (signed_of bits) < 2 ^ 63
unfolding signed_of
signed_range bits h =
    elim (dec_lt bits 9223372036854775808) [
      | yes k ↦ rw (lt-ltb bits 9223372036854775808 k) k
      | no k ↦ rw (le-ltb bits 9223372036854775808 (omega arith)) (omega arith)
    ]

value_allowed : (longest : ℕ) (pool : List ℕ) (tag high low : ℕ) → (tag ≡ 2 → (high ≡ 0) × (low ≤ 127)) → high < 4294967296
    → low < 4294967296
    → length (string_in (value_by pool tag high low)) ≤ longest → Allowed longest (value_by pool tag high low)
unfolding value_by
value_allowed longest pool zero high low c hh hl s = tt
value_allowed longest pool (suc zero) high low c hh hl s = signed_range (high * 4294967296 + low) (omega arith)
value_allowed longest pool (suc (suc zero)) high low c hh hl s = omega (arith, (c refl).1)
value_allowed longest pool (suc (suc (suc zero))) high low c hh hl s = s
value_allowed longest pool (suc (suc (suc (suc zero)))) high low c hh hl s = tt
value_allowed longest pool (suc (suc (suc (suc (suc k))))) high low c hh hl s = tt

-- the kind of a value is the tag of its entry
pub value_kind : (pool : List ℕ) (tag high low : ℕ) → tag ≤ 4 → kind_of (value_by pool tag high low) ≡ tag
unfolding value_by
value_kind pool zero high low h = refl
value_kind pool (suc zero) high low h = refl
value_kind pool (suc (suc zero)) high low h = refl
value_kind pool (suc (suc (suc zero))) high low h = refl
value_kind pool (suc (suc (suc (suc zero)))) high low h = omega arith
value_kind pool (suc (suc (suc (suc (suc k))))) high low h = omega arith

module _ {kinds : List ℕ} {longest : ℕ} {table : List ℕ} (s : Suits kinds longest table) where
  an_entry_lem : (i : ℕ) → i < length kinds → i < entry_count table
  an_entry_lem i h = let v = accepted_sound table s.valid in omega (arith, v.arguments, s.count)

  pub argument_allowed : (i : ℕ) → i < length kinds → Allowed longest (value_at table i)
  unfolding value_at entry_at
  argument_allowed i h =
      let a = entry_place i in
      let e = entry_at table i in
      let b = s.bytes in
      value_allowed longest (pool_of table) e.tag e.high e.low
      (accepted_entry table s.valid i (an_entry_lem i h)).character
      (omega (arith, b (a + 4), b (a + 4 + 1), b (a + 4 + 2), b (a + 4 + 3)))
      (omega (arith, b (a + 8), b (a + 8 + 1), b (a + 8 + 2), b (a + 8 + 3)))
      (s.short i h)

  pub argument_kind : (i : ℕ) → i < length kinds → kind_of (value_at table i) ≡ kind_in kinds i
  unfolding value_at
  argument_kind i h =
      let e = entry_at table i in
      value_kind (pool_of table) e.tag e.high e.low (accepted_entry table s.valid i (an_entry_lem i h)).tag ∙ s.tags i h

  -- what a run reads
  pub argument_read : (i : ℕ) → i < length kinds → entry_in (view_of table) (0 + i) ≡ value_at table i
  argument_read i h = ap (entry_in (view_of table)) (zero-add i) ∙ view_entry table i (an_entry_lem i h)

  pub read_kind : (i : ℕ) → i < length kinds → kind_of (entry_in (view_of table) (0 + i)) ≡ kind_in kinds i
  read_kind i h = ap kind_of (argument_read i h) ∙ argument_kind i h

  pub read_allowed : (i : ℕ) → i < length kinds → Allowed longest (entry_in (view_of table) (0 + i))
  read_allowed i h = subst⁻¹ (Allowed longest) (argument_read i h) (argument_allowed i h)

  -- and a run's arguments are as many as the kinds
  pub run_is : (format : List ℕ)
      → run_of format table ≡ run (view_of table) limit (sequence_of format) [] (in_hand (length kinds) 0)
  run_is format =
      ap (λ (n : ℕ). run (view_of table) limit (sequence_of format) [] (in_hand n 0)) (view_arguments table ∙ s.count)
