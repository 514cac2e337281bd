-- What reading an entry of an accepted table may answer, kind by kind. Assumes nothing.
use Prim.Native.Nat.{ℕ, zero, suc, ◌+◌, ◌-◌, ◌*◌, ◌≤◌, ◌<◌}
use mathlib.Core.Path.{◌≡◌, refl, sym, ap, ◌∙◌}
use mathlib.Core.List.{List}
use native.Mathlib.Omega.{arith}
use lib.Dec.{eqb}
use lib.ListN.{length, take, drop}
use lib.Seq.{drop-drop}
use borrow.Author.Tests.{le-leb, lt-ltb}
use Rattle.rules.specs.Table.{entry_count, pool_length, entry_place, pool_of, entry_at, signed_of, value_by, value_at, string, list, Holds, table_verdict}
use Rattle.rules.specs.Verdict.{Accepted}
use Rattle.rules.specs.declared.Argument.TheVariants.{Boolean, Integer, Character, Text, Entries}
use Rattle.rules.proofs.Tests.{true_both}
use Rattle.rules.proofs.TableLaws.{Sound, RightEntry, accepted_sound, accepted_entry}

-- a tag past 3 is read as a list's
other_kinds : (pool : List ℕ) (tag high low : ℕ) → 4 ≤ tag → value_by pool tag high low ≡ list high low
unfolding value_by
other_kinds pool zero high low h = absurd (omega arith)
other_kinds pool (suc zero) high low h = absurd (omega arith)
other_kinds pool (suc (suc zero)) high low h = absurd (omega arith)
other_kinds pool (suc (suc (suc zero))) high low h = absurd (omega arith)
other_kinds pool (suc (suc (suc (suc zero)))) high low h = refl
other_kinds pool (suc (suc (suc (suc (suc k))))) high low h = refl

-- a string's bytes lie in the table from start on, where the pool begins
same_part : (t : List ℕ) (place high low : ℕ) → take ((place + high + low) - (place + high)) (drop (place + high) t) ≡ take low (drop high (drop place t))
same_part t place high low =
    let size : (place + high + low) - (place + high) ≡ low = omega arith in
    rw (size, drop-drop high place t)

-- the part of an accepted table that an entry takes up is there
pub entry_fits : (t : List ℕ) → table_verdict t ≡ Accepted → (i : ℕ) → i < entry_count t → (i < 1024) × (entry_place i + 12 ≤ length t)
entry_fits t ok i h = let s = accepted_sound t ok in (omega arith, omega arith)

-- the reader stands at entry i, and has read its tag and the two halves of its eight bytes
pub record AtEntry (t : List ℕ) (i tag high low : ℕ) : Type 0 where
  pub accepted : table_verdict t ≡ Accepted
  pub below : i < entry_count t
  pub is_tag : tag ≡ (entry_at t i).tag
  pub is_high : high ≡ (entry_at t i).high
  pub is_low : low ≡ (entry_at t i).low

module _ {t : List ℕ} {i tag high low : ℕ} (at : AtEntry t i tag high low) where
  sound : Sound t
  sound = accepted_sound t at.accepted

  right : RightEntry (entry_count t) (pool_length t) i (entry_at t i)
  right = accepted_entry t at.accepted i at.below

  pub boolean_holds : tag ≡ 0 → Holds t i (Boolean (eqb low 1))
  unfolding value_at value_by
  boolean_holds is = record { value = rw (← at.is_tag, ← at.is_low, is, value_by); inside = refl }

  pub integer_holds : tag ≡ 1 → Holds t i (Integer (signed_of (high * 4294967296 + low)))
  unfolding value_at value_by
  integer_holds is = record { value = rw (← at.is_tag, ← at.is_high, ← at.is_low, is, value_by); inside = refl }

  pub character_small : tag ≡ 2 → low ≤ 127
  character_small is = omega (arith, (right.character (sym at.is_tag ∙ is)).1, at.is_low)

  pub character_holds : tag ≡ 2 → Holds t i (Character low)
  unfolding value_at value_by
  character_holds is = record {
    value = rw (← at.is_tag, ← at.is_low, is, value_by);
    inside = le-leb low 127 (character_small is);
  }

  string_size : tag ≡ 3 → high + low ≤ pool_length t
  string_size is = omega (arith, right.string (sym at.is_tag ∙ is), at.is_high, at.is_low)

  pub string_holds : (start : ℕ) → start ≡ entry_place (entry_count t) + high → tag ≡ 3 → Holds t i (Text start (start + low))
  unfolding value_at value_by pool_of
  string_holds start is_start is = record {
    value = rw (is_start, ← at.is_tag, ← at.is_high, ← at.is_low, is, value_by) (ap string (same_part t (entry_place (entry_count t)) high low));
    inside =
        let size = string_size is in
        let fits : start + low ≤ length t = omega (arith, sound.total) in
        let short : low ≤ 65536 = omega (arith, sound.pool) in
        true_both (le-leb start (start + low) (omega arith))
        (true_both (le-leb (start + low) (length t) fits) (le-leb ((start + low) - start) 65536 (omega arith)));
  }

  pub list_holds : 4 ≤ tag → Holds t i (Entries (record { 0 = high }) low)
  unfolding value_at
  list_holds h =
      let four : (entry_at t i).tag ≡ 4 = omega (arith, right.tag, at.is_tag) in
      let facts = right.list four in
      record {
        value = rw (← at.is_tag, ← at.is_high, ← at.is_low) (sym (other_kinds (pool_of t) tag high low h));
        inside = true_both (lt-ltb i high (omega (arith, facts.0, at.is_high))) (le-leb (high + low) (entry_count t) (omega (arith, facts.1, at.is_high, at.is_low)));
      }
