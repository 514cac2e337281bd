-- A table of chosen entries over the pool of marks suits their kinds; so for all kinds that may be asked there is one
-- that does. Assumes nothing.
use Prim.Native.Nat.{ℕ, zero, suc, ◌≤◌, ◌<◌}
use mathlib.Core.Path.{◌≡◌, ap, ◌∙◌}
use mathlib.Core.List.{List}
use native.Mathlib.Omega.{arith}
use lib.ListN.{length, replicate, length-replicate}
use Rattle.rules.specs.Table.{Entry, value_at, value_of}
use Rattle.rules.proofs.Bytes.{Bytes}
use Rattle.vet_rules.specs.Vet.{Asked}
use Rattle.vet_rules.specs.Encode.{table_of}
use Rattle.vet_rules.specs.Turns.{kind_in}
use Rattle.vet_rules.specs.Demand.{Suits}
use Rattle.vet_rules.proofs.Choices.{marks, an_entry, Chosen, any}
use Rattle.vet_rules.proofs.Encoded.{Holdable, made_entry, made_value, made_arguments, made_accepted, made_bytes}

pool_length_lem : (longest : ℕ) → length (marks longest) ≡ suc longest
pool_length_lem longest = ap suc (length-replicate longest 34)

quotes_bytes : (n : ℕ) → Bytes (replicate n 34)
quotes_bytes zero = tt
quotes_bytes (suc n) = (omega arith, quotes_bytes n)

pool_bytes : (longest : ℕ) → Bytes (marks longest)
pool_bytes longest = (omega arith, quotes_bytes longest)

module _ (kinds : List ℕ) (longest : ℕ) (a : Asked kinds longest) (entry : ℕ → Entry)
    (chosen : (i : ℕ) → i < length kinds → Chosen (length kinds) longest (kind_in kinds i) (entry i)) where
  abbrev count : ℕ
  count = length kinds

  pool_fits : length (marks longest) ≤ 65536
  pool_fits = omega (arith, pool_length_lem longest, a.long)

  held : (i : ℕ) → i < count → Holdable (entry i)
  held i h = (chosen i h).held

  abbrev pub witness : List ℕ
  witness = table_of count entry (marks longest)

  pub worth : (i : ℕ) → i < count → value_at witness i ≡ value_of (marks longest) (entry i)
  worth = made_value count entry (marks longest) a.many pool_fits (pool_bytes longest) held

  pub suited : Suits kinds longest witness
  suited = record {
    bytes = made_bytes count entry (marks longest) a.many pool_fits (pool_bytes longest) held;
    valid = made_accepted count entry (marks longest) a.many pool_fits (pool_bytes longest) held
        (λ i h. rw (pool_length_lem longest) ((chosen i h).right i h));
    count = made_arguments count entry (marks longest) a.many pool_fits (pool_bytes longest) held;
    tags = λ i h.
        ap (λ (e : Entry). e.tag)
        (made_entry count entry (marks longest) a.many pool_fits (pool_bytes longest) held i h)
        ∙ (chosen i h).tag;
    short = λ i h. rw (worth i h) (chosen i h).short;
  }

pub some_table : (kinds : List ℕ) (longest : ℕ) → Asked kinds longest → (table : List ℕ) × Suits kinds longest table
some_table kinds longest a =
    let n = length kinds in
    let entry : ℕ → Entry = λ i. an_entry n (kind_in kinds i) in
    let chosen : (i : ℕ) → i < n → Chosen n longest (kind_in kinds i) (entry i) = λ i h. any n longest a.many a.long (kind_in kinds i) (a.tags i h) in
    (witness kinds longest a entry chosen, suited kinds longest a entry chosen)
