-- An encoded table read again: its header, its entries, its pool, its values, and that it passes the check.
-- Assumes nothing.
use Prim.Native.Nat.{ℕ, zero, suc, ◌+◌, ◌*◌, ◌/◌, ◌%◌, ◌≤◌, ◌<◌}
use mathlib.Core.Path.{◌≡◌, refl, sym, ap, ap₂, ◌∙◌}
use mathlib.Core.Bool.{true}
use mathlib.Core.List.{List, ◌∷◌, ◌++◌, append_assoc}
use native.Mathlib.Nat.{zero-add, add-zero}
use native.Mathlib.Omega.{arith}
use lib.ListN.{length, length-append, get_or, drop, get_or-append}
use lib.Seq.{get_or-append-add, drop_at}
use Rattle.rules.specs.Table.{Entry, entry_at, entry_place, entry_count, argument_count, pool_length, pool_of, is_right, value_of, value_at, values_from, view_of, table_verdict}
use Rattle.rules.specs.Verdict.{Accepted}
use Rattle.rules.proofs.Bytes.{Bytes, bytes_append, bytes_at}
use Rattle.rules.proofs.TableLaws.{sound_accepted}
use Rattle.vet_rules.specs.Encode.{entry_bytes, entries_from, header_bytes, table_of, values_held}

entry_length : (e : Entry) → length (entry_bytes e) ≡ 12
unfolding entry_bytes
entry_length e = refl

header_length : (n pool : ℕ) → length (header_bytes n pool) ≡ 8
unfolding header_bytes
header_length n pool = refl

entries_length : (e : ℕ → Entry) (k i : ℕ) → length (entries_from e k i) ≡ 12 * k
unfolding entries_from
entries_length e zero i = refl
entries_length e (suc k) i =
    length-append (entry_bytes (e i)) (entries_from e k (suc i))
    ∙ omega (arith, entries_length e k (suc i), entry_length (e i))

-- past a first part of so many bytes
past : (xs ys : List ℕ) (size n m : ℕ) → length xs ≡ size → n ≡ size + m → get_or (xs ++ ys) n 0 ≡ get_or ys m 0
past xs ys size n m l q = ap (λ (x : ℕ). get_or (xs ++ ys) x 0) (omega arith) ∙ get_or-append-add xs ys m 0

-- byte c of the entry j after i
entry_byte : (e : ℕ → Entry) (pool : List ℕ) (k i j c : ℕ) → j < k → c < 12
    → get_or (entries_from e k i ++ pool) (12 * j + c) 0 ≡ get_or (entry_bytes (e (i + j))) c 0
unfolding entries_from
entry_byte e pool zero i j c h hc = absurd (omega arith)
entry_byte e pool (suc k) i zero c h hc =
    let rest = entries_from e k (suc i) in
    ap (λ (l : List ℕ). get_or l (0 + c) 0) (append_assoc (entry_bytes (e i)) rest pool)
    ∙ ap (λ (x : ℕ). get_or (entry_bytes (e i) ++ (rest ++ pool)) x 0) (zero-add c)
    ∙ get_or-append (entry_bytes (e i)) (rest ++ pool) 0 c (omega (arith, entry_length (e i)))
    ∙ ap (λ (x : ℕ). get_or (entry_bytes (e x)) c 0) (sym (add-zero i))
entry_byte e pool (suc k) i (suc j) c h hc =
    let rest = entries_from e k (suc i) in
    ap (λ (l : List ℕ). get_or l (12 * suc j + c) 0) (append_assoc (entry_bytes (e i)) rest pool)
    ∙ past (entry_bytes (e i)) (rest ++ pool) 12 (12 * suc j + c) (12 * j + c) (entry_length (e i)) (omega arith)
    ∙ entry_byte e pool k (suc i) j c (omega arith) hc
    ∙ ap (λ (x : ℕ). get_or (entry_bytes (e x)) c 0) (omega arith)

whole32 : (x : ℕ) → x / 16777216 * 16777216 + x / 65536 % 256 * 65536 + x / 256 % 256 * 256 + x % 256 ≡ x
whole32 x = omega arith

-- an entry that 12 bytes can hold
pub record Holdable (e : Entry) : Type 0 where
  pub tag : e.tag < 256
  pub zeros : e.zeros ≡ 0
  pub high : e.high < 4294967296
  pub low : e.low < 4294967296

module _ (n : ℕ) (e : ℕ → Entry) (pool : List ℕ) (hn : n ≤ 1024) (hp : length pool ≤ 65536) (bp : Bytes pool)
    (fit : (i : ℕ) → i < n → Holdable (e i)) where
  abbrev made : List ℕ
  made = table_of n e pool

  at_entry : (i : ℕ) → i < n → (at c : ℕ) → c < 12 → at ≡ 8 + (12 * i + c) → get_or made at 0 ≡ get_or (entry_bytes (e i)) c 0
  unfolding table_of
  at_entry i h at c hc q =
      past (header_bytes n (length pool)) (entries_from e n 0 ++ pool) 8 at (12 * i + c) (header_length n (length pool)) q
      ∙ entry_byte e pool n 0 i c h hc
      ∙ ap (λ (x : ℕ). get_or (entry_bytes (e x)) c 0) (zero-add i)

  pub made_entry : (i : ℕ) → i < n → entry_at made i ≡ e i
  unfolding entry_at entry_bytes
  made_entry i h =
      let f = fit i h in
      let at = entry_place i in
      let g = at_entry i h in
      rw (
        g at 0 (omega arith) (omega arith),
        g (at + 1) 1 (omega arith) (omega arith),
        g (at + 2) 2 (omega arith) (omega arith),
        g (at + 3) 3 (omega arith) (omega arith),
        g (at + 4) 4 (omega arith) (omega arith),
        g (at + 4 + 1) 5 (omega arith) (omega arith),
        g (at + 4 + 2) 6 (omega arith) (omega arith),
        g (at + 4 + 3) 7 (omega arith) (omega arith),
        g (at + 8) 8 (omega arith) (omega arith),
        g (at + 8 + 1) 9 (omega arith) (omega arith),
        g (at + 8 + 2) 10 (omega arith) (omega arith),
        g (at + 8 + 3) 11 (omega arith) (omega arith),
        whole32 (e i).high,
        whole32 (e i).low,
      )
      (ap (λ (z : ℕ). record { tag = (e i).tag; zeros = z; high = (e i).high; low = (e i).low }) (sym f.zeros))

  made_count : entry_count made ≡ n
  unfolding table_of header_bytes
  made_count = omega arith

  pub made_arguments : argument_count made ≡ n
  unfolding table_of header_bytes
  made_arguments = omega arith

  made_pool_length : pool_length made ≡ length pool
  unfolding table_of header_bytes
  made_pool_length = whole32 (length pool)

  made_length : length made ≡ 8 + 12 * n + length pool
  unfolding table_of
  made_length =
      length-append (header_bytes n (length pool)) (entries_from e n 0 ++ pool)
      ∙ omega (arith, header_length n (length pool), length-append (entries_from e n 0) pool, entries_length e n 0)

  made_pool : pool_of made ≡ pool
  unfolding table_of pool_of
  made_pool =
      rw made_count
      (ap (drop (entry_place n)) (sym (append_assoc (header_bytes n (length pool)) (entries_from e n 0) pool))
      ∙ drop_at (header_bytes n (length pool) ++ entries_from e n 0) pool (entry_place n)
      (length-append (header_bytes n (length pool)) (entries_from e n 0) ∙ omega (arith, header_length n (length pool), entries_length e n 0)))

  pub made_value : (i : ℕ) → i < n → value_at made i ≡ value_of pool (e i)
  unfolding value_at
  made_value i h = ap₂ value_of made_pool (made_entry i h)

  made_values : (k i : ℕ) → i + k ≤ n → values_from made k i ≡ values_held e pool k i
  unfolding values_from values_held
  made_values zero i h = refl
  made_values (suc k) i h = ap₂ ◌∷◌ (made_value i (omega arith)) (made_values k (suc i) (omega arith))

  -- so its view is the values of the entries, all of them arguments
  pub made_view : view_of made ≡ record { entries = values_held e pool n 0; arguments = n }
  unfolding view_of
  made_view = rw (made_count, made_arguments, made_values n 0 (omega arith))

  -- it passes the check where each entry is right
  pub made_accepted : ((i : ℕ) → i < n → is_right n (length pool) i (e i) ≡ true) → table_verdict made ≡ Accepted
  made_accepted g =
      sound_accepted made
      (record {
        header = omega (arith, made_length);
        entries = omega (arith, made_count);
        arguments = omega (arith, made_count, made_arguments);
        pool = omega (arith, made_pool_length);
        total = omega (arith, made_length, made_count, made_pool_length);
        right =
            λ i h. (let k : i < n = omega (arith, made_count) in rw (made_count, made_pool_length, made_entry i k) (g i k));
      })

  entries_bytes : (k i : ℕ) → i + k ≤ n → Bytes (entries_from e k i)
  unfolding entries_from entry_bytes
  entries_bytes zero i h = tt
  entries_bytes (suc k) i h =
      let f = fit i (omega arith) in
      bytes_append (entry_bytes (e i)) (entries_from e k (suc i))
      (f.tag, (omega arith, (omega arith, (omega arith, (omega arith, (omega arith, (omega arith, (omega arith, (omega arith, (omega arith, (omega arith, (omega arith, tt))))))))))))
      (entries_bytes k (suc i) (omega arith))

  pub made_bytes : (i : ℕ) → get_or made i 0 < 256
  unfolding table_of header_bytes
  made_bytes =
      bytes_at made
      (omega arith, (omega arith, (omega arith, (omega arith, (omega arith, (omega arith, (omega arith, (omega arith, bytes_append (entries_from e n 0) pool (entries_bytes n 0 (omega arith)) bp))))))))
