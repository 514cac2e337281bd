-- For each kind an entry whose text has the greatest length, and that is not the integer 1, so that a plural of it is as
-- long as can be too. Assumes nothing.
use Prim.Native.Nat.{ℕ, zero, suc, ◌+◌, ◌*◌, ◌-◌, ◌/◌, ◌%◌, ◌^◌, ◌≤◌, ◌<◌}
use mathlib.Core.Path.{◌≡◌, refl, sym, ap, ◌∙◌}
use mathlib.Core.Logic.{inl, inr}
use mathlib.Core.Bool.{Bool, true, false, cond, not}
use mathlib.Core.List.{List, [], ◌∷◌}
use native.Mathlib.Decide.{ℕ_discrete as dec_eq}
use native.Mathlib.Omega.{arith}
use lib.Dec.{T, ltb→lt, eqb→eq, ltb, eqb}
use lib.IntN.{ℤ}
use lib.ListN.{length, length-take, length-append, length-replicate, replicate, take, get_or}
use lib.Seq.{length-take-le}
use borrow.Author.Tests.{le-leb, lt-ltb}
use Rattle.rules.specs.Choice.{both}
use Rattle.rules.specs.Number.{digits_with, digits_of}
use Rattle.rules.specs.Table.{integer, string_in, signed_of, Entry, right_for, is_right, value_by, value_of}
use Rattle.rules.specs.Piece.{or_else, name_of, escaped, decimal_of, bare_of, is_one, text_of}
use Rattle.rules.specs.declared.Form.{Form}
use Rattle.rules.specs.declared.Form.TheVariants.{Object, Numeral, Glyph}
use Rattle.rules.specs.declared.Settings.{Settings}
use Rattle.vet_rules.specs.Worst.{padded_size, greatest, Span, spans_of, greatest_over, worst}
use Rattle.vet_rules.proofs.Encoded.{Holdable}
use Rattle.vet_rules.proofs.Padding.{larger_left, larger_one, pad_reached}
use Rattle.vet_rules.proofs.Below.{below, both_left, both_right}
use Rattle.vet_rules.proofs.Lengths.{In, object_length}

-- a letter, and then as many quotes as a string may have bytes: its parts have every length, in quotes and not
abbrev pub marks : ℕ → List ℕ
marks longest = 97 ∷ replicate longest 34

abbrev entry : ℕ → ℕ → ℕ → Entry
entry tag high low = record { tag = tag; zeros = 0; high = high; low = low }

-- some entry of a kind, in a table of n entries
abbrev pub an_entry : ℕ → ℕ → Entry
an_entry n k = entry k (cond (eqb k 4) n 0) 0

-- an entry of kind k that is right anywhere in a table of n entries over that pool
pub record Chosen (n longest k : ℕ) (e : Entry) : Type 0 where
  pub held : Holdable e
  pub tag : e.tag ≡ k
  pub right : (i : ℕ) → i < n → is_right n (suc longest) i e ≡ true
  pub short : length (string_in (value_of (marks longest) e)) ≤ longest
  pub other : is_one (value_of (marks longest) e) ≡ false

-- integers: 0, and then the negated powers of ten
abbrev bits_for : ℕ → ℕ
bits_for zero = 0
bits_for (suc j) = 18446744073709551616 - 10 ^ j

abbrev integer_for : ℕ → Entry
integer_for j = entry 1 (bits_for j / 4294967296) (bits_for j % 4294967296)

not_so : (b : Bool) → T (not b) → b ≡ false
not_so true t = absurd t
not_so false t = refl

abbrev integer_at : ℕ → ℤ
integer_at j = signed_of (bits_for j / 4294967296 * 4294967296 + bits_for j % 4294967296)

right_integer : ℕ → Bool
right_integer j =
    both (ltb (bits_for j / 4294967296) 4294967296)
    (both (not (is_one (integer (integer_at j)))) (eqb (length (decimal_of (integer_at j))) (suc j)))

integers : (j : ℕ) → j < 20 → T (right_integer j)
unfolding right_integer signed_of digits_of digits_with
integers j h = below right_integer 20 tt j h

integer_facts : (j : ℕ) → j < 20
    → (bits_for j / 4294967296 < 4294967296) × (is_one (integer (integer_at j)) ≡ false) × (length (decimal_of (integer_at j)) ≡ suc j)
unfolding right_integer
integer_facts j h =
    let small = ltb (bits_for j / 4294967296) 4294967296 in
    let other = not (is_one (integer (integer_at j))) in
    let size = eqb (length (decimal_of (integer_at j))) (suc j) in
    let t = integers j h in
    let b = both_right small (both other size) t in
    (ltb→lt _ _ (both_left small (both other size) t), not_so (is_one (integer (integer_at j))) (both_left other size b), eqb→eq _ _ (both_right other size b))

-- characters, by the length of the name
abbrev character_for : ℕ → ℕ
character_for n = get_or (97 ∷ 97 ∷ 1 ∷ 9 ∷ 0 ∷ 7 ∷ 13 ∷ 10 ∷ 0 ∷ 8 ∷ []) n 0

-- the greatest over spans, of which there is one, is that of a length in one of them
Spanning : List Span → Type 0
Spanning [] = Unit {0}
Spanning (s ∷ ss) = (s.least ≤ s.most) × Spanning ss

Spans : List Span → Type 0
Spans [] = ⊥
Spans (s ∷ ss) = Spanning (s ∷ ss)

over_reached : (w p m : ℕ) → 1 ≤ p → (ss : List Span) → Spans ss
    → (size : ℕ) × In size ss × (padded_size w p m size ≡ greatest_over w p m ss)
unfolding Spanning Spans
over_reached w p m h [] a = absurd a
over_reached w p m h (s ∷ []) a =
    let r = pad_reached p h w m s.least s.most a.0 in
    let g = greatest w p m s.least s.most in
    (r.0, inl (r.1, r.2), (elim (larger_one g 0) [ inl e ↦ r.3 ∙ sym e | inr e ↦ omega (arith, r.3, larger_left g 0) ]))
over_reached w p m h (s ∷ t ∷ ts) a =
    let r = pad_reached p h w m s.least s.most a.0 in
    let q = over_reached w p m h (t ∷ ts) a.1 in
    elim (larger_one (greatest w p m s.least s.most) (greatest_over w p m (t ∷ ts))) [
      | inl e ↦ (r.0, inl (r.1, r.2), r.3 ∙ sym e)
      | inr e ↦ (q.0, inr q.1, q.2 ∙ sym e)
    ]

spans : (longest : ℕ) (q : Bool) (k : ℕ) → k < 4 → Spans (spans_of longest q k)
unfolding Spanning Spans spans_of
spans longest q zero a = (omega arith, tt)
spans longest q (suc zero) a = (omega arith, tt)
spans longest false (suc (suc zero)) a = (omega arith, tt)
spans longest true (suc (suc zero)) a = (omega arith, (omega arith, tt))
spans longest false (suc (suc (suc zero))) a = (omega arith, tt)
spans longest true (suc (suc (suc zero))) a = (omega arith, tt)
spans longest q (suc (suc (suc (suc zero)))) a = absurd (omega arith)
spans longest q (suc (suc (suc (suc (suc k))))) a = absurd (omega arith)

-- an entry whose piece has the greatest length
abbrev pub Filling : ℕ → ℕ → Form → Bool → Bool → Settings → ℕ → Type 0
Filling n longest f colon atsign s k =
    (e : Entry) × Chosen n longest k e × (length (text_of f colon atsign s (value_of (marks longest) e)) ≡ worst longest f colon atsign s k)

module _ (n longest : ℕ) (hn : n ≤ 1024) (hl : longest ≤ 4096) where
  abbrev pool : List ℕ
  pool = marks longest

  -- an entry whose bare text has a length
  abbrev Reached : Bool → ℕ → ℕ → Type 0
  Reached q k size = (e : Entry) × Chosen n longest k e × (length (bare_of q (value_of pool e)) ≡ size)

  a_boolean_lem : Chosen n longest 0 (entry 0 0 0)
  unfolding value_by right_for
  a_boolean_lem = record {
    held = record { tag = omega arith; zeros = refl; high = omega arith; low = omega arith };
    tag = refl;
    right = λ i h. refl;
    short = omega arith;
    other = refl;
  }

  an_integer_lem : (j : ℕ) → j < 20 → Chosen n longest 1 (integer_for j)
  unfolding value_by right_for
  an_integer_lem j h = record {
    held = record { tag = omega arith; zeros = refl; high = (integer_facts j h).0; low = omega arith };
    tag = refl;
    right = λ i h. refl;
    short = omega arith;
    other = (integer_facts j h).1;
  }

  the_least : Chosen n longest 1 (entry 1 2147483648 0)
  unfolding value_by right_for signed_of
  the_least = record {
    held = record { tag = omega arith; zeros = refl; high = omega arith; low = omega arith };
    tag = refl;
    right = λ i h. refl;
    short = omega arith;
    other = refl;
  }

  a_character_lem : (c : ℕ) → c < 128 → Chosen n longest 2 (entry 2 0 c)
  unfolding value_by right_for
  a_character_lem c h = record {
    held = record { tag = omega arith; zeros = refl; high = omega arith; low = omega arith };
    tag = refl;
    right = λ i h'. le-leb c 127 (omega arith);
    short = omega arith;
    other = refl;
  }

  a_string_lem : (offset size : ℕ) → offset + size ≤ suc longest → size ≤ longest → Chosen n longest 3 (entry 3 offset size)
  unfolding value_by right_for
  a_string_lem offset size h g = record {
    held = record { tag = omega arith; zeros = refl; high = omega arith; low = omega arith };
    tag = refl;
    right = λ i h'. le-leb (offset + size) (suc longest) h;
    short = rw length-take (omega arith);
    other = refl;
  }

  a_list_lem : Chosen n longest 4 (entry 4 n 0)
  unfolding value_by right_for
  a_list_lem = record {
    held = record { tag = omega arith; zeros = refl; high = omega arith; low = omega arith };
    tag = refl;
    right = λ i h. rw (lt-ltb i n h) (le-leb (n + 0) n (omega arith));
    short = omega arith;
    other = refl;
  }

  -- names
  named : ℕ → Bool
  named j = both (ltb (character_for j) 128) (eqb (length (name_of (character_for j))) j)

  names : (j : ℕ) → j < 7 → T (named (suc j))
  unfolding named name_of digits_of digits_with
  names j h = below (λ j. named (suc j)) 7 tt j h

  name_nine : T (named 9)
  unfolding named name_of
  name_nine = tt

  a_name : (j : ℕ) → T (named j) → Reached true 2 (suc (suc j))
  unfolding named value_by bare_of
  a_name j t =
      let a = ltb (character_for j) 128 in
      let b = eqb (length (name_of (character_for j))) j in
      (entry 2 0 (character_for j), a_character_lem (character_for j) (ltb→lt _ _ (both_left a b t)), ap (λ (x : ℕ). suc (suc x)) (eqb→eq _ _ (both_right a b t)))

  -- strings
  quotes : (l j : ℕ) → j ≤ l → length (escaped (take j (replicate l 34))) ≡ 2 * j
  unfolding escaped
  quotes l zero h = refl
  quotes zero (suc j) h = absurd (omega arith)
  quotes (suc l) (suc j) h = omega (arith, quotes l j (omega arith))

  a_text : (j : ℕ) → j ≤ longest → Reached false 3 j
  unfolding value_by bare_of
  a_text j h = (entry 3 0 j, a_string_lem 0 j (omega arith) h, length-take-le j pool (simp length-replicate (omega arith)))

  -- 2 + j bytes in quotes: j / 2 quotes, and before them the letter where j is odd
  a_quoted : (j : ℕ) → j ≤ 2 * longest → Reached true 3 (suc (suc j))
  unfolding value_by escaped bare_of
  a_quoted j h =
      let marked = escaped (take (j / 2) (replicate longest 34)) in
      elim (dec_eq (j % 2) 0) [
        | yes e ↦
            (entry 3 1 (j / 2), a_string_lem 1 (j / 2) (omega arith) (omega arith), ap suc (length-append marked (34 ∷ []) ∙ omega (arith, quotes longest (j / 2) (omega arith))))
        | no e ↦
            (entry 3 0 (suc (j / 2)), a_string_lem 0 (suc (j / 2)) (omega arith) (omega arith), ap (λ (x : ℕ). suc (suc x)) (length-append marked (34 ∷ []) ∙ omega (arith, quotes longest (j / 2) (omega arith))))
      ]

  the_boolean : (q : Bool) → Reached q 0 2
  unfolding value_by bare_of
  the_boolean q = (entry 0 0 0, a_boolean_lem, refl)

  the_integer : (q : Bool) (j : ℕ) → j < 20 → Reached q 1 (suc j)
  unfolding value_by bare_of
  the_integer q j h = (integer_for j, an_integer_lem j h, (integer_facts j h).2)

  the_letter : Reached false 2 1
  unfolding value_by bare_of
  the_letter = (entry 2 0 97, a_character_lem 97 (omega arith), refl)

  sized : (q : Bool) (k a b : ℕ) → a ≡ b → Reached q k a → Reached q k b
  sized q k a b e r = (r.0, r.1, r.2 ∙ e)

  -- every length of the spans is some entry's
  reached : (q : Bool) (k size : ℕ) → In size (spans_of longest q k) → Reached q k size
  unfolding spans_of
  reached q zero size (inl i) = sized q 0 2 size (omega arith) (the_boolean q)
  reached q zero size (inr i) = absurd i
  reached q (suc zero) size (inl i) = sized q 1 (suc (size - 1)) size (omega arith) (the_integer q (size - 1) (omega arith))
  reached q (suc zero) size (inr i) = absurd i
  reached false (suc (suc zero)) size (inl i) = sized false 2 1 size (omega arith) the_letter
  reached false (suc (suc zero)) size (inr i) = absurd i
  reached true (suc (suc zero)) size (inl i) =
      sized true 2 (suc (suc (suc (size - 3)))) size (omega arith)
      (a_name (suc (size - 3)) (names (size - 3) (omega arith)))
  reached true (suc (suc zero)) size (inr (inl i)) = sized true 2 11 size (omega arith) (a_name 9 name_nine)
  reached true (suc (suc zero)) size (inr (inr i)) = absurd i
  reached false (suc (suc (suc zero))) size (inl i) = a_text size i.1
  reached false (suc (suc (suc zero))) size (inr i) = absurd i
  reached true (suc (suc (suc zero))) size (inl i) =
      sized true 3 (suc (suc (size - 2))) size (omega arith) (a_quoted (size - 2) (omega arith))
  reached true (suc (suc (suc zero))) size (inr i) = absurd i
  reached q (suc (suc (suc (suc zero)))) size i = absurd i
  reached q (suc (suc (suc (suc (suc k))))) size i = absurd i

  -- any entry of a kind
  pub any : (k : ℕ) → k ≤ 4 → Chosen n longest k (an_entry n k)
  any zero h = a_boolean_lem
  any (suc zero) h = an_integer_lem 0 (omega arith)
  any (suc (suc zero)) h = a_character_lem 0 (omega arith)
  any (suc (suc (suc zero))) h = a_string_lem 0 0 (omega arith) (omega arith)
  any (suc (suc (suc (suc zero)))) h = a_list_lem
  any (suc (suc (suc (suc (suc k))))) h = absurd (omega arith)

  pub object_reached : (q colon atsign : Bool) (s : Settings) (k : ℕ) → 1 ≤ or_else s.second 1 → k < 4
      → Filling n longest (Object q) colon atsign s k
  unfolding worst text_of
  object_reached q colon atsign s k h a =
      let z = over_reached (or_else s.first 0) (or_else s.second 1) (or_else s.third 0) h (spans_of longest q k) (spans longest q k a) in
      let r = reached q k z.0 z.1 in
      (r.0, r.1, object_length q atsign s (value_of pool r.0) ∙ ap (padded_size (or_else s.first 0) (or_else s.second 1) (or_else s.third 0)) r.2 ∙ z.2)

  pub numeral_reached : (base : ℕ) (colon atsign : Bool) (s : Settings) → Filling n longest (Numeral base) colon atsign s 1
  unfolding worst text_of value_by signed_of
  numeral_reached base colon atsign s = (entry 1 2147483648 0, the_least, refl)

  pub glyph_reached : (colon atsign : Bool) (s : Settings) → Filling n longest Glyph colon atsign s 2
  unfolding worst text_of value_by name_of
  glyph_reached colon true s = (entry 2 0 8, a_character_lem 8 (omega arith), refl)
  glyph_reached true false s = (entry 2 0 0, a_character_lem 0 (omega arith), refl)
  glyph_reached false false s = (entry 2 0 97, a_character_lem 97 (omega arith), refl)
