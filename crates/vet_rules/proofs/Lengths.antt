-- No piece is longer than the greatest length that the definition gives. Assumes nothing.
use Prim.Native.Nat.{ℕ, zero, suc, ◌+◌, ◌*◌, ◌-◌, ◌^◌, ◌≤◌, ◌<◌}
use mathlib.Core.Path.{◌≡◌, ◌∙◌}
use mathlib.Core.Logic.{◌⊎◌, inl, inr}
use mathlib.Core.Bool.{Bool, true, false, cond, not}
use mathlib.Core.List.{List, [], ◌∷◌, ◌++◌}
use native.Mathlib.Decide.{dec_lt, ℕ_discrete as dec_eq}
use native.Mathlib.Omega.{arith}
use lib.Dec.{T, leb→le, eqb→eq, leb, ltb, eqb}
use lib.IntN.{ℤ, pos, negsuc}
use lib.Signed.{mag}
use lib.ListN.{length, length-append, length-replicate, replicate}
use borrow.Author.Tests.{lt-leb, ne_eqb, eq-eqb, not-true, eqb-false}
use Rattle.rules.proofs.Padding.{padded_length}
use Rattle.rules.specs.Choice.{both}
use Rattle.rules.specs.Number.{digits_with, digits_of, magnitude_of, sign_of, pad_left}
use Rattle.rules.specs.Table.{Value, boolean, integer, character, string, list}
use Rattle.rules.specs.Piece.{or_else, name_of, escaped, written_of, decimal_of, bare_of, padding_of, object_of, digits_in, numeral_of, glyph_of, plural_of, code_in, integer_in, kind_of}
use Rattle.rules.specs.declared.Settings.{Settings}
use Rattle.rules.proofs.Digits.{count_pos, count_mono, count_below}
use Rattle.rules.proofs.Groups.{grouped_mono}
use Rattle.rules.proofs.Signs.{sign_most}
use Rattle.vet_rules.specs.Worst.{padded_size, greatest, Span, spans_of, greatest_over, least_integer}
use Rattle.vet_rules.proofs.Padding.{larger_left, larger_right, pad_bound}
use Rattle.vet_rules.proofs.Below.{below, both_left, both_right}
use Rattle.vet_rules.proofs.Values.{Allowed}

-- a length in one of the spans
abbrev pub In : ℕ → List Span → Type 0
In n [] = ⊥
In n (s ∷ ss) = ((s.least ≤ n) × (n ≤ s.most)) ⊎ In n ss

decimal_length : (z : ℤ) → mag z < 2 ^ 63 → (1 ≤ length (decimal_of z)) × (length (decimal_of z) ≤ 20)
decimal_length (pos zero) h =
    (count_pos 10 0 (omega arith), omega (arith, count_below 19 10 0 (omega arith) (omega arith) (omega arith)))
decimal_length (pos (suc n)) h =
    (count_pos 10 (suc n) (omega arith), omega (arith, count_below 19 10 (suc n) (omega arith) (omega arith) (omega arith)))
decimal_length (negsuc n) h =
    (omega arith, omega (arith, count_below 19 10 (suc n) (omega arith) (omega arith) (omega arith)))

escaped_length : (s : List ℕ) → (length s ≤ length (escaped s)) × (length (escaped s) ≤ 2 * length s)
unfolding escaped
escaped_length [] = (omega arith, omega arith)
escaped_length (b ∷ s) =
    let h = escaped_length s in
    elim (dec_eq b 34) [
      | yes e ↦ rw (eq-eqb b 34 e) (omega arith, omega arith)
      | no e ↦
          rw (ne_eqb b 34 e)
          (elim (dec_eq b 92) [
            | yes e ↦ rw (eq-eqb b 92 e) (omega arith, omega arith)
            | no e ↦ rw (ne_eqb b 92 e) (omega arith, omega arith)
          ])
    ]

-- the lengths of the names, by a test of each
name_size : ℕ → Bool
name_size n = both (leb 1 n) (cond (leb n 7) true (eqb n 9))

named : (longest n : ℕ) → T (name_size n) → In (suc (suc n)) (spans_of longest true 2)
unfolding name_size spans_of
named longest n t =
    let l : 1 ≤ n = leb→le 1 n (both_left (leb 1 n) (cond (leb n 7) true (eqb n 9)) t) in
    let r = both_right (leb 1 n) (cond (leb n 7) true (eqb n 9)) t in
    elim (dec_lt 7 n) [
      | yes h ↦ (let e : n ≡ 9 = eqb→eq n 9 (rw (lt-leb n 7 h) at r) in inr (inl (omega arith, omega arith)))
      | no h ↦ inl (omega arith, omega arith)
    ]

name_length : (c : ℕ) → c < 128 → T (name_size (length (name_of c)))
unfolding name_size name_of digits_of digits_with
name_length c h = below (λ c. name_size (length (name_of c))) 128 tt c h

written_most : (longest n : ℕ) → In n (spans_of longest true 2) → n ≤ 11
unfolding spans_of
written_most longest n (inl i) = omega arith
written_most longest n (inr (inl i)) = omega arith
written_most longest n (inr (inr i)) = absurd i

-- a value that `~a` and `~s` take
pub shown_kind : (k : ℕ) → k ≤ 4 → not (eqb k 4) ≡ true → k < 4
shown_kind k h e = let n : k ≡ 4 → ⊥ = eqb-false k 4 (not-true (eqb k 4) e) in omega arith

pub kind_most : (v : Value) → kind_of v ≤ 4
kind_most (boolean b) = omega arith
kind_most (integer z) = omega arith
kind_most (character c) = omega arith
kind_most (string s) = omega arith
kind_most (list first count) = omega arith

pub bare_within : (longest : ℕ) (q : Bool) (v : Value) → kind_of v < 4 → Allowed longest v
    → In (length (bare_of q v)) (spans_of longest q (kind_of v))
unfolding spans_of bare_of
bare_within longest q (boolean b) k a = inl (omega arith, omega arith)
bare_within longest q (integer z) k a = let l = decimal_length z a in inl (omega arith, omega arith)
bare_within longest false (character c) k a = inl (omega arith, omega arith)
bare_within longest true (character c) k a = named longest (length (name_of c)) (name_length c a)
bare_within longest false (string s) k a = inl (omega arith, a)
bare_within longest true (string s) k a =
    inl (
      omega (arith, length-append (escaped s) (34 ∷ [])),
      omega (arith, escaped_length s, length-append (escaped s) (34 ∷ [])),
    )
bare_within longest q (list first count) k a = absurd (omega arith)

pub over_bound : (w p m : ℕ) → 1 ≤ p → (ss : List Span) (n : ℕ) → In n ss → padded_size w p m n ≤ greatest_over w p m ss
over_bound w p m h [] n i = absurd i
over_bound w p m h (s ∷ ss) n (inl i) =
    omega (
      arith,
      pad_bound p h w m s.least s.most n i.0 i.1,
      larger_left (greatest w p m s.least s.most) (greatest_over w p m ss),
    )
over_bound w p m h (s ∷ ss) n (inr i) =
    omega (arith, over_bound w p m h ss n i, larger_right (greatest w p m s.least s.most) (greatest_over w p m ss))

-- the length of a padded text, on either side
pub object_length : (q atsign : Bool) (s : Settings) (v : Value)
    → length (object_of q atsign s v) ≡ padded_size (or_else s.first 0) (or_else s.second 1) (or_else s.third 0) (length (bare_of q v))
object_length q atsign s v =
    padded_length atsign (padding_of (or_else s.first 0) (or_else s.second 1) (or_else s.third 0) (length (bare_of q v)))
    (or_else s.fourth 32) (bare_of q v)

-- numerals
pub left_length : (width pad : ℕ) (text : List ℕ) → length (pad_left width pad text) ≡ width - length text + length text
unfolding pad_left
left_length width pad text =
    length-append (replicate (width - length text) pad) text
    ∙ omega (arith, length-replicate {A = ℕ} (width - length text) pad)

left_mono : (width pad : ℕ) (a b : List ℕ) → length a ≤ length b
    → length (pad_left width pad a) ≤ length (pad_left width pad b)
left_mono width pad a b h = omega (arith, left_length width pad a, left_length width pad b)

module _ (base : ℕ) (s : Settings) (hb : 2 ≤ base) (hw : 1 ≤ or_else s.fourth 3) where
  digits_mono : (colon : Bool) (n m : ℕ) → n ≤ m
      → length (digits_in colon s (digits_of base n)) ≤ length (digits_in colon s (digits_of base m))
  digits_mono true n m h =
      grouped_mono (or_else s.fourth 3) (or_else s.third 44) (or_else s.third 44) (digits_of base n) (digits_of base m)
      hw (count_mono base n m hb h)
  digits_mono false n m h = count_mono base n m hb h

  magnitude_least : (z : ℤ) → mag z < 2 ^ 63 → magnitude_of z ≤ magnitude_of least_integer
  magnitude_least (pos n) h = omega arith
  magnitude_least (negsuc n) h = omega arith

  -- no integer is longer than the least
  pub numeral_most_lem : (colon atsign : Bool) (z : ℤ) → mag z < 2 ^ 63
      → length (numeral_of base colon atsign s z) ≤ length (numeral_of base colon atsign s least_integer)
  numeral_most_lem colon atsign z h =
      let ds = digits_in colon s (digits_of base (magnitude_of z)) in
      let es = digits_in colon s (digits_of base (magnitude_of least_integer)) in
      left_mono (or_else s.first 0) (or_else s.second 32) (sign_of atsign z ++ ds) (sign_of atsign least_integer ++ es)
      (omega (arith, length-append (sign_of atsign z) ds, sign_most atsign z, digits_mono colon (magnitude_of z) (magnitude_of least_integer) (magnitude_least z h)))

pub numeral_bound : (longest base : ℕ) (colon atsign : Bool) (s : Settings) (v : Value) → 2 ≤ base → 1 ≤ or_else s.fourth 3
    → kind_of v ≡ 1 → Allowed longest v
    → length (numeral_of base colon atsign s (integer_in v)) ≤ length (numeral_of base colon atsign s least_integer)
numeral_bound longest base colon atsign s (integer z) hb hw k a = numeral_most_lem base s hb hw colon atsign z a
numeral_bound longest base colon atsign s (boolean b) hb hw k a = absurd (omega arith)
numeral_bound longest base colon atsign s (character c) hb hw k a = absurd (omega arith)
numeral_bound longest base colon atsign s (string x) hb hw k a = absurd (omega arith)
numeral_bound longest base colon atsign s (list first count) hb hw k a = absurd (omega arith)

-- characters and plurals
pub glyph_length : (colon atsign : Bool) (c : ℕ) → c < 128 → length (glyph_of colon atsign c) ≤ cond atsign 11 (cond colon 2 1)
glyph_length colon true c h = written_most 0 (length (written_of c)) (named 0 (length (name_of c)) (name_length c h))
glyph_length true false c h = pick (ltb c 32)
  where
    pick : (b : Bool) → length (cond b (94 ∷ (c + 64) ∷ []) (c ∷ [])) ≤ 2
    pick true = omega arith
    pick false = omega arith
glyph_length false false c h = omega arith

pub glyph_bound : (longest : ℕ) (colon atsign : Bool) (v : Value) → kind_of v ≡ 2 → Allowed longest v
    → length (glyph_of colon atsign (code_in v)) ≤ cond atsign 11 (cond colon 2 1)
glyph_bound longest colon atsign (character c) k a = glyph_length colon atsign c a
glyph_bound longest colon atsign (boolean b) k a = absurd (omega arith)
glyph_bound longest colon atsign (integer z) k a = absurd (omega arith)
glyph_bound longest colon atsign (string x) k a = absurd (omega arith)
glyph_bound longest colon atsign (list first count) k a = absurd (omega arith)

pub plural_bound : (atsign one : Bool) → length (plural_of atsign one) ≤ cond atsign 3 1
plural_bound true true = omega arith
plural_bound true false = omega arith
plural_bound false true = omega arith
plural_bound false false = omega arith

pub fold_bound : (atsign : Bool) → length {A = ℕ} (cond atsign (10 ∷ []) []) ≤ cond atsign 1 0
fold_bound true = omega arith
fold_bound false = omega arith
