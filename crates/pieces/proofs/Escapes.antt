-- A string in quotes: how its text goes on byte by byte, where a place of it falls, and the turns of its writers.
-- Assumes nothing.
use mathlib.Core.Path.{◌≡◌, refl, ap, ◌∙◌}
use mathlib.Core.Bool.{Bool, true, false, cond}
use mathlib.Core.List.{List, [], ◌∷◌, ◌++◌}
use Prim.Native.Nat.{ℕ, zero, suc, ◌+◌, ◌-◌, ◌≤◌, ◌<◌}
use native.Mathlib.Nat.{not-suc-le-zero}
use native.Mathlib.Numerals.{add-one}
use native.Mathlib.Decide.{ℕ_discrete as dec_eq}
use native.Mathlib.Omega.{arith}
use borrow.Author.Tests.{eq-eqb, ne_eqb, eqb-true}
use lib.Dec.{eqb}
use lib.ListN.{length, drop, get_or, set, length-append, drop_of_length-le}
use lib.Seq.{drop-cons}
use Rattle.std.specs.Int.{from_bool}
use Rattle.std.specs.List.{count_by}
use Rattle.std.proofs.lemmas.List.Recursion.{is_count_by}
use Rattle.rules.specs.Piece.{escaped}
use Rattle.rules.proofs.Writing.{Writing, write_none, write_room, write_one, write_all_lem}
use Rattle.pieces.specs.Bytes.{is_marked, owed, quoted_of}

no_both : {b : Bool} → b ≡ true → b ≡ false → ⊥
no_both p q = let z : ◌≡◌ {A = ℕ} 0 1 = cc in omega arith

-- the two equations of `escaped`, by whether the byte is marked
escaped_marked : (b : ℕ) (s : List ℕ) → is_marked b ≡ true → escaped (b ∷ s) ≡ 92 ∷ b ∷ escaped s
unfolding is_marked escaped
escaped_marked b s e =
    elim (dec_eq b 34) [
      | yes q ↦ rw q
      | no q ↦
          let k : eqb b 92 ≡ true = rw (ne_eqb b 34 q) at e in
          rw (eqb-true b 92 k)
    ]

escaped_plain : (b : ℕ) (s : List ℕ) → is_marked b ≡ false → escaped (b ∷ s) ≡ b ∷ escaped s
unfolding is_marked escaped
escaped_plain b s e =
    elim (dec_eq b 34) [
      | yes q ↦ absurd (no_both refl (rw (eq-eqb b 34 q) at e))
      | no q ↦
          let k : eqb b 92 ≡ false = rw (ne_eqb b 34 q) at e in
          rw (ne_eqb b 34 q, k)
    ]

escaped_none : escaped [] ≡ []
unfolding escaped
escaped_none = refl

drop_pred : (k x : ℕ) (l : List ℕ) → 0 < k → drop k (x ∷ l) ≡ drop (k - 1) l
drop_pred zero x l h = absurd (not-suc-le-zero h)
drop_pred (suc k) x l h =
    let e : suc k - 1 ≡ k = omega arith in
    rw e

module _ (src : List ℕ) (i : ℕ) where
  pub ends : (gone : Bool) → length src ≤ i → owed gone (drop i src) ≡ []
  unfolding owed
  ends false h = rw (drop_of_length-le src {i = i} h) escaped_none
  ends true h = rw (drop_of_length-le src {i = i} h)

  module _ (h : i < length src) where
    pub owes : owed true (drop i src) ≡ get_or src i 0 ∷ owed false (drop (i + 1) src)
    unfolding owed
    owes = rw (drop-cons src i 0 h, add-one)

    pub plain : is_marked (get_or src i 0) ≡ false → owed false (drop i src) ≡ get_or src i 0 ∷ owed false (drop (i + 1) src)
    unfolding owed
    plain e = rw (drop-cons src i 0 h, add-one) (escaped_plain (get_or src i 0) (drop (suc i) src) e)

    pub special : is_marked (get_or src i 0) ≡ true → owed false (drop i src) ≡ 92 ∷ owed true (drop i src)
    unfolding owed
    special e = rw (drop-cons src i 0 h) (escaped_marked (get_or src i 0) (drop (suc i) src) e)

    within_byte : (m : Bool) → is_marked (get_or src i 0) ≡ m → (k : ℕ) → k < 1 + from_bool m
        → drop k (owed false (drop i src)) ≡ owed (eqb k 1) (drop i src)
    within_byte m e zero l = refl
    within_byte true e (suc zero) l = rw (special e)
    within_byte false e (suc k) l = absurd (omega arith)
    within_byte true e (suc (suc k)) l = absurd (omega arith)

    over_byte : (m : Bool) → is_marked (get_or src i 0) ≡ m → (k : ℕ) → 1 + from_bool m ≤ k
        → drop k (owed false (drop i src)) ≡ drop (k - (1 + from_bool m)) (owed false (drop (i + 1) src))
    over_byte false e k l = rw (plain e) (drop_pred k _ _ (omega arith))
    over_byte true e k l =
        let q : k - 1 - 1 ≡ k - 2 = omega arith in
        ap (drop k) (special e) ∙ drop_pred k _ _ (omega arith) ∙ ap (drop (k - 1)) owes
        ∙ drop_pred (k - 1) _ _ (omega arith) ∙ rw q

    -- a place within the byte's own one or two, and one behind them
    pub skip_within : (k size : ℕ) → size ≡ 1 + from_bool (is_marked (get_or src i 0)) → k < size
        → drop k (owed false (drop i src)) ≡ owed (eqb k 1) (drop i src)
    skip_within k size e l = within_byte (is_marked (get_or src i 0)) refl k (rw e at l)

    pub skip_over : (k size : ℕ) → size ≡ 1 + from_bool (is_marked (get_or src i 0)) → size ≤ k
        → drop k (owed false (drop i src)) ≡ drop (k - size) (owed false (drop (i + 1) src))
    skip_over k size e l = rw e (over_byte (is_marked (get_or src i 0)) refl k (rw e at l))

-- whether a backslash comes next of what is owed
abbrev pub marks_next : Bool → ℕ → Bool
marks_next gone b = cond gone false (is_marked b)

module _ (src : List ℕ) (i : ℕ) (h : i < length src) where
  pub next_marked : (gone : Bool) → marks_next gone (get_or src i 0) ≡ true
      → owed gone (drop i src) ≡ 92 ∷ owed true (drop i src)
  next_marked true e = absurd (no_both e refl)
  next_marked false e = special src i h e

  pub next_byte : (gone : Bool) → marks_next gone (get_or src i 0) ≡ false
      → owed gone (drop i src) ≡ get_or src i 0 ∷ owed false (drop (i + 1) src)
  next_byte true e = owes src i h
  next_byte false e = plain src i h e

-- the length of a string in quotes
pub length_quoted : (s : List ℕ) → length (quoted_of s) ≡ length (escaped s) + 2
unfolding quoted_of
length_quoted s = omega (arith, length-append (escaped s) (34 ∷ []))

-- how many bytes of a string have a backslash before them
abbrev marks : List ℕ → ℕ
marks [] = 0
marks (b ∷ s) = cond (is_marked b) (1 + marks s) (marks s)

length_next : (b : ℕ) (s : List ℕ) (m : Bool) → is_marked b ≡ m → length (escaped s) ≡ length s + marks s
    → length (escaped (b ∷ s)) ≡ length (b ∷ s) + cond m (1 + marks s) (marks s)
length_next b s true e h = omega (arith, h, ap length (escaped_marked b s e))
length_next b s false e h = omega (arith, h, ap length (escaped_plain b s e))

length_escaped : (s : List ℕ) → length (escaped s) ≡ length s + marks s
unfolding escaped
length_escaped [] = refl
length_escaped (b ∷ s) = length_next b s (is_marked b) refl (length_escaped s)

pub measured : (s : List ℕ) → length (quoted_of s) ≡ 2 + length s + count_by is_marked s
measured s = omega (arith, length_quoted s, length_escaped s, is_count_by marks is_marked refl (λ b s. refl) s)

-- the writer of the whole: what is written, with what the string still owes and the last quote
abbrev pub Quoting : (src out : List ℕ) (i to : ℕ) → Type 0
Quoting src out i to = Writing (quoted_of src) out to (owed false (drop i src) ++ (34 ∷ []))

-- the same, where the backslash of byte i is written or not called for
abbrev pub QuotingByte : (src out : List ℕ) (i to : ℕ) → Type 0
QuotingByte src out i to = Writing (quoted_of src) out to (get_or src i 0 ∷ owed false (drop (i + 1) src) ++ (34 ∷ []))

module _ (src out : List ℕ) (e : length out ≡ length (quoted_of src)) where
  opened : Writing (quoted_of src) out 0 (34 ∷ owed false src ++ (34 ∷ []))
  unfolding quoted_of owed
  opened = write_none (quoted_of src) out e

  pub quote_room : 0 < length out
  quote_room = write_room 34 (owed false src ++ (34 ∷ [])) opened

  pub quote_none : Quoting src (set out 0 34) 0 1
  quote_none = write_one 34 (owed false src ++ (34 ∷ [])) opened

module _ (src : List ℕ) (i : ℕ) {out : List ℕ} {to : ℕ} (w : Quoting src out i to) where
  module _ (h : i < length src) where
    pub quote_plain : is_marked (get_or src i 0) ≡ false → QuotingByte src out i to
    quote_plain e = rw (plain src i h e) at w

    pub quote_marked : is_marked (get_or src i 0) ≡ true → QuotingByte src (set out to 92) i (to + 1)
    quote_marked e = write_one _ _ (rw (special src i h e, owes src i h) at w)

  pub quote_all : length src ≤ i → set out to 34 ≡ quoted_of src
  quote_all h = write_all_lem (write_one _ _ (rw (ends src i false h) at w))
