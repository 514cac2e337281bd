-- Reading the digits of a line, two to a byte. Assumes nothing.
use Prim.Native.Nat.{ℕ, suc, ◌+◌, ◌*◌, ◌/◌, ◌%◌, ◌≤◌, ◌<◌}
use mathlib.Core.Path.{◌≡◌, refl, sym, ap, ◌∙◌}
use mathlib.Core.Bool.{true, false, cond}
use mathlib.Core.List.{List, [], ◌∷◌, ◌++◌, append-nil}
use native.Mathlib.Numerals.{add-one}
use native.Mathlib.Omega.{arith}
use lib.ListN.{length, get_or, take, drop, set, length-set, length-drop, take-append-drop, drop_of_length-le}
use lib.Seq.{drop-cons, drop-drop, drop-set-lt, take-suc-set, length-take-le, append_snoc}
use borrow.Author.Tests.{lt-ltb, le-ltb}
use Rattle.std.specs.Prelude.{None, Some}
use Rattle.rules.specs.Choice.{both}
use Rattle.rules.specs.Job.{digit_value, is_hex_digit, in_pairs, frame_of}
use Rattle.rules.proofs.JobLaws.{odd_pairs, first_other, second_other}
use Rattle.rules.proofs.Tests.{both_true}
use Rattle.lines.specs.Front.{over}
use Rattle.lines.specs.Lent.{read_bytes, Decoded}

-- digits in pairs are all read
pub all_read : (l : List ℕ) → in_pairs l ≡ true → read_bytes l ≡ frame_of l
unfolding read_bytes frame_of in_pairs
all_read [] e = refl
all_read (x ∷ []) e = refl
all_read (x ∷ y ∷ more) e =
    let here = both_true (both (is_hex_digit x) (is_hex_digit y)) (in_pairs more) e in
    rw (here.0, all_read more here.1)

pub frame_length : (l : List ℕ) → in_pairs l ≡ true → length (frame_of l) ≡ length l / 2
unfolding frame_of in_pairs
frame_length [] e = refl
frame_length (x ∷ []) e = refl
frame_length (x ∷ y ∷ more) e =
    omega (arith, frame_length more (both_true (both (is_hex_digit x) (is_hex_digit y)) (in_pairs more) e).1)

-- nothing is read of a pair that is not two digits, nor of one byte
module _ (x y : ℕ) (more : List ℕ) where
  first_none : 16 ≤ digit_value x → read_bytes (x ∷ y ∷ more) ≡ []
  unfolding read_bytes
  first_none h = rw (le-ltb (digit_value x) 16 h)

  second_none : digit_value x < 16 → 16 ≤ digit_value y → read_bytes (x ∷ y ∷ more) ≡ []
  unfolding read_bytes
  second_none g h = rw (lt-ltb (digit_value x) 16 g, le-ltb (digit_value y) 16 h)

short_none : (l : List ℕ) → length l < 2 → read_bytes l ≡ []
unfolding read_bytes
short_none [] h = refl
short_none (x ∷ []) h = refl
short_none (x ∷ y ∷ more) h = absurd (omega arith)

-- no answer where the line is not digits in pairs
none_of : (line : List ℕ) → in_pairs line ≡ false → None ≡ cond (in_pairs line) (Some (length line / 2)) None
none_of line e = rw e

-- k pairs are read: what stands in the frame, with what the rest gives, is the whole
pub record Decoding (line before frame : List ℕ) (k : ℕ) : Type 0 where
  pub pairs : in_pairs line ≡ in_pairs (drop (2 * k) line)
  pub bytes : read_bytes line ≡ take k frame ++ read_bytes (drop (2 * k) line)
  pub beyond : drop k frame ≡ drop k before
  pub within : k ≤ length line / 2
  pub same : length frame ≡ length before

pub decode_none : (line frame : List ℕ) → Decoding line frame frame 0
decode_none line frame =
    record { pairs = refl; bytes = refl; beyond = refl; within = omega arith; same = refl }

module _ {line before frame : List ℕ} {k : ℕ} (room : length line / 2 ≤ length before)
    (d : Decoding line before frame k) where
  -- no more is read
  stopped : read_bytes (drop (2 * k) line) ≡ [] → frame ≡ over (read_bytes line) before
  stopped e =
      let all : read_bytes line ≡ take k frame =
      d.bytes ∙ ap (λ (l : List ℕ). take k frame ++ l) e ∙ append-nil (take k frame) in
      let size : length (take k frame) ≡ k = length-take-le k frame (omega (arith, d.within, d.same)) in
      rw (all, size, ← d.beyond) (sym (take-append-drop k frame))

  module _ (h : k < length line / 2) where
    pair_at_lem : drop (2 * k) line ≡ get_or line (2 * k) 0 ∷ get_or line (2 * k + 1) 0 ∷ drop (2 * (k + 1)) line
    pair_at_lem =
        let p : 2 * k < length line = omega arith in
        let q : suc (2 * k) < length line = omega arith in
        let e : suc (suc (2 * k)) ≡ 2 * (k + 1) = omega arith in
        rw (drop-cons line (2 * k) 0 p, drop-cons line (suc (2 * k)) 0 q, e, ← add-one (2 * k))

    pub first_refused : 16 ≤ digit_value (get_or line (2 * k) 0) → Decoded line before frame None
    first_refused o =
        record {
          paired_is = none_of line (d.pairs ∙ ap in_pairs pair_at_lem ∙ first_other _ _ _ o);
          frame_is = stopped (ap read_bytes pair_at_lem ∙ first_none _ _ _ o);
        }

    pub second_refused : digit_value (get_or line (2 * k) 0) < 16 → 16 ≤ digit_value (get_or line (2 * k + 1) 0)
        → Decoded line before frame None
    second_refused g o =
        record {
          paired_is = none_of line (d.pairs ∙ ap in_pairs pair_at_lem ∙ second_other _ _ _ o);
          frame_is = stopped (ap read_bytes pair_at_lem ∙ second_none _ _ _ g o);
        }

    pub decode_more : {x y : ℕ} → x ≡ digit_value (get_or line (2 * k) 0) → y ≡ digit_value (get_or line (2 * k + 1) 0)
        → x < 16 → y < 16 → Decoding line before (set frame k (x * 16 + y)) (k + 1)
    unfolding in_pairs read_bytes
    decode_more {x} {y} p q xs ys =
        let i = get_or line (2 * k) 0 in
        let j = get_or line (2 * k + 1) 0 in
        let rest = drop (2 * (k + 1)) line in
        let is : is_hex_digit i ≡ true = lt-ltb (digit_value i) 16 (rw p at xs) in
        let js : is_hex_digit j ≡ true = lt-ltb (digit_value j) 16 (rw q at ys) in
        let both_are : in_pairs (i ∷ j ∷ rest) ≡ in_pairs rest = rw (is, js) in
        let read : read_bytes (i ∷ j ∷ rest) ≡ (digit_value i * 16 + digit_value j) ∷ read_bytes rest = rw (is, js) in
        let here : k < length frame = omega (arith, d.same) in
        record {
          pairs = d.pairs ∙ ap in_pairs pair_at_lem ∙ both_are;
          bytes =
              d.bytes ∙ ap (λ (l : List ℕ). take k frame ++ read_bytes l) pair_at_lem
              ∙ ap (λ (l : List ℕ). take k frame ++ l) read
              ∙ sym (append_snoc (take k frame) (digit_value i * 16 + digit_value j) (read_bytes rest))
              ∙ rw (add-one k, take-suc-set frame k (x * 16 + y) here, p, q);
          beyond =
              drop-set-lt (k + 1) frame k (x * 16 + y) (omega arith)
              ∙ sym (drop-drop 1 k frame) ∙ ap (drop 1) d.beyond ∙ drop-drop 1 k before;
          within = omega arith;
          same = simp length-set d.same;
        }

  module _ (h : length line / 2 ≤ k) where
    read_all : frame ≡ over (read_bytes line) before
    read_all = stopped (short_none (drop (2 * k) line) (simp length-drop (omega arith)))

    pub decode_odd : (length line % 2 ≡ 0 → ⊥) → Decoded line before frame None
    decode_odd odd = record { paired_is = none_of line (odd_pairs line odd); frame_is = read_all }

    pub decode_all : length line % 2 ≡ 0 → Decoded line before frame (Some (length line / 2))
    unfolding in_pairs
    decode_all even =
        let z : k ≡ length line / 2 = omega (arith, d.within) in
        let e : drop (2 * k) line ≡ [] = drop_of_length-le line {i = 2 * k} (omega arith) in
        record { paired_is = rw (d.pairs ∙ ap in_pairs e); frame_is = read_all }
