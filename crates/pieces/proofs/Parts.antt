-- A part of a text, and the loop that copies one. Assumes nothing.
use mathlib.Core.Path.{◌≡◌, refl, sym, ap}
use mathlib.Core.List.{List, [], ◌∷◌, ◌++◌}
use Prim.Native.Nat.{ℕ, zero, suc, ◌+◌, ◌-◌, ◌≤◌, ◌<◌, min}
use native.Mathlib.Nat.{not-suc-le-zero, zero-sub, suc-sub-suc, zero-min, min-zero, suc-min-suc, sub-zero}
use native.Mathlib.Numerals.{add-one}
use native.Mathlib.Omega.{arith}
use lib.ListN.{length, take, drop, set, get_or, replicate, length-set, length-take, length-drop, drop_of_length-le}
use lib.Seq.{drop-cons, take_all}
use Rattle.rules.proofs.Writing.{Writing, write_none, write_one, write_all_lem}
use Rattle.pieces.specs.Bytes.{part}

-- a front of two texts
take_two : (n : ℕ) (xs ys : List ℕ)
    → take n (xs ++ ys) ≡ take (min n (length xs)) xs ++ take (n - min n (length xs)) ys
take_two n [] ys = rw (min-zero, sub-zero)
take_two zero (x ∷ xs) ys = rw zero-min
take_two (suc n) (x ∷ xs) ys = rw (suc-min-suc, suc-sub-suc) (ap (λ (t : List ℕ). x ∷ t) (take_two n xs ys))

-- a part of two texts is a part of the one and then a part of the other
pub part_two : (xs ys : List ℕ) (f n : ℕ)
    → part f n (xs ++ ys) ≡ part f (min n (length xs - f)) xs ++ part (f - length xs) (n - min n (length xs - f)) ys
part_two [] ys f n = rw (zero-sub, sub-zero, min-zero, sub-zero)
part_two (x ∷ xs) ys zero n = rw (zero-sub, sub-zero) (take_two n (x ∷ xs) ys)
part_two (x ∷ xs) ys (suc f) n = rw (suc-sub-suc, suc-sub-suc) (part_two xs ys f n)

pub length_part : (f n : ℕ) (xs : List ℕ) → n ≤ length xs - f → length (part f n xs) ≡ n
length_part f n xs h = simp (length-take, length-drop) (omega arith)

pub part_fill : (f n m b : ℕ) → n ≤ m - f → part f n (replicate m b) ≡ replicate n b
part_fill f zero m b h = refl
part_fill f (suc n) zero b h = absurd (not-suc-le-zero (rw zero-sub at h))
part_fill zero (suc n) (suc m) b h = ap (λ (t : List ℕ). b ∷ t) (part_fill zero n m b (omega arith))
part_fill (suc f) (suc n) (suc m) b h = part_fill f (suc n) m b (omega arith)

pub fill_same : (n m b : ℕ) → n ≡ m → replicate n b ≡ replicate m b
fill_same n m b e = ap (λ (k : ℕ). replicate k b) e

pub part_all : (n : ℕ) (xs : List ℕ) → n ≡ length xs → part 0 n xs ≡ xs
part_all n xs e = take_all n xs (omega arith)

-- a part as long as the text is all of it
pub part_whole : (f n : ℕ) (xs : List ℕ) → n ≡ length xs → n ≤ length xs - f → xs ≡ part f n xs
part_whole zero n xs e h = sym (part_all n xs e)
part_whole (suc f) n [] e h = rw e
part_whole (suc f) n (x ∷ xs) e h = absurd (omega arith)

-- The loop that fills a slice of a size with the text v from its front, i bytes of it so far
pub record Copying (v : List ℕ) (size : ℕ) (out : List ℕ) (i : ℕ) : Type 0 where
  pub ahead : Writing v out i (drop i v)
  pub same : length out ≡ size

pub copy_none : (v out : List ℕ) → length v ≡ length out → Copying v (length out) out 0
copy_none v out e = record { ahead = write_none v out (sym e); same = refl }

module _ {v : List ℕ} {size : ℕ} {out : List ℕ} {i : ℕ} (w : Copying v size out i) where
  pub copy_inside : i < length out → i < length v
  copy_inside h = omega (arith, w.ahead.room, length-drop i v)

  pub copy_more : (x : ℕ) → i < length out → x ≡ get_or v i 0 → Copying v size (set out i x) (i + 1)
  copy_more x h e =
      let k : i < length v = copy_inside h in
      let front : drop i v ≡ x ∷ drop (i + 1) v = rw (e, add-one) (drop-cons v i 0 k) in
      record { ahead = write_one x (drop (i + 1) v) (rw front at w.ahead); same = simp length-set w.same }

  pub copy_all : length out ≤ i → out ≡ v
  copy_all h =
      let none : length v ≤ i = omega (arith, w.ahead.room, length-drop i v) in
      write_all_lem (rw (drop_of_length-le v {i = i} none) at w.ahead)
