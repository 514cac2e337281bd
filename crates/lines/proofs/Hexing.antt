-- Writing from the front of a buffer, and bytes in hexadecimal: what stands, and that the rest is as it came.
-- Assumes nothing.
use Prim.Native.Nat.{ℕ, suc, ◌+◌, ◌*◌, ◌/◌, ◌%◌, ◌≤◌, ◌<◌}
use mathlib.Core.Path.{◌≡◌, refl, sym, ap, ◌∙◌}
use mathlib.Core.List.{List, [], ◌∷◌, ◌++◌, append_assoc, append-nil}
use native.Mathlib.Numerals.{add-one}
use native.Mathlib.Omega.{arith}
use lib.ListN.{length, get_or, take, drop, set, length-append, length-set, take-append-drop}
use lib.Seq.{drop-cons, set_at, append_snoc, length-take-le, take_all, take_at, drop_at, drop-drop}
use Rattle.rules.specs.Job.{hex_of}
use Rattle.rules.specs.Number.{digit_byte}
use Rattle.rules.proofs.JobLaws.{hex_next, hex_append}
use Rattle.lines.specs.Front.{AtFront}

-- a byte just behind what is written
pub front_next : {b a t : List ℕ} {n : ℕ} (x : ℕ) → AtFront b a t n → n < length b
    → AtFront b (set a n x) (t ++ (x ∷ [])) (n + 1)
front_next {b} {a} {t} {n} x w h =
    record {
      count_is = simp length-append (omega (arith, w.count_is));
      buffer_is =
          rw (w.buffer_is, drop-cons b n 0 h, set_at t (get_or b n 0) (drop (suc n) b) x n (sym w.count_is), add-one)
          (sym (append_snoc t x (drop (suc n) b)));
    }

-- and two
pub front_two : {b a t : List ℕ} {n : ℕ} (x y : ℕ) → AtFront b a t n → n + 1 < length b
    → AtFront b (set (set a n x) (n + 1) y) (t ++ (x ∷ y ∷ [])) (n + 2)
front_two {b} {a} {t} {n} x y w h =
    let two = front_next y (front_next x w (omega arith)) h in
    let e : (t ++ (x ∷ [])) ++ (y ∷ []) ≡ t ++ (x ∷ y ∷ []) = append_assoc t (x ∷ []) (y ∷ []) in
    record {
      count_is = simp length-append (omega (arith, w.count_is));
      buffer_is =
          let k : n + 1 + 1 ≡ n + 2 = omega arith in
          rw (k, e) at two.buffer_is;
    }

-- nothing is written yet
pub front_none : (b : List ℕ) → AtFront b b [] 0
front_none b = record { count_is = refl; buffer_is = refl }

-- Bytes in hexadecimal, k of them written from `at` on, up to `to`
pub record Hexing (bytes before : List ℕ) (at : ℕ) (out : List ℕ) (to k : ℕ) : Type 0 where
  pub written : AtFront before out (take at before ++ hex_of (take k bytes)) to
  pub place : to ≡ at + 2 * k
  pub within : k ≤ length bytes
  pub same : length out ≡ length before

module _ {bytes before : List ℕ} {at : ℕ} (room : at + 2 * length bytes ≤ length before) where
  pub hex_none : Hexing bytes before at before at 0
  unfolding hex_of
  hex_none =
      record {
        written = record {
          count_is = rw (append-nil (take at before)) (sym (length-take-le at before (omega arith)));
          buffer_is = rw (append-nil (take at before)) (sym (take-append-drop at before));
        };
        place = omega arith;
        within = omega arith;
        same = refl;
      }

  module _ {out : List ℕ} {to k : ℕ} (s : Hexing bytes before at out to k) where
    pub hex_room : k < length bytes → to + 1 < length before
    hex_room h = omega (arith, s.place)

    pub hex_more : {x y : ℕ} → k < length bytes → x ≡ digit_byte (get_or bytes k 0 / 16)
        → y ≡ digit_byte (get_or bytes k 0 % 16) → Hexing bytes before at (set (set out to x) (to + 1) y) (to + 2) (k + 1)
    hex_more {x} {y} h p q =
        let front = take at before in
        let done = hex_of (take k bytes) in
        let e : (front ++ done) ++ (x ∷ y ∷ []) ≡ front ++ hex_of (take (k + 1) bytes) =
        rw (hex_next bytes k h, ← p, ← q) (append_assoc front done (x ∷ y ∷ []))
        in
        record {
          written = rw e at (front_two x y s.written (hex_room h));
          place = omega (arith, s.place);
          within = omega arith;
          same = simp length-set s.same;
        }

    pub hex_all : length bytes ≤ k → AtFront before out (take at before ++ hex_of bytes) to
    hex_all h = rw (take_all k bytes h) at s.written

-- something is written, and then more behind it
pub front_join : {b a e : List ℕ} {n m : ℕ} (x y : List ℕ) → AtFront b a x n → AtFront a e (take n a ++ y) m
    → AtFront b e (x ++ y) m
front_join {b} {a} {e} {n} {m} x y w v =
    let front : take n a ≡ x = rw w.buffer_is (take_at x (drop n b) n (sym w.count_is)) in
    let whole : take n a ++ y ≡ x ++ y = ap (λ (l : List ℕ). l ++ y) front in
    let reach : m ≡ n + length y = omega (arith, v.count_is, w.count_is, ap length whole, length-append x y) in
    let rest : drop m a ≡ drop m b =
    rw (reach, ← drop-drop (length y) n a, ← drop-drop (length y) n b)
    (ap (λ (l : List ℕ). drop (length y) l) (rw w.buffer_is (drop_at x (drop n b) n (sym w.count_is))))
    in
    record { count_is = v.count_is ∙ ap length whole; buffer_is = v.buffer_is ∙ rw (whole, rest) }

-- the numbers of an answer, and then its text
pub front_then : {b a e : List ℕ} {n m : ℕ} (numbers text : List ℕ) → AtFront b a (take 0 b ++ hex_of numbers) n
    → AtFront a e (take n a ++ hex_of text) m → AtFront b e (hex_of (numbers ++ text)) m
front_then numbers text w v = rw (hex_append numbers text) (front_join (hex_of numbers) (hex_of text) w v)
