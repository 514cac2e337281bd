-- The parts of a buffer that are lent one after the other, and a window over a text with one byte on both sides of it.
-- Assumes nothing.
use mathlib.Core.Path.{◌≡◌, refl, sym, ap, ◌∙◌}
use mathlib.Core.List.{List, ◌++◌, append-nil, append_assoc}
use Prim.Native.Nat.{ℕ, ◌+◌, ◌-◌, ◌≤◌, min}
use native.Mathlib.Nat.{le_refl}
use native.Mathlib.Omega.{arith}
use borrow.Rule.Slice.PartMut.{put_mid}
use lib.ListN.{length, take, drop, replicate, length-append, length-replicate, length-take, length-drop, drop_of_length-le}
use lib.Seq.{drop-drop, take_at, drop_at}
use Rattle.pieces.specs.Bytes.{part, Window}
use Rattle.pieces.proofs.Parts.{part_two, part_fill, part_all, length_part}

-- a buffer whose first k bytes are w, and whose others are as they came
pub record Begun (d w out : List ℕ) (k : ℕ) : Type 0 where
  pub is : out ≡ w ++ drop k d
  pub size : length w ≡ k

-- the first part, lent up to e, comes back as y
begun_front : (e : ℕ) (y d : List ℕ) → length y ≡ e → Begun d y (put_mid 0 e d y) e
begun_front e y d l = record { is = refl; size = l }

-- the next part, lent from k to e, comes back as y
pub begun_more : {d w out : List ℕ} {k : ℕ} (e : ℕ) (y : List ℕ) → Begun d w out k → k ≤ e → length y ≡ e - k
    → Begun d (w ++ y) (put_mid k (e - k) out y) e
begun_more {d} {w} {out} {k} e y s h l =
    let m : k + (e - k) ≡ e = omega arith in
    record {
      is =
          rw (s.is, take_at w (drop k d) k s.size, drop_at w (drop k d) k s.size, drop-drop (e - k) k d, m)
          (sym (append_assoc w y (drop e d)));
      size = length-append w y ∙ omega (arith, s.size);
    }

pub begun_all : {d w out : List ℕ} {k : ℕ} → Begun d w out k → length d ≤ k → out ≡ w
begun_all {d} {w} {out} {k} s h = s.is ∙ rw (drop_of_length-le d {i = k} h) (append-nil w)

begun_length : {d w out : List ℕ} {k : ℕ} → Begun d w out k → k ≤ length d → length out ≡ length d
begun_length {d} {w} {out} {k} s h =
    ap length s.is ∙ length-append w (drop k d) ∙ omega (arith, s.size, length-drop k d)

-- a part that is lent is as long as it says
pub lent : {d w out : List ℕ} {k : ℕ} (e : ℕ) → Begun d w out k → k ≤ e → e ≤ length d
    → length (take (e - k) (drop k out)) ≡ e - k
lent {d} {w} {out} {k} e s h i =
    let q : drop k out ≡ drop k d = ap (drop k) s.is ∙ drop_at w (drop k d) k s.size in
    rw q (length_part k (e - k) d (omega arith))

-- the arithmetic of two cuts, over bare numbers
past_both : (x y f : ℕ) → x + y - f ≡ x - f + (y - (f - x))
past_both x y f = omega arith

mid_size : (n u w : ℕ) → min n (u + w) - min n u ≡ min (n - min n u) w
mid_size n u w = omega arith

end_size : (n u w : ℕ) → n - min n (u + w) ≡ n - min n u - min (n - min n u) w
end_size n u w = omega arith

grows : (n u w : ℕ) → min n u ≤ min n (u + w)
grows n u w = omega arith

least_right : (m w : ℕ) → min m w ≤ w
least_right m w = omega arith

least_left : (n w : ℕ) → min n w ≤ n
least_left n w = omega arith

rest_fits_two : (n s r f : ℕ) → n ≤ s + r - f → n - min n (s - f) ≤ r - (f - s)
rest_fits_two n s r f h = omega arith

rest_fits : (n l y r f b : ℕ) → b ≡ min n (l + y - f) → n ≤ l + (y + r) - f → n - b ≤ r - (f - l - y)
rest_fits n l y r f b e h =
    let q : f - l - y ≡ f - (l + y) = omega arith in
    let t : l + (y + r) ≡ l + y + r = omega arith in
    rw (e, q) (rest_fits_two n (l + y) r f (rw t at h))

pub window : (x y from n a b start : ℕ) → a ≡ min n (x - from) → b ≡ min n (x + y - from) → start ≡ from - x
    → Window x y from n a b start
window x y from n a b start ea eb₀ es =
    let u = x - from in
    let w = y - (from - x) in
    let eb : b ≡ min n (u + w) = eb₀ ∙ ap (min n) (past_both x y from) in
    record {
      first = ea;
      second = eb₀;
      begins = es;
      order = rw (eb, ea) (grows n u w);
      inside = rw eb (least_left n (u + w));
      middle = rw (eb, ea, es, mid_size n u w) (least_right (n - min n u) w);
    }

-- a part of three texts, by where the window falls
part_three : (xs ys zs : List ℕ) (f n a b : ℕ) → a ≡ min n (length xs - f) → b ≡ min n (length xs + length ys - f)
    → part f n (xs ++ (ys ++ zs))
    ≡ part f a xs ++ (part (f - length xs) (b - a) ys ++ part (f - length xs - length ys) (n - b) zs)
part_three xs ys zs f n a b ea eb₀ =
    let u = length xs - f in
    let w = length ys - (f - length xs) in
    let eb : b ≡ min n (u + w) = eb₀ ∙ ap (min n) (past_both (length xs) (length ys) f) in
    let q : b - a ≡ min (n - min n u) w = rw (eb, ea) (mid_size n u w) in
    let r : n - b ≡ n - min n u - min (n - min n u) w = rw eb (end_size n u w) in
    part_two xs (ys ++ zs) f n
    ∙ rw (q, r, ea) (ap (λ (t : List ℕ). part f (min n u) xs ++ t) (part_two ys zs (f - length xs) (n - min n u)))

-- the buffer d after its part up to a has come back as x, and that from there up to b as y
abbrev two_lent : (d x y : List ℕ) (a b : ℕ) → List ℕ
two_lent d x y a b = put_mid a (b - a) (put_mid 0 a d x) y

-- a window over a text with l times the byte p on its left and r times on its right: what the three lends write
pub padded_part : (d : List ℕ) (l r p : ℕ) (ys : List ℕ) (from : ℕ) {a b start : ℕ}
    → Window l (length ys) from (length d) a b start → length d ≤ l + (length ys + r) - from
    → (x y z : List ℕ) → x ≡ replicate (length (take a d)) p
    → y ≡ part start (length (take (b - a) (drop a (put_mid 0 a d x)))) ys
    → z ≡ replicate (length (take (length (two_lent d x y a b) - b) (drop b (two_lent d x y a b)))) p
    → put_mid b (length (two_lent d x y a b) - b) (two_lent d x y a b) z
    ≡ part from (length d) (replicate l p ++ (ys ++ replicate r p))
padded_part d l r p ys from {a} {b} {start} w h x y z ex ey ez =
    let n = length d in
    let ll : length (replicate l p) ≡ l = length-replicate l p in
    let az : a ≤ l - from = rw w.first (least_right n (l - from)) in
    let ex₁ : x ≡ replicate a p =
    ex ∙ ap (λ (k : ℕ). replicate k p) (length_part 0 a d (omega (arith, w.order, w.inside))) in
    let s₁ = begun_front a x d (ap length ex₁ ∙ length-replicate a p) in
    let ey₁ : y ≡ part start (b - a) ys = ey ∙ ap (λ (k : ℕ). part start k ys) (lent b s₁ w.order w.inside) in
    let s₂ = begun_more b y s₁ w.order (ap length ey₁ ∙ length_part start (b - a) ys w.middle) in
    let same : length (two_lent d x y a b) ≡ n = begun_length s₂ w.inside in
    let ez₁ : z ≡ replicate (n - b) p =
    rw same at ez ∙ ap (λ (k : ℕ). replicate k p) (lent n s₂ w.inside (le_refl n)) in
    let s₃ : Begun d ((x ++ y) ++ z) (put_mid b (length (two_lent d x y a b) - b) (two_lent d x y a b) z) n =
    rw same (begun_more n z s₂ w.inside (ap length ez₁ ∙ length-replicate (n - b) p)) in
    let c : n - b ≤ r - (from - l - length ys) = rest_fits n l (length ys) r from b w.second h in
    let fx : part from a (replicate l p) ≡ x = part_fill from a l p az ∙ sym ex₁ in
    let fz : part (from - l - length ys) (n - b) (replicate r p) ≡ z =
    part_fill (from - l - length ys) (n - b) r p c ∙ sym ez₁ in
    let fy : part (from - l) (b - a) ys ≡ y = rw (sym w.begins) (sym ey₁) in
    begun_all s₃ (le_refl n) ∙ append_assoc x y z
    ∙ sym
    (part_three (replicate l p) ys (replicate r p) from n a b (rw ll w.first) (rw ll w.second)
    ∙ rw (ll, fx, fy, fz))

-- the whole of such a text
pub padded_whole : (d : List ℕ) (l r p : ℕ) (ys : List ℕ) (b : ℕ) → b ≡ l + length ys
    → length d ≡ l + (length ys + r) → (x y z : List ℕ) → x ≡ replicate (length (take l d)) p
    → y ≡ part 0 (length (take (b - l) (drop l (put_mid 0 l d x)))) ys
    → z ≡ replicate (length (take (length (two_lent d x y l b) - b) (drop b (two_lent d x y l b)))) p
    → put_mid b (length (two_lent d x y l b) - b) (two_lent d x y l b) z
    ≡ replicate l p ++ (ys ++ replicate r p)
padded_whole d l r p ys b e h x y z ex ey ez =
    let n = length d in
    let ex₁ : x ≡ replicate l p = ex ∙ ap (λ (k : ℕ). replicate k p) (length_part 0 l d (omega arith)) in
    let s₁ = begun_front l x d (ap length ex₁ ∙ length-replicate l p) in
    let ey₁ : y ≡ ys = ey ∙ part_all _ ys (lent b s₁ (omega arith) (omega arith) ∙ omega arith) in
    let s₂ = begun_more b y s₁ (omega arith) (ap length ey₁ ∙ omega arith) in
    let same : length (two_lent d x y l b) ≡ n = begun_length s₂ (omega arith) in
    let ez₁ : z ≡ replicate (n - b) p =
    rw same at ez ∙ ap (λ (k : ℕ). replicate k p) (lent n s₂ (omega arith) (le_refl n)) in
    let s₃ : Begun d ((x ++ y) ++ z) (put_mid b (length (two_lent d x y l b) - b) (two_lent d x y l b) z) n =
    rw same (begun_more n z s₂ (omega arith) (ap length ez₁ ∙ length-replicate (n - b) p)) in
    let q : n - b ≡ r = omega arith in
    begun_all s₃ (le_refl n) ∙ append_assoc x y z ∙ rw (ex₁, ey₁, ez₁, q)

-- a part that is lent has no more bytes than it says
pub lent_fits : (k m : ℕ) (l : List ℕ) → k ≤ m → length (take k l) ≤ m
lent_fits k m l h = simp length-take (omega arith)
