-- Spans of bytes of a class f, byte by byte and in strides. Assumes nothing.
use mathlib.Core.Path.{◌≡◌, refl, sym, ap, ◌∙◌}
use mathlib.Core.Bool.{Bool, true, false, cond}
use mathlib.Core.List.{List, [], ◌∷◌}
use Prim.Native.Nat.{ℕ, zero, suc, ◌+◌, ◌≤◌, ◌<◌}
use native.Mathlib.Decide.{dec_lt}
use native.Mathlib.Numerals.{add-one}
use native.Mathlib.Omega.{arith}
use lib.ListN.{length, get_or, drop, drop_of_length-le}
use lib.Seq.{drop-cons}
use Rattle.std.specs.List.{take_while}
use Rattle.std.proofs.lemmas.List.Sums.{take_while-cons}
use Rattle.rules.specs.Directive.{is_blank, blanks}
use Rattle.reader.specs.Spans.{span_of, count_of, Along, Strides}

module _ (f : ℕ → Bool) (t : List ℕ) (p : ℕ) where
  pub span_on : p < length t → f (get_or t p 0) ≡ true → span_of f (drop p t) ≡ suc (span_of f (drop (p + 1) t))
  unfolding span_of
  span_on h e = rw (drop-cons t p 0 h, add-one, span_of, e)

  span_none : p < length t → f (get_or t p 0) ≡ false → span_of f (drop p t) ≡ 0
  unfolding span_of
  span_none h e = rw (drop-cons t p 0 h, span_of, e)

  span_end : length t ≤ p → span_of f (drop p t) ≡ 0
  unfolding span_of
  span_end h = rw (drop_of_length-le t h, span_of)

  -- a span that is not empty begins with a byte of the class
  pub span_inside : 1 ≤ span_of f (drop p t) → p < length t
  span_inside z = elim (dec_lt p (length t)) [
    | yes h ↦ h
    | no h ↦ absurd (omega (arith, z, span_end (omega arith)))
  ]

  pub span_first : 1 ≤ span_of f (drop p t) → f (get_or t p 0) ≡ true
  span_first z = by (f (get_or t p 0)) refl
    where
      by : (y : Bool) → f (get_or t p 0) ≡ y → y ≡ true
      by true e = refl
      by false e = absurd (omega (arith, z, span_none (span_inside z) e))

pub span_most : (f : ℕ → Bool) (bs : List ℕ) → span_of f bs ≤ length bs
unfolding span_of
span_most f [] = omega arith
span_most f (b ∷ bs) = by (f b) (span_most f bs)
  where
    by : (y : Bool) → span_of f bs ≤ length bs → cond y (suc (span_of f bs)) 0 ≤ suc (length bs)
    by true h = omega arith
    by false h = omega arith

-- the bytes that a tilde-newline skips
pub span_blanks : (bs : List ℕ) → span_of is_blank bs ≡ blanks bs
unfolding span_of blanks
span_blanks [] = refl
span_blanks (b ∷ bs) = ap (λ n. cond (is_blank b) (suc n) 0) (span_blanks bs)

-- the bytes of a stride
one_or_none : (y : Bool) → ◌≡◌ {A = ℕ} (cond y 1 0) 1 → y ≡ true
one_or_none true e = refl
one_or_none false e = absurd (omega (arith, e))

pub at_most_one : (y : Bool) → cond y 1 0 ≤ 1
at_most_one true = omega arith
at_most_one false = omega arith

module _ (f : ℕ → Bool) (t : List ℕ) (i : ℕ) where
  pub count_on : (n k b : ℕ) (y : Bool) → n ≡ count_of f t i k → y ≡ f (get_or t (i + k) 0) → b ≡ cond y 1 0
      → n + b ≡ count_of f t i (k + 1)
  unfolding count_of
  count_on n k b y e is q = rw (add-one, count_of, ← e, ← is, ← q)

  count_most : (k : ℕ) → count_of f t i k ≤ k
  unfolding count_of
  count_most zero = omega arith
  count_most (suc k) = omega (arith, count_most k, at_most_one (f (get_or t (i + k) 0)))

  count_whole : (k : ℕ) → count_of f t i k ≡ k → i + k ≤ length t → span_of f (drop i t) ≡ k + span_of f (drop (i + k) t)
  unfolding count_of
  count_whole zero e h = let none : i + 0 ≡ i = omega arith in rw none (omega arith)
  count_whole (suc k) e h =
      let few = count_most k in
      let one = at_most_one (f (get_or t (i + k) 0)) in
      let last = span_on f t (i + k) (omega arith) (one_or_none (f (get_or t (i + k) 0)) (omega (arith, e, few, one))) in
      let before = count_whole k (omega (arith, e, few, one)) (omega arith) in
      let after : i + k + 1 ≡ i + suc k = omega arith in
      before ∙ rw (last, after) (omega arith)

-- along a span: where it begins, a byte or a stride further, and where it ends
pub along_first : (f : ℕ → Bool) (t : List ℕ) (first : ℕ) → first ≤ length t → Along f t first first
along_first f t first h = record { on = omega arith; within = h; same = refl }

module _ {f : ℕ → Bool} {t : List ℕ} {first i : ℕ} (s : Along f t first i) where
  -- n of the sixteen bytes at i are of the class
  pub along_stride : (n : ℕ) → n ≡ count_of f t i 16 → n ≡ 16 → i + 16 ≤ length t → Along f t first (i + 16)
  along_stride n e all h = record {
    on = omega (arith, s.on);
    within = h;
    same = omega (arith, s.same, count_whole f t i 16 (sym e ∙ all) h);
  }

  pub stride_none : (n : ℕ) → n ≡ count_of f t i 16 → (n ≡ 16 → ⊥) → Strides f t first i
  stride_none n e z = record { along = s; stops = λ h all. z (e ∙ all) }

  pub stride_end : length t < i + 16 → Strides f t first i
  stride_end h = record { along = s; stops = λ k. absurd (omega (arith, h, k)) }

pub blanks_taken : (bs : List ℕ) → length (take_while is_blank bs) ≡ span_of is_blank bs
unfolding span_of
blanks_taken [] = refl
blanks_taken (b ∷ bs) = rw (take_while-cons is_blank b bs, ← blanks_taken bs) (by (is_blank b))
  where
    by : (y : Bool) → length (cond y (b ∷ take_while is_blank bs) []) ≡ cond y (suc (length (take_while is_blank bs))) 0
    by true = refl
    by false = refl
