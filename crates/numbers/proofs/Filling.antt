-- Digits that are filled in from the right, over any base. Assumes nothing.
use mathlib.Core.Path.{◌≡◌, sym}
use mathlib.Core.List.{List, [], ◌∷◌, ◌++◌, append_assoc, append-nil}
use Prim.Native.Nat.{ℕ, suc, ◌+◌, ◌-◌, ◌/◌, ◌%◌, ◌^◌, ◌≤◌, ◌<◌}
use native.Mathlib.Decide.{dec_lt}
use native.Mathlib.Nat.{mod-eq_of_lt}
use native.Mathlib.Numerals.{add-one}
use native.Mathlib.Omega.{arith}
use lib.ListN.{length, drop, set, length-set}
use lib.Seq.{lt-length-set, drop-cons, get_or-set_same, drop-set-lt, drop-length}
use Rattle.rules.specs.Number.{digit_byte, digits_of}
use Rattle.rules.proofs.Digits.{digits_one, digits_more, count_one, count_more, count_pos, count_above}

-- a store in front of what is written
store_front : (l : List ℕ) (i v : ℕ) → i < length l → drop i (set l i v) ≡ v ∷ drop (i + 1) l
store_front l i v h =
    let k : i < length (set l i v) = lt-length-set l i v h in
    rw (drop-cons (set l i v) i 0 k, get_or-set_same l i v 0 h, drop-set-lt (suc i) l i v (omega arith), add-one)

-- the digits of what is left of a number, which end before `end`, with those that stand there, are the text
pub record Filling (b : ℕ) (text out : List ℕ) (end rest : ℕ) : Type 0 where
  pub whole : digits_of b rest ++ drop end out ≡ text
  pub left : length (digits_of b rest) ≡ end
  pub inside : end ≤ length out

pub fill_none : (b n : ℕ) (out : List ℕ) → length out ≡ length (digits_of b n)
    → Filling b (digits_of b n) out (length out) n
fill_none b n out e = record { whole = rw (drop-length, append-nil); left = sym e; inside = omega arith }

module _ {b end rest : ℕ} {text out : List ℕ} (hb : 2 ≤ b) (f : Filling b text out end rest) where
  pub fill_some : 1 ≤ end
  fill_some = omega (arith, f.left, count_pos b rest hb)

  -- more than one digit is left just where the number has more than one
  pub fill_open : 2 ≤ end → b ≤ rest
  fill_open h =
      elim (dec_lt rest b) [
        | yes t ↦ absurd (omega (arith, f.left, count_one b rest t))
        | no t ↦ omega arith
      ]

  -- and one digit is a number below the base
  pub fill_small : end ≤ 1 → rest < b
  fill_small h =
      elim (dec_lt rest b) [
        | yes t ↦ t
        | no t ↦ absurd (omega (arith, f.left, count_more b rest hb (omega arith), count_pos b (rest / b) hb))
      ]

  -- no more than k digits are a number below the k-th power
  pub fill_below : (k : ℕ) → end ≤ k → rest < b ^ k
  fill_below k h =
      elim (dec_lt rest (b ^ k)) [
        | yes t ↦ t
        | no t ↦ absurd (omega (arith, f.left, count_above k b rest hb (omega arith)))
      ]

  -- a digit goes in, at i
  pub fill_more : (i d : ℕ) → end ≡ i + 1 → b ≤ rest → d ≡ digit_byte (rest % b)
      → Filling b text (set out i d) i (rest / b)
  fill_more i d p h e =
      let x : ℕ = digit_byte (rest % b) in
      let k : i < length out = omega (arith, f.inside) in
      record {
        whole =
            rw (e, store_front out i x k)
            (rw (← append_assoc (digits_of b (rest / b)) (x ∷ []) (drop (i + 1) out), ← digits_more b rest hb h, ← p) f.whole);
        left = omega (arith, f.left, count_more b rest hb h);
        inside = simp length-set (omega arith);
      }

  -- the last one
  pub fill_last : (d : ℕ) → rest < b → d ≡ digit_byte rest → set out 0 d ≡ text
  fill_last d h e =
      let z : end ≡ 1 = omega (arith, f.left, count_one b rest h) in
      let k : 0 < length out = omega (arith, f.inside) in
      rw (e, store_front out 0 (digit_byte rest) k) (rw (z, digits_one b rest h) at f.whole)

  -- what stands before the end does not matter
  pub fill_same : (i x : ℕ) → i < end → Filling b text (set out i x) end rest
  fill_same i x h =
      record {
        whole = rw (drop-set-lt end out i x h) f.whole;
        left = f.left;
        inside = simp length-set f.inside;
      }

-- the same in a loop that ends when no place is left: then all stand
pub record Turn (b : ℕ) (text out : List ℕ) (end rest : ℕ) : Type 0 where
  pub some : 1 ≤ end → Filling b text out end rest
  pub none : end ≡ 0 → out ≡ text

pub turn_none : (b n : ℕ) (out : List ℕ) → 2 ≤ b → length out ≡ length (digits_of b n)
    → Turn b (digits_of b n) out (length out) n
turn_none b n out hb e = record {
  some = λ h. fill_none b n out e;
  none = λ z. absurd (omega (arith, count_pos b n hb));
}

pub turn_more : {b end rest : ℕ} {text out : List ℕ} (d : ℕ) → 2 ≤ b → Turn b text out end rest → 0 < end
    → d ≡ digit_byte (rest % b) → Turn b text (set out (end - 1) d) (end - 1) (rest / b)
turn_more {b} {end} {rest} d hb t h e =
    let f = t.some h in
    elim (dec_lt 1 end) [
      | yes more ↦ record {
        some = λ s. fill_more hb f (end - 1) d (omega arith) (fill_open hb f more) e;
        none = λ z. absurd (omega arith);
      }
      | no one ↦
          let first : end - 1 ≡ 0 = omega arith in
          let small : rest < b = fill_small hb f (omega arith) in
          record {
            some = λ s. absurd (omega arith);
            none = λ z. rw first (fill_last hb f d small (rw (mod-eq_of_lt small) at e));
          }
    ]
