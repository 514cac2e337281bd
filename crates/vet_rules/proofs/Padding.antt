-- The greatest padded length of a span of lengths is a bound, and is reached. Assumes nothing.
use Prim.Native.Nat.{ℕ, suc, ◌+◌, ◌*◌, ◌-◌, ◌/◌, ◌%◌, ◌≤◌, ◌<◌}
use mathlib.Core.Path.{◌≡◌, sym, ap, ◌∙◌}
use mathlib.Core.Logic.{◌⊎◌, inl, inr}
use native.Mathlib.Nat.{div-mul-le_self, lt-div-mul-add, mul-le-mul_right, div-lt_iff_lt-mul, suc-mul, div-eq_of_eq-mul_left}
use native.Mathlib.Decide.{dec_lt}
use native.Mathlib.Omega.{arith}
use borrow.Author.Tests.{lt-ltb, le-ltb, le-leb, lt-leb}
use Rattle.std.proofs.Math.Nat.{mod-eq_of_lt, mod_self}
use Rattle.std.specs.Int.{next_multiple_of}
use Rattle.std.specs.Prelude.{max}
use Rattle.rules.specs.Piece.{times_padded}
use Rattle.vet_rules.specs.Worst.{larger, round_up, padded_size, top_of, greatest}

pub larger_left : (a b : ℕ) → a ≤ larger a b
unfolding larger
larger_left a b =
    elim (dec_lt b a) [ yes h ↦ rw (lt-leb a b h) (omega arith) | no h ↦ rw (le-leb a b (omega arith)) (omega arith) ]

pub larger_right : (a b : ℕ) → b ≤ larger a b
unfolding larger
larger_right a b =
    elim (dec_lt b a) [ yes h ↦ rw (lt-leb a b h) (omega arith) | no h ↦ rw (le-leb a b (omega arith)) (omega arith) ]

pub larger_max : (a b : ℕ) → max a b ≡ larger a b
unfolding larger
larger_max a b = elim (dec_lt b a) [ yes h ↦ rw (lt-leb a b h) (omega arith) | no h ↦ rw (le-leb a b (omega arith)) (omega arith) ]

-- the larger is one of the two
pub larger_one : (a b : ℕ) → (larger a b ≡ a) ⊎ (larger a b ≡ b)
unfolding larger
larger_one a b = elim (dec_lt b a) [ yes h ↦ inl (rw (lt-leb a b h)) | no h ↦ inr (rw (le-leb a b (omega arith))) ]

-- round_up p x is a multiple of p, at least x, and at most any other multiple that is
module _ (p : ℕ) (h : 1 ≤ p) where
  pub up_least : (x : ℕ) → x ≤ round_up p x
  unfolding times_padded
  up_least x = omega (arith, lt-div-mul-add {a = x + (p - 1)} {b = p} h)

  pub up_near : (x : ℕ) → round_up p x ≤ x + (p - 1)
  unfolding times_padded
  up_near x = div-mul-le_self (x + (p - 1)) p

  pub up_under : (x y : ℕ) → x ≤ round_up p y → round_up p x ≤ round_up p y
  unfolding times_padded
  up_under x y e =
      let k = (y + (p - 1)) / p in
      let t : (x + (p - 1)) / p < suc k = (div-lt_iff_lt-mul {k = p} {x = x + (p - 1)} {y = suc k} h).1 (rw suc-mul (omega arith)) in
      mul-le-mul_right p (omega arith)

  -- one more than a multiple goes to the next
  pub up_next : (x : ℕ) → round_up p (suc (round_up p x)) ≡ round_up p x + p
  unfolding times_padded
  up_next x =
      let k = (x + (p - 1)) / p in
      let e : suc (k * p) + (p - 1) ≡ suc k * p = rw suc-mul (omega arith) in
      ap (λ (y : ℕ). y * p) (div-eq_of_eq-mul_left h e) ∙ suc-mul k p

  -- no two multiples of p are as near to x
  near_below : (x j k : ℕ) → x ≤ k * p → j * p ≤ x + (p - 1) → j ≤ k
  near_below x j k a b =
      elim (dec_lt k j) [
        | yes t ↦ absurd (let m : suc k * p ≤ j * p = mul-le-mul_right p t in omega (arith, suc-mul k p))
        | no t ↦ omega arith
      ]

  multiple_is : (x j : ℕ) → x ≤ j * p → j * p ≤ x + (p - 1) → j * p ≡ round_up p x
  unfolding times_padded
  multiple_is x j a b =
      let k = (x + (p - 1)) / p in
      let same : j ≡ k = omega (arith, near_below x j k (up_least x) b, near_below x k j a (up_near x)) in
      ap (λ (y : ℕ). y * p) same

  pub next_is : (x : ℕ) → next_multiple_of x p ≡ round_up p x
  next_is x =
      elim (dec_lt 0 (x % p)) [
        | yes t ↦
            let small : (p - x % p) % p ≡ p - x % p = mod-eq_of_lt (omega arith) in
            let is : x + (p - x % p) % p ≡ suc (x / p) * p = omega (arith, small, suc-mul (x / p) p) in
            is ∙ multiple_is x (suc (x / p)) (omega (arith, is)) (omega (arith, is, small))
        | no t ↦
            let none : x % p ≡ 0 = omega arith in
            let whole : p - x % p ≡ p = omega arith in
            let small : (p - x % p) % p ≡ 0 = ap (λ (y : ℕ). y % p) whole ∙ mod_self p in
            let is : x + (p - x % p) % p ≡ x / p * p = omega (arith, small) in
            is ∙ multiple_is x (x / p) (omega (arith, is)) (omega (arith, is, small))
      ]

  module _ (w m : ℕ) where
    pub pad_bound : (lo hi n : ℕ) → lo ≤ n → n ≤ hi → padded_size w p m n ≤ greatest w p m lo hi
    unfolding greatest top_of
    pad_bound lo hi n a b =
        let short = round_up p (w - 1 - (hi + m)) in
        elim (dec_lt short (w - (lo + m))) [
          | yes t ↦
              rw (lt-ltb short (w - (lo + m)) t)
              (elim (dec_lt (n + m) w) [
                | yes u ↦ omega (arith, up_near (w - (n + m)), larger_right (padded_size w p m hi) (w + p - 1))
                | no u ↦
                    let e : w - (n + m) ≡ w - (hi + m) = omega arith in
                    omega (arith, ap (round_up p) e, larger_left (padded_size w p m hi) (w + p - 1))
              ])
          | no t ↦
              let u : round_up p (w - (n + m)) ≤ short = up_under (w - (n + m)) (w - 1 - (hi + m)) (omega arith) in
              let v : short ≤ round_up p (w - (hi + m)) = up_under (w - 1 - (hi + m)) (w - (hi + m)) (omega (arith, up_least (w - (hi + m)))) in
              rw (le-ltb short (w - (lo + m)) (omega arith)) (omega (arith, larger_left (padded_size w p m hi) 0))
        ]

    reaches : (n s r : ℕ) → n + m + suc s ≡ w → r ≡ s + p → n + (m + r) ≡ w + p - 1
    reaches n s r e f = omega arith

    inside : (hi s : ℕ) → w - 1 - (hi + m) ≤ s → w - 1 - s - m ≤ hi
    inside hi s h = omega arith

    pub pad_reached : (lo hi : ℕ) → lo ≤ hi → (n : ℕ) × (lo ≤ n) × (n ≤ hi) × (padded_size w p m n ≡ greatest w p m lo hi)
    unfolding greatest top_of
    pad_reached lo hi a =
        let short = round_up p (w - 1 - (hi + m)) in
        elim (dec_lt short (w - (lo + m))) [
          | yes t ↦
              rw (lt-ltb short (w - (lo + m)) t)
              (elim (larger_one (padded_size w p m hi) (w + p - 1)) [
                | inl e ↦ (hi, a, omega arith, sym e)
                | inr e ↦
                    let n = w - 1 - short - m in
                    let g : w - (n + m) ≡ suc short = omega arith in (
                      n,
                      omega arith,
                      inside hi short (up_least (w - 1 - (hi + m))),
                      reaches n short (round_up p (w - (n + m))) (omega arith)
                          (ap (round_up p) g ∙ up_next (w - 1 - (hi + m))) ∙ sym e,
                    )
              ])
          | no t ↦
              rw (le-ltb short (w - (lo + m)) (omega arith))
              (hi, a, omega arith, (elim (larger_one (padded_size w p m hi) 0) [ inl e ↦ sym e | inr e ↦ omega (arith, larger_left (padded_size w p m hi) 0) ]))
        ]
