-- The four ways in which `probe_digits` ends. Assumes nothing.
use mathlib.Core.Path.{◌≡◌}
use mathlib.Core.Bool.{true, false}
use mathlib.Core.List.{List, ◌++◌}
use Prim.Native.Nat.{ℕ, ◌≤◌, ◌<◌}
use native.Mathlib.Decide.{dec_lt}
use native.Mathlib.Omega.{arith}
use borrow.Author.Tests.{le-leb, lt-leb}
use lib.ListN.{length, drop}
use Rattle.rules.specs.Number.{digits_of}
use Rattle.probe.specs.Probe.{serves, count_written, buffer_after}

module _ (base n : ℕ) (out : List ℕ) where
  none : serves base n (length out) ≡ false → (0 ≡ count_written base n (length out)) × (out ≡ buffer_after base n out)
  unfolding count_written buffer_after
  none e = (rw e, rw e)

  pub base_outside : (2 ≤ base → base ≤ 36 → ⊥) → (0 ≡ count_written base n (length out)) × (out ≡ buffer_after base n out)
  base_outside h =
      none (elim (dec_lt base 2) [
        | yes a ↦ rw (lt-leb 2 base a)
        | no a ↦ elim (dec_lt 36 base) [
          | yes b ↦ rw (le-leb 2 base (omega arith), lt-leb base 36 b)
          | no b ↦ absurd (h (omega arith) (omega arith))
        ]
      ])

  module _ (above : 2 ≤ base) (below : base ≤ 36) (count : ℕ) (e : count ≡ length (digits_of base n)) where
    pub no_room : length out < count → (0 ≡ count_written base n (length out)) × (out ≡ buffer_after base n out)
    no_room h =
        let room : length out < length (digits_of base n) = omega arith in
        none (rw (le-leb 2 base above, le-leb base 36 below, lt-leb (length (digits_of base n)) (length out) room))

    -- the first `count` bytes were lent, and came back as the digits
    pub all_written_lem : count ≤ length out → (bytes : List ℕ) → bytes ≡ digits_of base n → (count ≡ count_written base n (length out)) × (bytes ++ drop count out ≡ buffer_after base n out)
    unfolding count_written buffer_after
    all_written_lem h bytes p =
        let room : length (digits_of base n) ≤ length out = omega arith in
        let s : serves base n (length out) ≡ true = rw (le-leb 2 base above, le-leb base 36 below, le-leb (length (digits_of base n)) (length out) room) in
        (rw (s, e), rw (s, e, p))
