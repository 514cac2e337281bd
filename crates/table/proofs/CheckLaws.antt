-- The table check a step at a time: what each test of the code says of the verdict. Assumes nothing.
use Prim.Native.Nat.{ℕ, suc, ◌+◌, ◌-◌, ◌*◌, ◌≤◌, ◌<◌}
use mathlib.Core.Path.{◌≡◌, sym, ◌∙◌}
use mathlib.Core.Bool.{true, false}
use mathlib.Core.List.{List}
use native.Mathlib.Omega.{arith}
use lib.ListN.{length}
use borrow.Author.Tests.{lt-ltb, le-ltb, eq-eqb, ne_eqb}
use Rattle.rules.specs.Table.{entry_count, argument_count, pool_length, entry_place, entry_at, is_right, first_bad, table_verdict}
use Rattle.rules.specs.Verdict.{Accepted, Refused}

-- the loop over the entries: i is the next to look at
module _ (t : List ℕ) (n pool i : ℕ) (next : i < n) where
  left_over : n - i ≡ suc (n - (i + 1))
  left_over = omega arith

  module _ (from_here : first_bad t n pool (n - i) i ≡ first_bad t n pool n 0) where
    pub right_next : is_right n pool i (entry_at t i) ≡ true → first_bad t n pool (n - (i + 1)) (i + 1) ≡ first_bad t n pool n 0
    unfolding first_bad
    right_next e =
        let one : suc i ≡ i + 1 = omega arith in
        let step : first_bad t n pool (n - i) i ≡ first_bad t n pool (n - (i + 1)) (i + 1) = rw (left_over, first_bad, e, one) in
        sym step ∙ from_here

    pub wrong_here : is_right n pool i (entry_at t i) ≡ false → Refused 1 (entry_place i) ≡ first_bad t n pool n 0
    unfolding first_bad
    wrong_here e =
        let step : first_bad t n pool (n - i) i ≡ Refused 1 (entry_place i) = rw (left_over, first_bad, e) in
        sym step ∙ from_here

pub none_left : (t : List ℕ) (n pool i : ℕ) → n ≤ i → first_bad t n pool (n - i) i ≡ first_bad t n pool n 0 → Accepted ≡ first_bad t n pool n 0
unfolding first_bad
none_left t n pool i h from_here =
    let none : n - i ≡ 0 = omega arith in
    let step : first_bad t n pool (n - i) i ≡ Accepted = rw (none, first_bad) in
    sym step ∙ from_here

-- the header, test by test
module _ (t : List ℕ) where
  pub too_short : length t < 8 → Refused 1 0 ≡ table_verdict t
  unfolding table_verdict
  too_short a = rw (lt-ltb (length t) 8 a)

  module _ (a : 8 ≤ length t) where
    pub too_many : 1024 < entry_count t → Refused 1 0 ≡ table_verdict t
    unfolding table_verdict
    too_many b = rw (le-ltb (length t) 8 a, lt-ltb 1024 (entry_count t) b)

    module _ (b : entry_count t ≤ 1024) where
      pub too_many_arguments : entry_count t < argument_count t → Refused 1 2 ≡ table_verdict t
      unfolding table_verdict
      too_many_arguments c =
          rw (le-ltb (length t) 8 a, le-ltb 1024 (entry_count t) b, lt-ltb (entry_count t) (argument_count t) c)

      module _ (c : argument_count t ≤ entry_count t) where
        pub too_large : 65536 < pool_length t → Refused 1 4 ≡ table_verdict t
        unfolding table_verdict
        too_large d =
            rw (le-ltb (length t) 8 a, le-ltb 1024 (entry_count t) b, le-ltb (entry_count t) (argument_count t) c, lt-ltb 65536 (pool_length t) d)

        module _ (d : pool_length t ≤ 65536) where
          pub wrong_length : (length t ≡ 8 + 12 * entry_count t + pool_length t → ⊥) → Refused 1 4 ≡ table_verdict t
          unfolding table_verdict
          wrong_length e =
              rw (
                le-ltb (length t) 8 a,
                le-ltb 1024 (entry_count t) b,
                le-ltb (entry_count t) (argument_count t) c,
                le-ltb 65536 (pool_length t) d,
                ne_eqb (length t) (8 + 12 * entry_count t + pool_length t) e,
              )

          pub by_entries : (n pool : ℕ) → n ≡ entry_count t → pool ≡ pool_length t → length t ≡ 8 + 12 * entry_count t + pool_length t
              → first_bad t n pool n 0 ≡ table_verdict t
          unfolding table_verdict
          by_entries n pool p q e =
              rw (
                le-ltb (length t) 8 a,
                le-ltb 1024 (entry_count t) b,
                le-ltb (entry_count t) (argument_count t) c,
                le-ltb 65536 (pool_length t) d,
                eq-eqb (length t) (8 + 12 * entry_count t + pool_length t) e,
                p,
                q,
              )
