-- `numbers::bases::count_in` meets its contract: the powers of the base on both sides of n. Assumes nothing.
use mathlib.Core.Path.{sym}
use Prim.Native.Nat.{◌+◌, ◌^◌, ◌<◌}
use native.Mathlib.Decide.{dec_lt}
use native.Mathlib.Nat.{pow-suc}
use native.Mathlib.Numerals.{add-one}
use native.Mathlib.Omega.{arith}
use Rattle.rules.proofs.Digits.{count_one, count_below, count_above}
use Rattle.numbers.proofs.bases.count_in.Goals as goal

pub returns-in-Some : goal.returns-in-Some
returns-in-Some c =
    let b = c.args.base in
    let n = c.args.n in
    let k = c.in-Some.power in
    let below : n < b ^ (k + 1) = rw (add-one, pow-suc) (omega (arith, c.in-Some.ensures.next_power_gt)) in
    omega (arith, count_above k b n c.requires.0 c.in-Some.ensures.power_le, count_below (k + 1) b n c.requires.0 (omega arith) below)

pub returns-in-None : goal.returns-in-None
returns-in-None c =
    elim (dec_lt 0 c.args.n) [
      | yes h ↦ absurd (cc (c.in-None.ensures.variant.1 (h, c.requires.0)))
      | no h ↦ sym (count_one c.args.base c.args.n (omega arith))
    ]
