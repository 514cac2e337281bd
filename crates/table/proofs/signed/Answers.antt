-- `table::signed` meets its contract: bits from 2^63 on are the negative numbers. Assumes nothing.
use Prim.Native.Nat.{ℕ, suc, ◌-◌, ◌^◌}
use mathlib.Core.Path.{◌≡◌}
use native.Mathlib.Decide.{dec_lt}
use native.Mathlib.Omega.{arith}
use borrow.Author.Tests.{le-ltb, lt-ltb}
use mir.Syntax.{w64}
use mir.Val.{to_z}
use mir.ValLaws.{to_z-of_z}
use Rattle.rules.specs.Table.{signed_of}
use Rattle.table.proofs.signed.Goals as goal

by_half : (bits : ℕ) → to_z w64 bits ≡ signed_of bits
unfolding signed_of
by_half bits =
    let e : 2 ^ 64 - suc bits ≡ 18446744073709551615 - bits = omega arith in
    elim (dec_lt bits 9223372036854775808) [
      | yes h ↦ rw (lt-ltb bits 9223372036854775808 h)
      | no h ↦ rw (le-ltb bits 9223372036854775808 (omega arith), e)
    ]

pub returns : goal.returns
returns c =
    rw (to_z-of_z w64 c.cast_signed.result (record { sfits = c.cast_signed.type_inv }), c.cast_signed.ensures, c.from.ensures, c.from-2.ensures)
    (by_half _)
