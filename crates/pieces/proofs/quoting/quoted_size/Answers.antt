-- `pieces::quoting::quoted_size` meets its contract: two quotes, the bytes, and a backslash for each that has one.
-- Assumes nothing.
use Rattle.std.proofs.Common.{◌≡◌, ◌∙◌, ap, refl, ℕ, ◌+◌, ◌≤◌, Bool, true, false, cond, length, take, get_or, arith}
use Rattle.std.proofs.lemmas.List.{length-take, take_all}
use Rattle.std.proofs.lemmas.List.Sums.{sum_by_more, count_by-le-length}
use Rattle.std.specs.List.{count_by}
use mir.Val.{bool_byte}
use Rattle.pieces.specs.Bytes.{is_marked}
use Rattle.pieces.proofs.Escapes.{measured}
use Rattle.pieces.proofs.quoting.quoted_size.Goals as goal

one_if : (y : Bool) → bool_byte y ≡ cond y 1 0
one_if true = refl
one_if false = refl

at_most_one : (y : Bool) → cond y 1 0 ≤ 1
at_most_one true = omega arith
at_most_one false = omega arith

pub overflow_add-marked : goal.overflow_add-marked
overflow_add-marked c =
    omega (
      arith,
      c.requires,
      c.loop-byte.invariant,
      count_by-le-length is_marked (take c.loop-byte.byte-index c.args.src.now),
      length-take c.loop-byte.byte-index c.args.src.now,
      c.from-marked.ensures ∙ one_if c.is_marked.result,
      at_most_one c.is_marked.result,
    )

pub loop-byte-preserved : goal.loop-byte-preserved
loop-byte-preserved c =
    let s = c.args.src.now in
    omega (
      arith,
      c.loop-byte.invariant,
      sum_by_more (λ b. cond (is_marked b) 1 0) s c.loop-byte.byte-index 0 c.loop-byte-test.true,
      c.from-marked.ensures ∙ one_if c.is_marked.result ∙ ap (λ y. cond y 1 0) c.is_marked.ensures,
    )

pub returns-clause-size : goal.returns-clause-size
returns-clause-size c =
    let s = c.args.src.now in
    omega (
      arith,
      c.loop-byte.invariant,
      ap (count_by is_marked) (take_all c.loop-byte.byte-index s c.loop-byte-test.false),
      measured s,
    )

pub returns-clause-within : goal.returns-clause-within
returns-clause-within c =
    omega (
      arith,
      c.requires,
      c.loop-byte.invariant,
      count_by-le-length is_marked (take c.loop-byte.byte-index c.args.src.now),
      length-take c.loop-byte.byte-index c.args.src.now,
    )
