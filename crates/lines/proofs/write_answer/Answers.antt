-- `lines::write_answer` meets its contract: the numbers, of 26 digits, and then the text. Assumes nothing.
use native.Mathlib.Omega.{arith}
use Rattle.lines.proofs.Answering.{numbers_end, numbers_then}
use Rattle.lines.proofs.write_answer.Goals as goal

pub write_hex-requires : goal.write_hex-requires
write_hex-requires c =
    let o = c.args.o in
    omega (
      arith,
      numbers_end o.code o.position o.steps o.written c.numbers_of-numbers.ensures c.write_hex-at.ensures,
      c.write_hex-at.auto.out,
      c.requires,
    )

pub returns : goal.returns
returns c =
    let o = c.args.o in
    numbers_then o.code o.position o.steps o.written c.numbers_of-numbers.ensures c.write_hex-at.ensures
    c.args.text.now c.write_hex.ensures
