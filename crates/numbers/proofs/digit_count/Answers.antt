-- `numbers::digit_count` meets its contract: at most 64 digits in any base. Assumes nothing.
use native.Mathlib.Omega.{arith}
use Rattle.rules.proofs.Digits.{count_pos, count_word}
use Rattle.numbers.proofs.digit_count.Goals as goal

pub returns-in_default-clause-within : goal.returns-in_default-clause-within
returns-in_default-clause-within c =
    omega (arith, count_pos c.args.base c.args.n c.requires.0, count_word c.args.base c.args.n c.requires.0 c.ranges.n.fits)
