-- `numbers::bases::fill_in` meets its contract. The digits of what is left of the number, with what is written, are the
-- number's digits. Assumes nothing.
use native.Mathlib.Omega.{arith}
use Rattle.numbers.proofs.Filling.{turn_none}
use Rattle.numbers.proofs.bases.fill_in.Goals as goal

pub loop-i-init : goal.loop-i-init
loop-i-init c = turn_none _ _ _ c.requires.le_base.0 c.requires.out_len

pub returns : goal.returns
returns c = c.loop-i.invariant.none (omega arith)
