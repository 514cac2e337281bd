-- `numbers::bases::fill_in` meets its contract. The digits of what is left of the number, with what is written, are the
-- number's digits. Assumes nothing.
use Rattle.rules.specs.Number.{digits_of}
use Rattle.numbers.proofs.Filling.{Turn}
use Rattle.numbers.proofs.bases.fill_in.Given as goal

abbrev pub invariant-loop-i : goal.invariant-loop-i
invariant-loop-i l = Turn l.base (digits_of l.base l.n) l.out l.i l.rest
