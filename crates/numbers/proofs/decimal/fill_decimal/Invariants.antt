-- `numbers::decimal::fill_decimal` meets its contract: two pairs in a turn, and then the first digits. Assumes nothing.
use Rattle.rules.specs.Number.{digits_of}
use Rattle.numbers.proofs.Filling.{Filling}
use Rattle.numbers.proofs.decimal.fill_decimal.Given as goal

abbrev pub invariant-loop-end : goal.invariant-loop-end
invariant-loop-end l = Filling 10 (digits_of 10 l.n) l.out l.end l.rest

abbrev pub decreases-loop-end : goal.decreases-loop-end
decreases-loop-end l = l.end
