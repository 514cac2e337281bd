-- `numbers::decimal::count_decimal` meets its contract: four digits in a turn, and then up to three. Assumes nothing.
use Prim.Native.Nat.{◌-◌}
use Rattle.numbers.specs.Counts.{Counting}
use Rattle.numbers.proofs.decimal.count_decimal.Given as goal

abbrev pub invariant-loop-count : goal.invariant-loop-count
invariant-loop-count l = Counting l.n l.power l.count

abbrev pub decreases-loop-count : goal.decreases-loop-count
decreases-loop-count l = 17 - l.count
