-- What is to skip of the rest is what was to skip of the whole. Assumes nothing.
use mathlib.Core.Bool.{false}
use mathlib.Core.Path.{◌≡◌}
use lib.ListN.{drop}
use Rattle.pieces.specs.Bytes.{owed}
use Rattle.pieces.proofs.quoting.find_spot.Given as goal

abbrev pub invariant-loop-next : goal.invariant-loop-next
invariant-loop-next l = drop l.from (owed false l.src) ≡ drop l.skip (owed false (drop l.next l.src))
