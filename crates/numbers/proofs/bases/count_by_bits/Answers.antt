-- `numbers::bases::count_by_bits` meets its contract: it reads the top set bit. Assumes nothing.
use mathlib.Core.Path.{◌≡◌, ◌∙◌}
use native.Mathlib.Omega.{arith}
use Rattle.numbers.specs.Counts.{top_count}
use Rattle.numbers.proofs.TopBit.{read_some, top_count_lem}
use Rattle.numbers.proofs.bases.count_by_bits.Goals as goal

pub returns-then-n-eq0-clause-count : goal.returns-then-n-eq0-clause-count
returns-then-n-eq0-clause-count c =
    let read : 1 ≡ top_count c.args.bits c.args.n = rw c.if-n-eq0.true in
    read ∙ top_count_lem c.args.bits c.args.n c.requires.0 c.ranges.n.fits

pub returns-clause-count : goal.returns-clause-count
returns-clause-count c =
    read_some c.args.bits c.args.n (omega arith) ∙ top_count_lem c.args.bits c.args.n c.requires.0 c.ranges.n.fits
