-- The settings lie in their places. Assumes nothing.
use mathlib.Core.Bool.{false}
use native.Mathlib.Omega.{arith}
use Rattle.vet_turns.proofs.WorstBy.{default_is}
use Rattle.rules.specs.Working.{IsByte}
use Rattle.rules.proofs.Rowed.{number_least, number_most}
use Rattle.vet_turns.proofs.lengths.Padding.of.Goals as goal

pub invariant_of-result : goal.invariant_of-result
invariant_of-result c =
    let s = c.args.settings in
    let p = c.requires false in
    record {
      sizing = record {
        width = omega (arith, c.unwrap_or.ensures, default_is s.first 0, number_most IsByte 0 4096 s.first 0 p.first (omega arith));
        least = omega (arith, c.unwrap_or-2.ensures, default_is s.second 1, number_least IsByte 1 4096 s.second 1 p.second (omega arith));
        most = omega (arith, c.unwrap_or-2.ensures, default_is s.second 1, number_most IsByte 1 4096 s.second 1 p.second (omega arith));
        pad = omega (arith, c.unwrap_or-3.ensures, default_is s.third 0, number_most IsByte 0 4096 s.third 0 p.third (omega arith));
      };
    }
