-- `probe::probe_digits` meets its contract: its three ends, by DigitLaws. Assumes nothing.
use native.Mathlib.Omega.{arith}
use Rattle.std.proofs.Common.{rules}
use Rattle.probe.proofs.DigitLaws.{base_outside, no_room, all_written_lem}
use Rattle.probe.proofs.probe_digits.Goals as goal

pub returns-then-not-contains-clause-count : goal.returns-then-not-contains-clause-count
returns-then-not-contains-clause-count c = (base_outside c.args.base c.args.n c.args.out.now (λ a b. search rules)).0

pub returns-then-not-contains-clause-bytes : goal.returns-then-not-contains-clause-bytes
returns-then-not-contains-clause-bytes c = (base_outside c.args.base c.args.n c.args.out.now (λ a b. search rules)).1

pub returns-then-out-count-clause-count : goal.returns-then-out-count-clause-count
returns-then-out-count-clause-count c = (no_room _ _ _ (search rules) (search rules) _ c.digit_count-count.ensures.count (omega arith)).0

pub returns-then-out-count-clause-bytes : goal.returns-then-out-count-clause-bytes
returns-then-out-count-clause-bytes c = (no_room _ _ _ (search rules) (search rules) _ c.digit_count-count.ensures.count (omega arith)).1

pub returns-clause-count : goal.returns-clause-count
returns-clause-count c = (all_written_lem _ _ _ (search rules) (search rules) _ c.digit_count-count.ensures.count (omega arith) _ c.fill_digits.ensures).0

pub returns-clause-bytes : goal.returns-clause-bytes
returns-clause-bytes c = (all_written_lem _ _ _ (search rules) (search rules) _ c.digit_count-count.ensures.count (omega arith) _ c.fill_digits.ensures).1
