-- An escape ends the passes, and a refusal is handed on. Assumes nothing.
use mathlib.Core.Path.{refl, subst}
use lib.ListN.{length}
use Rattle.rules.specs.Text.{levels_at}
use Rattle.actions.specs.declared.state.Spot.{Spot}
use Rattle.running.specs.Runs.{EndsBlock}
use Rattle.engine.proofs.RunnerLaws.{left_not_refused, not_left}
use borrow.Enum.Refused.{opened}
use Rattle.engine.proofs.runners.leave_passes.Goals as goal

pub returns-in-Escaped : goal.returns-in-Escaped
returns-in-Escaped c =
    let a = c.args in
    record {
      left = λ _. subst (λ (y : Spot). EndsBlock (levels_at a.text.now) (length a.text.now) y a.q a.r.next.0 c.end_block.result) c.spot_at.ensures c.end_block.ensures;
      refused = λ f y. absurd (left_not_refused c.in-Escaped.is y);
    }

pub returns-in_default : goal.returns-in_default
returns-in_default c =
    record {
      left = λ y. absurd (not_left _ c.args.r.stop refl (opened c.in_default.in_default-own.keys2) y);
      refused = λ f y. refl;
    }
