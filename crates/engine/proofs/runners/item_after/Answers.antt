-- The item where a run ended, and the end of the text for a run that did not end or a sequence that ends there. Assumes
-- nothing.
use Rattle.std.proofs.Common.{rules}
use mathlib.Core.Path.{◌≡◌, refl}
use Rattle.actions.specs.declared.state.Stop.TheVariants.{Ended}
use Rattle.engine.proofs.RunnerLaws.{not_both}
use Rattle.engine.proofs.runners.item_after.Goals as goal

pub returns-then-ne : goal.returns-then-ne
returns-then-ne c =
    let halts : c.args.s.stop ≡ Ended → ⊥ = search rules in
    record {
      ends = λ _ q. absurd (halts q);
      ended = λ h. absurd (not_both refl h);
      is = λ h. absurd (not_both refl h);
    }

pub returns : goal.returns
returns c =
    let x = c.element_at.ensures in
    let halt : c.args.s.stop ≡ Ended = search rules in
    record {
      ends = λ h _. x.ends h;
      ended = λ _. halt;
      is = x.is;
    }
