-- `settle_none` meets its contract: an empty parameter is absent in every place. Assumes nothing.
use mathlib.Core.Path.{refl}
use Rattle.parameters.proofs.SettleLaws.{all_settled}
use Rattle.parameters.proofs.WorkLaws.{default_written}
use Rattle.parameters.proofs.settling.settle_none.Goals as goal

pub returns : goal.returns
returns c = all_settled (default_written refl) (default_written refl) (default_written refl) (default_written refl) (default_written refl)
