-- `making::words::fold_body` meets its contract: a newline with @, and else nothing. Assumes nothing.
use mathlib.Core.Path.{◌≡◌, refl, ap, ◌∙◌}
use mathlib.Core.Bool.{Bool, true, false, cond}
use mathlib.Core.List.{[], ◌∷◌}
use Prim.Native.Nat.{ℕ}
use lib.ListN.{replicate}
use Rattle.std.specs.Int.{from_bool}
use Rattle.making.proofs.Made.{makes_same}
use Rattle.making.proofs.words.fold_body.Goals as goal

newline : (atsign : Bool) → replicate {A = ℕ} (from_bool atsign) 10 ≡ cond atsign (10 ∷ []) []
newline true = refl
newline false = refl

pub returns : goal.returns
returns c =
    λ t. makes_same (ap (λ (k : ℕ). replicate {A = ℕ} k 10) c.from.ensures ∙ newline c.args.atsign) (c.run_body.ensures t)
