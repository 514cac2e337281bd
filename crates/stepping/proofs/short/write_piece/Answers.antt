-- `write_piece` meets its contract: the settings and the form are those that were read. Assumes nothing.
use Rattle.std.proofs.Common.{rules}
use Rattle.parameters.specs.Settling.{hand_at}
use Rattle.rules.specs.Table.{view_of}
use Rattle.stepping.proofs.ShortRuns.{writes_as}
use mathlib.Core.Path.{◌≡◌, refl}
use Rattle.stepping.proofs.short.write_piece.Goals as goal

pub returns-clause-writes : goal.returns-clause-writes
returns-clause-writes c =
    let a = c.args in
    let byte : c.map.result ≡ a.short.byte = search rules in
    λ d q w. writes_as (view_of a.table.now) (hand_at a.hand 0) a.i.0 a.hand.count a.spot d _ _ _ c.form-form.ensures refl byte (c.write_form.ensures.writes d q w)
