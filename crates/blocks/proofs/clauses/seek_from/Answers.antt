-- `seek_from` meets its contract. Assumes nothing.
use Rattle.std.proofs.Common.{ℕ, sym, ap, ◌∙◌, is_some}
use Rattle.blocks.specs.Clauses.{fallen_back}
use Rattle.blocks.proofs.ClauseLaws.{seek_here, seek_last}
use Rattle.blocks.proofs.LandmarkLaws.{ends_it}
use Rattle.blocks.proofs.clauses.seek_from.Goals as goal

pub returns-then-eq : goal.returns-then-eq
returns-then-eq c = λ i w s. rw c.from-place.ensures (seek_here s (sym c.if-eq.ensures))

pub returns-then-is_some : goal.returns-then-is_some
returns-then-is_some c =
    let a = c.args in
    λ i w s. seek_last s (sym c.if-eq.ensures) (ends_it a.l c.requires (ap is_some (sym c.end.ensures) ∙ sym c.if-is_some.ensures))
    (c.fall_back.ensures ∙ ap (λ (z : ℕ). fallen_back z a.sought.fallback a.l.colon) c.from-place.ensures)
