-- A conditional is opened at the clause that runs, passed by, or refused. Assumes nothing.
use mathlib.Core.Path.{◌≡◌, subst}
use Rattle.std.proofs.Common.{rules, Ok}
use Rattle.blocks.specs.declared.clauses.Chosen.TheVariants.{At, Nothing}
use Rattle.blocks.specs.Clauses.{Chooses}
use Rattle.nesting.proofs.OpenLaws.{ready_hand, clause_fits, conditional_wrong, conditional_none, conditional_on}
use Rattle.nesting.proofs.moves.open_conditional.Goals as goal

pub choose_clause-requires-clause-in_hand : goal.choose_clause-requires-clause-in_hand
choose_clause-requires-clause-in_hand c = let a = c.args in ready_hand a.inputs.text.now a.inputs.table.now a.here a.nest a.d c.requires.ready

pub choose_clause-requires-clause-after_in_bounds : goal.choose_clause-requires-clause-after_in_bounds
choose_clause-requires-clause-after_in_bounds c = c.requires.ready.inside

pub pushed-requires-clause-depth_bound : goal.pushed-requires-clause-depth_bound
pushed-requires-clause-depth_bound c = c.requires.ready.level

pub pushed-requires-clause-fits : goal.pushed-requires-clause-fits
pushed-requires-clause-fits c =
    let a = c.args in
    clause_fits a.inputs.text.now a.inputs.table.now a.here a.nest a.d c.requires.ready a.settled.settings a.settled.next c.requires.next_le_count (let is : c.choose_clause.result ≡ Ok (At c.in-Ok-At.place c.in-Ok-At.next) = search rules in subst (Chooses a.inputs.text.now a.inputs.table.now a.here.hand a.d a.settled.settings a.settled.next.0) is c.choose_clause.ensures)

pub block_end-place-requires-clause-inside_at : goal.block_end-place-requires-clause-inside_at
block_end-place-requires-clause-inside_at c =
    let a = c.args in
    (let is : c.choose_clause.result ≡ Ok (Nothing c.in-Ok-Nothing.inside c.in-Ok-Nothing.next) = search rules in subst (Chooses a.inputs.text.now a.inputs.table.now a.here.hand a.d a.settled.settings a.settled.next.0) is c.choose_clause.ensures).inside.0

pub returns-in-Ok-At : goal.returns-in-Ok-At
returns-in-Ok-At c =
    let a = c.args in
    λ j. conditional_on a.inputs.text.now a.inputs.table.now a.here a.nest a.d c.requires.ready a.settled.settings a.settled.next c.requires.next_le_count (let is : c.choose_clause.result ≡ Ok (At c.in-Ok-At.place c.in-Ok-At.next) = search rules in subst (Chooses a.inputs.text.now a.inputs.table.now a.here.hand a.d a.settled.settings a.settled.next.0) is c.choose_clause.ensures) j c.pushed.ensures.pushes c.on.ensures

pub returns-in-Ok-Nothing : goal.returns-in-Ok-Nothing
returns-in-Ok-Nothing c =
    let a = c.args in
    λ j. conditional_none a.inputs.text.now a.inputs.table.now a.here a.nest a.d c.requires.ready a.settled.settings a.settled.next c.requires.next_le_count j (let is : c.choose_clause.result ≡ Ok (Nothing c.in-Ok-Nothing.inside c.in-Ok-Nothing.next) = search rules in subst (Chooses a.inputs.text.now a.inputs.table.now a.here.hand a.d a.settled.settings a.settled.next.0) is c.choose_clause.ensures) c.block_end-place.ensures c.on-in-Ok-Nothing.ensures

pub returns-in-Err : goal.returns-in-Err
returns-in-Err c =
    let a = c.args in
    λ j. conditional_wrong a.inputs.text.now a.inputs.table.now a.here a.nest a.d c.requires.ready a.settled.settings a.settled.next c.requires.next_le_count j c.in-Err.ensures c.refused.ensures
