-- The outcome of a whole call, by how its run stopped. Assumes nothing: these are definitions.
use Rattle.std.specs.Prelude.{ℕ, ◌-◌}
use Rattle.rules.specs.Answer.{limit}
use Rattle.rules.specs.Refusals.{code_of as refusal_code}
use Rattle.actions.specs.declared.state.Ran.{Ran}
use Rattle.actions.specs.declared.state.Stop.{Stop}
use Rattle.actions.specs.declared.state.Stop.TheVariants.{Ended, Escaped, Refused}
use Rattle.engine.specs.declared.formatting.Outcome.{Outcome}

abbrev pub code_of : Stop → ℕ
code_of Ended = 0
code_of Escaped = 0
code_of (Refused f) = refusal_code f.refusal

abbrev pub position_of : Stop → ℕ
position_of Ended = 0
position_of Escaped = 0
position_of (Refused f) = f.position

abbrev pub outcome_of : Ran → Outcome
outcome_of r = record { code = code_of r.stop; position = position_of r.stop; steps = limit - r.left; written = r.at }
