-- How a check ends, in 01's numbers: all is well, or the first fault has this code and position. Assumes nothing: these
-- are definitions.
use Rattle.std.specs.Prelude.{ℕ, Result, Ok, Err, ⊤}
use Rattle.rules.specs.Refusals.{code_of}
use Rattle.rules.specs.declared.refusal.Fault.{Fault}

pub data Verdict : Type 0 where
  Accepted : Verdict
  Refused : ℕ → ℕ → Verdict

-- what the answer of a check says
abbrev pub verdict_as : Result ⊤ Fault → Verdict
verdict_as (Ok u) = Accepted
verdict_as (Err f) = Refused (code_of f.refusal) f.position
