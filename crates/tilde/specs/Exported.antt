-- The answer of a vet out of the numbers that the exported call gives. Assumes nothing: this is a definition.
use Rattle.std.specs.Prelude.{ℕ}
use Rattle.vet_rules.specs.Vet.{Vetted}

abbrev pub vetted : ℕ → ℕ → ℕ → Vetted
vetted code position count = record { code = code; position = position; count = count }
