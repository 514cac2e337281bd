-- What a pair of decimal digits makes of a buffer. Assumes nothing: this is a definition.
use Rattle.std.specs.Prelude.{ℕ, ◌+◌, ◌/◌, ◌%◌, List, set}
use Rattle.rules.specs.Number.{digit_byte}

-- both digits, from place i on
abbrev pub pair_at : List ℕ → ℕ → ℕ → List ℕ
pair_at out i pair = set (set out (i + 1) (digit_byte (pair % 10))) i (digit_byte (pair / 10))
