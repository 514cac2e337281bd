-- A parameter that is worked out: absent, or its number. Assumes nothing: this is a definition.
use Rattle.std.specs.Prelude.{ℕ, Option}

abbrev pub Setting : Type 0
Setting = Option ℕ
