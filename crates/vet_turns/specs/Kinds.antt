-- The tag of a kind. Assumes nothing: this is a definition.
use Rattle.std.specs.Prelude.{ℕ}
use Rattle.vet_turns.specs.declared.question.Kind.{Kind}
use Rattle.vet_turns.specs.declared.question.Kind.TheVariants.{Boolean, Integer, Character, Text, Entries}

abbrev pub tag_of_kind : Kind → ℕ
tag_of_kind Boolean = 0
tag_of_kind Integer = 1
tag_of_kind Character = 2
tag_of_kind Text = 3
tag_of_kind Entries = 4
