-- Small inputs, cut into their lines by the definition. Assumes nothing.
use mathlib.Core.Path.{◌≡◌, refl}
use mathlib.Core.List.{[], ◌∷◌}
use Rattle.rules.specs.Letters.{bytes}
use Rattle.chunks.specs.Cutting.{ended_lines, begun_line, last_line, lines_of}

no_input : lines_of [] ≡ []
unfolding lines_of ended_lines begun_line last_line
no_input = refl

-- an empty line ends at once
empty_line : lines_of (bytes "\n") ≡ [] ∷ []
unfolding lines_of ended_lines begun_line last_line
empty_line = refl

-- "a last line may lack its newline"
last_lacks : lines_of (bytes "a\nb") ≡ bytes "a" ∷ bytes "b" ∷ []
unfolding lines_of ended_lines begun_line last_line
last_lacks = refl

last_ends : lines_of (bytes "a\nb\n") ≡ bytes "a" ∷ bytes "b" ∷ []
unfolding lines_of ended_lines begun_line last_line
last_ends = refl
