-- Texts before padding that the code makes in one go. Assumes nothing: these are definitions.
use Rattle.std.specs.Prelude.{ℕ, Bool, cond, List, [], ◌∷◌, ◌++◌, ltb, eqb, ℤ}
use Rattle.rules.specs.Letters.{letter}
use Rattle.rules.specs.Number.{digits_of, grouped, magnitude_of, sign_of}

-- the text of a number before padding; a width of 0 is no groups
abbrev pub number_of : ℕ → Bool → ℕ → ℕ → ℤ → List ℕ
number_of base plus width comma z =
    sign_of plus z
    ++ cond (eqb width 0) (digits_of base (magnitude_of z)) (grouped width comma (digits_of base (magnitude_of z)))

-- the written form of a character that has no name
abbrev pub unnamed_of : ℕ → List ℕ
unnamed_of c = letter "#" ∷ letter "\\" ∷ cond (ltb c 32) (letter "x" ∷ digits_of 16 c) (c ∷ [])
