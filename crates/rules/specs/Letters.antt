-- Bytes, written as the letters that they are, and tables of letters. Assumes nothing: these are definitions.
use Rattle.std.specs.Prelude.{ℕ, cond, List, [], ◌∷◌, eqb}
use Prim.Native.Char.{Char, code}
use Prim.Native.String.{String, [] as empty, ◌∷◌ as ◌then◌}

abbrev pub letter : Char → ℕ
letter c = code c

abbrev pub bytes : String → List ℕ
bytes empty = []
bytes (c then s) = code c ∷ bytes s

-- what a table has for a byte, or another where it has none
abbrev pub look_up : {A : Type 0} → List (ℕ × A) → A → ℕ → A
look_up [] other b = other
look_up (x ∷ xs) other b = cond (eqb b x.0) x.1 (look_up xs other b)
