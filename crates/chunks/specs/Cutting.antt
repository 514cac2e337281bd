-- The lines of an input, and the answers to them. Assumes nothing: these are definitions.
use Rattle.std.specs.Prelude.{ℕ, cond, List, [], ◌∷◌, ◌++◌, eqb, take}
use Rattle.rules.specs.Letters.{letter}
use Rattle.rules.specs.Job.{answer_line}

-- the bytes before the first newline
unfoldable pub line_in : List ℕ → List ℕ
line_in [] = []
line_in (b ∷ more) = cond (eqb b (letter "\n")) [] (b ∷ line_in more)

-- the lines that end in some bytes, where the first of them has begun with `begun`
unfoldable pub ended_lines : List ℕ → List ℕ → List (List ℕ)
ended_lines begun [] = []
ended_lines begun (b ∷ more) =
    cond (eqb b (letter "\n")) (begun ∷ ended_lines [] more) (ended_lines (begun ++ (b ∷ [])) more)

-- and what has come of the line after those
unfoldable pub begun_line : List ℕ → List ℕ → List ℕ
begun_line begun [] = begun
begun_line begun (b ∷ more) = cond (eqb b (letter "\n")) (begun_line [] more) (begun_line (begun ++ (b ∷ [])) more)

-- "a last line may lack its newline"
unfoldable pub last_line : List ℕ → List (List ℕ)
last_line [] = []
last_line (b ∷ more) = (b ∷ more) ∷ []

-- the lines of a whole input
unfoldable pub lines_of : List ℕ → List (List ℕ)
lines_of input = ended_lines [] input ++ last_line (begun_line [] input)

-- the answers to lines, each with its newline
unfoldable pub answers_to : List (List ℕ) → List ℕ
answers_to [] = []
answers_to (line ∷ more) = answer_line line ++ (letter "\n" ∷ answers_to more)

-- what is written for an input that comes in chunks, where at most `size` bytes are held of a line that one cuts off
unfoldable pub answers_in : ℕ → List ℕ → List (List ℕ) → List ℕ
answers_in size begun [] = answers_to (last_line begun)
answers_in size begun (chunk ∷ more) =
    answers_to (ended_lines begun chunk) ++ answers_in size (take size (begun_line begun chunk)) more
