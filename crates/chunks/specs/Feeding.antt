-- What answering lines promises of the buffers that are lent for them. Assumes nothing: these are definitions.
use Rattle.std.specs.Prelude.{ℕ, ◌+◌, ◌≤◌, ◌<◌, ◌≡◌, List, [], ◌∷◌, ◌++◌, length, take}
use Rattle.lines.specs.Front.{over, AtFront}
use Rattle.lines.specs.Lent.{frame_bytes, line_text}
use Rattle.chunks.specs.Cutting.{ended_lines, begun_line, answers_to}

-- a buffer after lines, each of which leaves some bytes at its front
unfoldable pub after_lines : (List ℕ → List ℕ) → List (List ℕ) → List ℕ → List ℕ
after_lines leaves [] buffer = buffer
after_lines leaves (line ∷ more) buffer = after_lines leaves more (over (leaves line) buffer)

-- the answers to the lines stand in `out` from one place to another
pub record Answered (lines : List (List ℕ)) (frame₀ frame₁ text₀ text₁ out₀ out₁ : List ℕ) (from to : ℕ) : Type 0 where
  pub answers : AtFront out₀ out₁ (take from out₀ ++ answers_to lines) to
  pub frame_is : frame₁ ≡ after_lines frame_bytes lines frame₀
  pub text_is : text₁ ≡ after_lines line_text lines text₀

-- the bytes `part` are taken, after the `begun` of a line: the lines that end in them are answered, and what there
-- is of the next one is held, as far as there is room for it. Every line goes by way of the buffer `line`
pub record Taken (part begun line₀ line₁ frame₀ frame₁ text₀ text₁ out₀ out₁ : List ℕ) (held filled : ℕ) : Type 0 where
  pub answered : Answered (ended_lines begun part) frame₀ frame₁ text₀ text₁ out₀ out₁ 0 filled
  pub held_is : held ≡ length (take (length line₀) (begun_line begun part))
  pub line_is : line₁ ≡ after_lines (take (length line₀)) (ended_lines begun part ++ (begun_line begun part ∷ [])) line₀

-- How much of a chunk is taken at a time is left to the program: something if there is anything, and all of it
-- unless the answers leave no room in `out` for the longest one and its newline
pub record FarEnough (chunk out : List ℕ) (taken filled : ℕ) : Type 0 where
  pub within : taken ≤ length chunk
  pub forth : 0 < length chunk → 0 < taken
  pub full : taken < length chunk → length out < filled + 32795

-- so many bytes at the front of `line` are what has come of a line, as far as there is room for it
pub record Holds (line begun : List ℕ) (held : ℕ) : Type 0 where
  pub held_is : held ≡ length (take (length line) begun)
  pub bytes_are : take held line ≡ take (length line) begun
