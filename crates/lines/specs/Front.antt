-- What writing at the front of a lent buffer promises. Assumes nothing: these are definitions.
use Rattle.std.specs.Prelude.{ℕ, ◌≡◌, List, ◌++◌, length, drop}

-- a buffer that begins with `text`, and beyond it is as it came
abbrev pub over : List ℕ → List ℕ → List ℕ
over text buffer = text ++ drop (length text) buffer

-- the buffer, which was `before` and is `after`, begins with `text`, of so many bytes, and beyond it is as it came
pub record AtFront (before after text : List ℕ) (count : ℕ) : Type 0 where
  pub count_is : count ≡ length text
  pub buffer_is : after ≡ text ++ drop count before
