-- What the buffers that are lent for a line hold after it. Assumes nothing: these are definitions.
use Rattle.std.specs.Prelude.{ℕ, ◌+◌, ◌*◌, ◌/◌, cond, Option, None, Some, ◌≡◌, List, [], ◌∷◌, leb, length}
use Rattle.rules.specs.Answer.{answer_of}
use Rattle.rules.specs.Choice.{both}
use Rattle.rules.specs.Job.{digit_value, is_hex_digit, in_pairs, frame_of, format_in, table_in, is_whole, job_room, answer_frame, answer_line}
use Rattle.lines.specs.Front.{over, AtFront}

-- the bytes of the pairs of digits, up to the first pair that is not two digits
unfoldable pub read_bytes : List ℕ → List ℕ
read_bytes [] = []
read_bytes (x ∷ []) = []
read_bytes (x ∷ y ∷ more) =
    cond (both (is_hex_digit x) (is_hex_digit y)) ((digit_value x * 16 + digit_value y) ∷ read_bytes more) []

-- what reading the digits of a line promises: the answer is how many bytes they are, if they are digits in pairs, and
-- the frame begins with the bytes that were read
pub record Decoded (line before after : List ℕ) (answer : Option ℕ) : Type 0 where
  pub paired_is : answer ≡ cond (in_pairs line) (Some (length line / 2)) None
  pub frame_is : after ≡ over (read_bytes line) before

-- what a line leaves in the frame: nothing is read of one that is too long
unfoldable pub frame_bytes : List ℕ → List ℕ
frame_bytes line = cond (leb (length line) 65535) (read_bytes line) []

-- the text that bytes are formatted to, and none where they are no frame
unfoldable pub frame_text : List ℕ → List ℕ
frame_text frame = cond (is_whole frame) (answer_of (format_in frame) (table_in frame) job_room).text []

-- what a line leaves in the text
unfoldable pub line_text : List ℕ → List ℕ
line_text line = cond (both (leb (length line) 65535) (in_pairs line)) (frame_text (frame_of line)) []

-- what answering the bytes of a line promises of the two buffers that are lent for it
pub record FrameAnswered (frame text₀ text₁ out₀ out₁ : List ℕ) (count : ℕ) : Type 0 where
  pub answer : AtFront out₀ out₁ (answer_frame frame) count
  pub text_is : text₁ ≡ over (frame_text frame) text₀

-- what answering a line promises of the three buffers that are lent for it
pub record LineAnswered (line frame₀ frame₁ text₀ text₁ out₀ out₁ : List ℕ) (count : ℕ) : Type 0 where
  pub answer : AtFront out₀ out₁ (answer_line line) count
  pub frame_is : frame₁ ≡ over (frame_bytes line) frame₀
  pub text_is : text₁ ≡ over (line_text line) text₀
