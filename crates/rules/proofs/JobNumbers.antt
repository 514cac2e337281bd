-- An answer's bytes and its line lose nothing of it: code, position, steps and bytes written are read back as they were,
-- and so is the text where it is made of bytes. Assumes nothing.
use Prim.Native.Nat.{ℕ, ◌+◌, ◌*◌, ◌/◌, ◌%◌, ◌<◌, ◌≤◌}
use mathlib.Core.Path.{◌≡◌, refl, sym, ap, ◌∙◌}
use mathlib.Core.Bool.{true}
use mathlib.Core.List.{List, [], ◌∷◌, ◌++◌, append-nil}
use native.Mathlib.Decide.{dec_lt}
use native.Mathlib.Omega.{arith}
use lib.ListN.{length, get_or, drop}
use borrow.Author.Tests.{lt-ltb, le-ltb, le-leb, lt-leb}
use Rattle.rules.specs.Answer.{Answer, answer_of}
use Rattle.rules.specs.Job.{digit_value, in_pairs, frame_of, format_in, table_in, is_whole, hex_of, four_bytes, numbers_of, answer_bytes, job_room, answer_frame, answer_line}
use Rattle.rules.specs.Number.{digit_byte}
use Rattle.rules.specs.Table.{be32_at}
use Rattle.rules.proofs.AnswerBounds.{answer_within}
use Rattle.rules.proofs.AnswerReports.{answer_reports, position_small}
use Rattle.rules.proofs.Bytes.{Bytes, bytes_append}

-- 1. The bytes of an answer.

-- what is read back from the bytes l is the answer a, with the text as it is given
pub record ReadBack (l : List ℕ) (a : Answer) (text : List ℕ) : Type 0 where
  pub code_is : get_or l 0 0 ≡ a.code
  pub position_is : be32_at l 1 ≡ a.position
  pub steps_is : be32_at l 5 ≡ a.steps
  pub written_is : be32_at l 9 ≡ length a.text
  pub text_is : drop 13 l ≡ text

four_back : (n : ℕ) → n < 4294967296
    → n / 16777216 % 256 * 16777216 + n / 65536 % 256 * 65536 + n / 256 % 256 * 256 + n % 256 ≡ n
four_back n h = let top : n / 16777216 % 256 ≡ n / 16777216 = omega arith in rw top (omega arith)

numbers_back : (a : Answer) (text : List ℕ)
    → a.code < 256 → a.position < 4294967296 → a.steps < 4294967296 → length a.text < 4294967296
    → ReadBack (numbers_of a.code a.position a.steps (length a.text) ++ text) a text
numbers_back a text c p s w = record {
  code_is = omega arith;
  position_is = four_back a.position p;
  steps_is = four_back a.steps s;
  written_is = four_back (length a.text) w;
  text_is = refl;
}

-- its four numbers, and then some text
abbrev numbers_in : Answer → List ℕ
numbers_in a = numbers_of a.code a.position a.steps (length a.text)

with_numbers : (format table : List ℕ) (room : ℕ) (text : List ℕ) → room < 4294967296
    → ReadBack (numbers_in (answer_of format table room) ++ text) (answer_of format table room) text
with_numbers format table room text h =
    let w = answer_within format table room in
    let r = answer_reports format table room in
    numbers_back (answer_of format table room) text (omega (arith, r.code_most)) (position_small format table room)
    (omega (arith, w.steps_in_limit)) (omega (arith, w.text_in_room))

pub answer_back : (format table : List ℕ) (room : ℕ) → room < 4294967296
    → ReadBack (answer_bytes (answer_of format table room)) (answer_of format table room) (answer_of format table room).text
unfolding answer_bytes
answer_back format table room h = with_numbers format table room (answer_of format table room).text h

-- 2. The digits of bytes.

digit_back : (n : ℕ) → n < 16 → digit_value (digit_byte n) ≡ n
unfolding digit_value
digit_back n h =
    elim (dec_lt n 10) [
      | yes k ↦ rw (lt-ltb n 10 k, le-leb 48 (48 + n) (omega arith), le-leb (48 + n) 57 (omega arith)) (omega arith)
      | no k ↦
          rw (
            le-ltb n 10 (omega arith),
            le-leb 48 (87 + n) (omega arith),
            lt-leb (87 + n) 57 (omega arith),
            le-leb 65 (87 + n) (omega arith),
            lt-leb (87 + n) 70 (omega arith),
            le-leb 97 (87 + n) (omega arith),
            le-leb (87 + n) 102 (omega arith),
          )
          (omega arith)
    ]

hex_back : (bs cs : List ℕ) → Bytes bs → frame_of (hex_of (bs ++ cs)) ≡ bs ++ frame_of (hex_of cs)
unfolding frame_of hex_of
hex_back [] cs h = refl
hex_back (b ∷ bs) cs h =
    let e : b / 16 * 16 + b % 16 ≡ b = omega arith in
    rw (digit_back (b / 16) (omega arith), digit_back (b % 16) (omega arith), e, hex_back bs cs h.1)

-- 3. The answer to a job line.

four_bytes_lem : (n : ℕ) → Bytes (four_bytes n)
four_bytes_lem n = (omega arith, (omega arith, (omega arith, (omega arith, tt))))

numbers_bytes : (code position steps written : ℕ) → Bytes (numbers_of code position steps written)
numbers_bytes code position steps written = (
  omega arith,
  bytes_append (four_bytes position) (four_bytes steps ++ four_bytes written) (four_bytes_lem position)
      (bytes_append (four_bytes steps) (four_bytes written) (four_bytes_lem steps) (four_bytes_lem written)),
)

-- a line that is a frame
pub record IsFrame (line : List ℕ) : Type 0 where
  pub short : length line ≤ 65535
  pub pairs : in_pairs line ≡ true
  pub whole : is_whole (frame_of line) ≡ true

-- the answer that the frame of a line asks for
abbrev pub answer_to : List ℕ → Answer
answer_to line = answer_of (format_in (frame_of line)) (table_in (frame_of line)) job_room

pub line_back : (line : List ℕ) → IsFrame line
    → ReadBack (frame_of (answer_line line)) (answer_to line) (frame_of (hex_of (answer_to line).text))
unfolding answer_line answer_frame answer_bytes
line_back line f =
    let a : Answer = answer_to line in
    rw (
      le-leb (length line) 65535 f.short,
      f.pairs,
      f.whole,
      hex_back (numbers_in a) a.text (numbers_bytes a.code a.position a.steps (length a.text)),
    )
    (with_numbers (format_in (frame_of line)) (table_in (frame_of line)) job_room (frame_of (hex_of a.text)) (omega arith))

-- the text too, where it is made of bytes
pub text_back : (text : List ℕ) → Bytes text → frame_of (hex_of text) ≡ text
unfolding frame_of hex_of
text_back text h = ap (λ (l : List ℕ). frame_of (hex_of l)) (sym (append-nil text)) ∙ hex_back text [] h ∙ append-nil text
