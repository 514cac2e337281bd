-- From what is written to the answer that the definition gives: of numbers and text, of a frame, of a line.
-- Assumes nothing.
use Prim.Native.Nat.{ℕ, ◌+◌, ◌-◌, ◌*◌, ◌/◌, ◌≤◌, ◌<◌}
use mathlib.Core.Path.{◌≡◌, refl, sym, ap, ◌∙◌}
use mathlib.Core.Bool.{Bool, true, false, cond}
use Rattle.std.specs.Prelude.{Option, None, Some}
use mathlib.Core.List.{List, ◌++◌}
use native.Mathlib.Omega.{arith}
use lib.ListN.{length, get_or, take, drop, length-drop}
use lib.Seq.{take_all, take_at}
use borrow.Author.Tests.{le-leb, lt-leb}
use Rattle.rules.specs.Answer.{Answer, answer_of, Answers}
use Rattle.rules.specs.Job.{in_pairs, frame_of, format_end, format_in, table_in, is_whole, hex_of, numbers_of, answer_bytes, no_frame, answer_frame, answer_line}
use Rattle.rules.specs.Table.{be16_at}
use Rattle.rules.proofs.AnswerBounds.{answer_within}
use Rattle.rules.proofs.JobLaws.{line_short}
use Rattle.lines.specs.Front.{over, AtFront}
use Rattle.lines.specs.Lent.{read_bytes, Decoded, frame_bytes, frame_text, line_text, FrameAnswered, LineAnswered}
use Rattle.lines.proofs.Decoding.{all_read, frame_length}
use Rattle.lines.proofs.Hexing.{front_then}

-- another name for what is written
front_as : {b a t u : List ℕ} {n : ℕ} → t ≡ u → AtFront b a t n → AtFront b a u n
front_as e w = rw e at w

-- the numbers of an answer take 26 digits
module _ (code position steps count : ℕ) {b a numbers : List ℕ} {n : ℕ}
    (e : numbers ≡ numbers_of code position steps count)
    (w : AtFront b a (take 0 b ++ hex_of numbers) n) where
  pub numbers_end : n ≡ 26
  unfolding hex_of
  numbers_end = w.count_is ∙ ap (λ (l : List ℕ). length (hex_of l)) e

  pub numbers_then : {c : List ℕ} (text : List ℕ) {m : ℕ} → AtFront a c (take n a ++ hex_of text) m
      → AtFront b c (hex_of (numbers_of code position steps count ++ text)) m
  numbers_then text v = front_as (ap (λ (l : List ℕ). hex_of (l ++ text)) e) (front_then numbers text w v)

-- a text fits its room
pub text_within : {format table before after : List ℕ} {code position steps count : ℕ}
    → Answers format table before after code position steps count → count ≤ length before
text_within {format} {table} {before} a =
    omega (arith, a.written_is, (answer_within format table (length before)).text_in_room)

end_is : (frame : List ℕ) {x y : ℕ} → x ≡ get_or frame 0 0 → y ≡ get_or frame 1 0 → 2 + x * 256 + y ≡ format_end frame
end_is frame p q = omega arith

module _ (frame : List ℕ) {b a : List ℕ} {n : ℕ} where
  -- bytes that do not hold the length, or not the whole format
  pub no_length : {text : List ℕ} → length frame < 2 → AtFront b a no_frame n → FrameAnswered frame text text b a n
  unfolding answer_frame frame_text is_whole
  no_length h w =
      let short = lt-leb 2 (length frame) h in
      record { answer = rw short w; text_is = rw short }

  module _ {x y : ℕ} (p : x ≡ get_or frame 0 0) (q : y ≡ get_or frame 1 0) (long : 2 ≤ length frame) where
    pub cut_short_lem : {text : List ℕ} → length frame < 2 + x * 256 + y → AtFront b a no_frame n
        → FrameAnswered frame text text b a n
    unfolding answer_frame frame_text is_whole
    cut_short_lem h w =
        let begun = le-leb 2 (length frame) long in
        let short = lt-leb (format_end frame) (length frame) (omega (arith, end_is frame p q)) in
        record { answer = rw (begun, short) w; text_is = rw (begun, short) }

    -- a frame, whose answer is written
    pub frame_answered : {before after : List ℕ} {code position steps count : ℕ} → 2 + x * 256 + y ≤ length frame
        → Answers (take (2 + x * 256 + y - 2) (drop 2 frame))
        (take (length frame - (2 + x * 256 + y)) (drop (2 + x * 256 + y) frame))
        before after code position steps count
        → length before ≡ 16384
        → AtFront b a (hex_of (numbers_of code position steps count ++ take count after)) n
        → FrameAnswered frame before after b a n
    unfolding answer_frame frame_text is_whole answer_bytes
    frame_answered {before} {after} {code} {position} {steps} {count} h answers room w =
        let whole : format_end frame ≤ length frame = omega (arith, end_is frame p q) in
        let size : 2 + x * 256 + y - 2 ≡ be16_at frame 0 = omega (arith, end_is frame p q) in
        let rest : take (length frame - format_end frame) (table_in frame) ≡ table_in frame =
        take_all (length frame - format_end frame) (table_in frame) (simp length-drop (omega arith))
        in
        let given : Answers (format_in frame) (table_in frame) before after code position steps count =
        rw (size, end_is frame p q, rest) at answers
        in
        let r : Answer = answer_of (format_in frame) (table_in frame) 16384 in
        let same : answer_of (format_in frame) (table_in frame) (length before) ≡ r =
        ap (answer_of (format_in frame) (table_in frame)) room in
        let counted : count ≡ length r.text = given.written_is ∙ ap (λ (z : Answer). length z.text) same in
        let left : after ≡ over r.text before =
        given.buffer_is ∙ ap (λ (z : Answer). z.text ++ drop count before) same
        ∙ ap (λ (i : ℕ). r.text ++ drop i before) counted
        in
        let text : take count after ≡ r.text =
        rw left (take_at r.text (drop (length r.text) before) count (sym counted))
        in
        let c : code ≡ r.code = given.code_is ∙ ap (λ (z : Answer). z.code) same in
        let p : position ≡ r.position = given.position_is ∙ ap (λ (z : Answer). z.position) same in
        let s : steps ≡ r.steps = given.steps_is ∙ ap (λ (z : Answer). z.steps) same in
        let begun = le-leb 2 (length frame) long in
        let all = le-leb (format_end frame) (length frame) whole in
        record {
          answer = rw (begun, all) (rw (text, c, p, s, counted) at w);
          text_is = rw (begun, all) left;
        }

-- what reading the digits answers
paired : (b : Bool) {k m : ℕ} → Some k ≡ cond b (Some m) None → (b ≡ true) × (k ≡ m)
paired true e = (refl, cc)
paired false e = cc

unpaired : (b : Bool) (m : ℕ) → None ≡ cond b (Some m) None → b ≡ false
unpaired true m e = cc
unpaired false m e = refl

module _ (line : List ℕ) {b a : List ℕ} {n : ℕ} where
  pub too_long : {frame text : List ℕ} → 65535 < length line → AtFront b a no_frame n
      → LineAnswered line frame frame text text b a n
  unfolding answer_line frame_bytes line_text
  too_long h w =
      let long = lt-leb (length line) 65535 h in
      record { answer = rw long w; frame_is = rw long; text_is = rw long }

  module _ {before frame : List ℕ} {r : Option ℕ} (h : length line ≤ 65535) (d : Decoded line before frame r) where
    pub not_digits : {text : List ℕ} → r ≡ None → AtFront b a no_frame n
        → LineAnswered line before frame text text b a n
    unfolding answer_line frame_bytes line_text
    not_digits e w =
        let fits = le-leb (length line) 65535 h in
        let f : in_pairs line ≡ false = unpaired (in_pairs line) _ (sym e ∙ d.paired_is) in
        record { answer = rw (fits, f) w; frame_is = rw fits d.frame_is; text_is = rw (fits, f) }

    pub line_answered : {text₀ text₁ : List ℕ} {k : ℕ} → r ≡ Some k
        → FrameAnswered (take k frame) text₀ text₁ b a n
        → LineAnswered line before frame text₀ text₁ b a n
    unfolding answer_line frame_bytes line_text
    line_answered {text₀} {text₁} {k} e w =
        let fits = le-leb (length line) 65535 h in
        let p = paired (in_pairs line) (sym e ∙ d.paired_is) in
        let t : in_pairs line ≡ true = p.0 in
        let read : read_bytes line ≡ frame_of line = all_read line t in
        let bytes : take k frame ≡ frame_of line =
        rw (p.1, d.frame_is, read)
        (take_at (frame_of line) (drop (length (frame_of line)) before) (length line / 2) (frame_length line t))
        in
        let v : FrameAnswered (frame_of line) text₀ text₁ b a n = rw bytes at w in
        record {
          answer = rw (fits, t) v.answer;
          frame_is = rw fits d.frame_is;
          text_is = rw (fits, t) v.text_is;
        }

-- the longest answer
pub longest_answer : (line : List ℕ) {b a : List ℕ} {n : ℕ} → AtFront b a (answer_line line) n → n ≤ 32794
longest_answer line w = omega (arith, w.count_is, line_short line)
