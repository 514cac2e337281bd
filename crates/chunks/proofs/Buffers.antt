-- Buffers that lines are written over, one after another. Assumes nothing.
use Prim.Native.Nat.{ℕ, ◌+◌, ◌-◌, ◌≤◌, ◌<◌, min}
use mathlib.Core.Path.{◌≡◌, refl, sym, ap, ◌∙◌}
use mathlib.Core.List.{List, [], ◌∷◌, ◌++◌, append-nil, append_assoc}
use native.Mathlib.Decide.{dec_lt}
use native.Mathlib.Omega.{arith}
use lib.ListN.{length, take, drop, set, length-append, length-take, length-drop, drop_of_length-le}
use lib.Seq.{take-append-add, drop-append-add, drop-drop, length-take-le, take_all}
use borrow.Rule.Slice.PartMut.{put_mid}
use Rattle.rules.specs.Job.{answer_line}
use Rattle.lines.specs.Front.{over, AtFront}
use Rattle.lines.specs.Lent.{frame_bytes, line_text, LineAnswered}
use Rattle.lines.proofs.Hexing.{front_next, front_join}
use Rattle.chunks.specs.Cutting.{last_line, answers_to}
use Rattle.chunks.specs.Feeding.{after_lines, Answered}
use Rattle.chunks.proofs.Cuts.{answers_append}

-- what is written lies in the buffer
pub front_within : {b a t : List ℕ} {n : ℕ} → AtFront b a t n → n ≤ length a
front_within {b} {a} {t} {n} w =
    omega (arith, w.count_is, ap length w.buffer_is, length-append t (drop n b))

pub answered_within : {lines : List (List ℕ)} {frame₀ frame₁ text₀ text₁ out₀ out₁ : List ℕ} {from to : ℕ}
    → Answered lines frame₀ frame₁ text₀ text₁ out₀ out₁ from to → to ≤ length out₁
answered_within a = front_within a.answers

-- something is written over what is no longer
drop_over : (x m : List ℕ) (k d : ℕ) → k ≡ length x + d → drop k (over x m) ≡ drop k m
drop_over x m k d e = rw e (drop-append-add x (drop (length x) m) d ∙ drop-drop d (length x) m)

pub over_twice : (x y m : List ℕ) → length x ≤ length y → over y (over x m) ≡ over y m
over_twice x y m h =
    ap (λ (l : List ℕ). y ++ l) (drop_over x m (length y) (length y - length x) (omega arith))

module _ (leaves : List ℕ → List ℕ) where
  pub after_append : (a b : List (List ℕ)) (m : List ℕ)
      → after_lines leaves (a ++ b) m ≡ after_lines leaves b (after_lines leaves a m)
  unfolding after_lines
  after_append [] b m = refl
  after_append (l ∷ a) b m = after_append a b (over (leaves l) m)

  -- one line more, of which k leaves as much
  after_next : (a : List (List ℕ)) (k l m : List ℕ) {n e : List ℕ} → leaves k ≡ leaves l → n ≡ after_lines leaves a m
      → e ≡ after_lines leaves (k ∷ []) n → e ≡ after_lines leaves (a ++ (l ∷ [])) m
  unfolding after_lines
  after_next a k l m same p q = q ∙ rw (same, p) (sym (after_append a (l ∷ []) m))

-- lines are answered, and then one more, as k is
pub answered_next : (a : List (List ℕ))
    (k l : List ℕ) {frame₀ frame frame₁ text₀ text text₁ out₀ out out₁ : List ℕ} {n m : ℕ}
    → answer_line k ≡ answer_line l → frame_bytes k ≡ frame_bytes l → line_text k ≡ line_text l
    → Answered a frame₀ frame text₀ text out₀ out 0 n → Answered (k ∷ []) frame frame₁ text text₁ out out₁ n m
    → Answered (a ++ (l ∷ [])) frame₀ frame₁ text₀ text₁ out₀ out₁ 0 m
unfolding answers_to
answered_next a k l {frame₀ = frame₀} {text₀ = text₀} {out = out} {out₁ = out₁} {n = n} {m = m} p q r s t =
    let here : AtFront out out₁ (take n out ++ answers_to (l ∷ [])) m = rw p at t.answers in
    record {
      answers = rw (answers_append a (l ∷ [])) (front_join (answers_to a) (answers_to (l ∷ [])) s.answers here);
      frame_is = after_next frame_bytes a k l frame₀ q s.frame_is t.frame_is;
      text_is = after_next line_text a k l text₀ r s.text_is t.text_is;
    }

-- a part is copied behind what is held of a line
pub held_more : (line part : List ℕ) (held count : ℕ) → held ≤ length line → count ≡ min (length part) (length line - held)
    → AtFront line (put_mid held (held + count - held) line (take count part))
    (take (length line) (take held line ++ part)) (held + count)
held_more line part held count h c =
    let front = take held line in
    let size : length front ≡ held = length-take-le held line h in
    let room = length line - held in
    let some : take room part ≡ take count part =
    elim (dec_lt (length part) room) [
      | yes p ↦ take_all room part (omega arith) ∙ sym (take_all count part (omega (arith, c)))
      | no p ↦ let same : room ≡ count = omega (arith, c) in ap (λ (n : ℕ). take n part) same
    ] in
    let reach : length line ≡ length front + room = omega (arith, size) in
    let text : take (length line) (front ++ part) ≡ front ++ take count part =
    ap (λ (n : ℕ). take n (front ++ part)) reach ∙ take-append-add front part room ∙ ap
    (λ (l : List ℕ). front ++ l) some
    in
    let counted : held + count ≡ length (front ++ take count part) =
    rw (length-append, size, length-take) (omega (arith, c))
    in
    let here : held + count - held ≡ count = omega arith in
    record {
      count_is = counted ∙ ap length (sym text);
      buffer_is =
          rw (text, here, drop-drop count held line) (sym (append_assoc front (take count part) (drop (held + count) line)));
    }

-- an answer in the part of a buffer that is lent from a place on, and its newline
module _ (out y answer : List ℕ) (at count : ℕ) (room : at + count < length out)
    (w : AtFront (take (length out - at) (drop at out)) y answer count) where
  lent_back : AtFront out (put_mid at (length out - at) out y) (take at out ++ answer) (at + count)
  lent_back =
      let part : take (length out - at) (drop at out) ≡ drop at out =
      take_all (length out - at) (drop at out) (rw length-drop (omega arith))
      in
      let none : drop (length out - at) (drop at out) ≡ [] =
      drop_of_length-le (drop at out) {i = length out - at} (rw length-drop (omega arith))
      in
      let is : y ≡ answer ++ drop (at + count) out =
      w.buffer_is ∙ ap (λ (l : List ℕ). answer ++ drop count l) part ∙ ap (λ (l : List ℕ). answer ++ l)
      (drop-drop count at out)
      in
      record {
        count_is = rw (length-append, length-take-le at out (omega arith), ← w.count_is);
        buffer_is =
            ap (λ (l : List ℕ). take at out ++ (y ++ l)) none ∙ ap (λ (l : List ℕ). take at out ++ l)
            (append-nil y ∙ is)
            ∙ sym (append_assoc (take at out) answer (drop (at + count) out));
      }

  pub with_newline : AtFront out (set (put_mid at (length out - at) out y) (at + count) 10)
      (take at out ++ (answer ++ (10 ∷ []))) (at + count + 1)
  with_newline = rw append_assoc at (front_next 10 lent_back room)

pub line_added : {line frame₀ frame₁ text₀ text₁ y : List ℕ} {count : ℕ} (out : List ℕ) (at : ℕ)
    → at + count < length out
    → LineAnswered line frame₀ frame₁ text₀ text₁ (take (length out - at) (drop at out)) y count
    → Answered (line ∷ []) frame₀ frame₁ text₀ text₁ out (set (put_mid at (length out - at) out y) (at + count) 10) at
    (at + count + 1)
unfolding answers_to after_lines
line_added {line} {y = y} {count = count} out at room a =
    record {
      answers = with_newline out y (answer_line line) at count room a.answer;
      frame_is = a.frame_is;
      text_is = a.text_is;
    }

-- a last line: none, and one
pub last_none : (line : List ℕ) {frame text out : List ℕ} → length line ≡ 0
    → Answered (last_line line) frame frame text text out out 0 0
unfolding last_line answers_to after_lines
last_none [] e = record { answers = record { count_is = refl; buffer_is = refl }; frame_is = refl; text_is = refl }
last_none (b ∷ more) e = absurd (omega arith)

pub last_one : (line : List ℕ) → (length line ≡ 0 → ⊥) → last_line line ≡ line ∷ []
unfolding last_line
last_one [] h = absurd (h refl)
last_one (b ∷ more) h = refl
