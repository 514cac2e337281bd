-- Taking a chunk line by line: what has been taken, and one line more or what there is of one. Assumes nothing.
use Prim.Native.Nat.{ℕ, suc, ◌+◌, ◌-◌, ◌≤◌, ◌<◌}
use mathlib.Core.Path.{◌≡◌, refl, sym, ap, ◌∙◌}
use mathlib.Core.List.{List, [], ◌∷◌, ◌++◌, append-nil}
use native.Mathlib.Decide.{dec_lt}
use native.Mathlib.Omega.{arith}
use lib.ListN.{length, take, drop, length-append, length-take, length-drop, take-append-drop}
use lib.Seq.{take-add, take_all, take_at, take-nil}
use Rattle.lines.specs.Front.{over, AtFront}
use Rattle.chunks.specs.Cutting.{line_in, ended_lines, begun_line, answers_to}
use Rattle.chunks.specs.Feeding.{after_lines, Answered, Taken, FarEnough}
use Rattle.chunks.proofs.Cuts.{line_within, ended_append, begun_append, cut_off, line_ends}
use Rattle.chunks.proofs.Long.{cut_twice, answer_cut, frame_cut, text_cut}
use Rattle.chunks.proofs.Buffers.{answered_within, over_twice, after_append, answered_next}

-- nothing is taken yet
pub take_none : (line frame text out : List ℕ) (held : ℕ) → held ≤ length line
    → Taken [] (take held line) line line frame frame text text out out held 0
unfolding ended_lines begun_line answers_to after_lines
take_none line frame text out held h =
    let whole : take (length line) (take held line) ≡ take held line =
    take_all (length line) (take held line) (rw length-take (omega arith))
    in
    let size : held ≡ length (take held line) = rw length-take (omega arith) in
    record {
      answered = record { answers = record { count_is = refl; buffer_is = refl }; frame_is = refl; text_is = refl };
      held_is = rw whole size;
      line_is = rw (whole, ← size) (sym (take-append-drop held line));
    }

module _ {P begun line₀ line frame₀ frame text₀ text out₀ out : List ℕ} {kept filled : ℕ}
    (t : Taken P begun line₀ line frame₀ frame text₀ text out₀ out kept filled) where
  -- what is counted is there
  pub held_within : kept ≤ length line₀
  held_within = omega (arith, t.held_is, length-take (length line₀) (begun_line begun P))

  pub filled_within : filled ≤ length out
  filled_within = answered_within t.answered

  -- the buffer as it was before the line that is held
  stands : line ≡ over (take (length line₀) (begun_line begun P))
      (after_lines (take (length line₀)) (ended_lines begun P) line₀)
  unfolding after_lines
  stands = t.line_is ∙ after_append (take (length line₀)) (ended_lines begun P) (begun_line begun P ∷ []) line₀

  pub held_bytes : take kept line ≡ take (length line₀) (begun_line begun P)
  held_bytes = ap (take kept) stands ∙ take_at (take (length line₀) (begun_line begun P)) _ kept (sym t.held_is)

  -- a part is held too
  module _ (p : List ℕ) {line₁ : List ℕ} {kept₁ : ℕ} (same : length line ≡ length line₀)
      (w : AtFront line line₁ (take (length line) (take kept line ++ p)) kept₁) where
    held_more : AtFront line line₁ (take (length line₀) (begun_line begun P ++ p)) kept₁
    held_more =
        let e : take (length line) (take kept line ++ p) ≡ take (length line₀) (begun_line begun P ++ p) =
        rw (same, held_bytes) (cut_twice (length line₀) (begun_line begun P) p)
        in
        rw e at w

    stands_more : line₁ ≡ over (take (length line₀) (begun_line begun P ++ p))
        (after_lines (take (length line₀)) (ended_lines begun P) line₀)
    stands_more =
        let size = length line₀ in
        let held = begun_line begun P in
        let m = after_lines (take size) (ended_lines begun P) line₀ in
        let fits : length (take size held) ≤ length (take size (held ++ p)) =
        simp (length-take, length-append) (omega arith)
        in
        held_more.buffer_is
        ∙ ap (λ (n : ℕ). take size (held ++ p) ++ drop n line) held_more.count_is
        ∙ ap (over (take size (held ++ p))) stands
        ∙ over_twice (take size held) (take size (held ++ p)) m fits

-- where a line ends
pub end_within : (chunk : List ℕ) (from end : ℕ) → from ≤ length chunk
    → end ≡ from + length (line_in (drop from chunk)) → end ≤ length chunk
end_within chunk from end h e = omega (arith, line_within (drop from chunk), length-drop from chunk)

module _ (chunk : List ℕ) (from end : ℕ) {begun line₀ line frame₀ frame text₀ text out₀ out : List ℕ} {kept filled : ℕ}
    (within : from ≤ length chunk) (same : length line ≡ length line₀)
    (t : Taken (take from chunk) begun line₀ line frame₀ frame text₀ text out₀ out kept filled)
    (at : end ≡ from + length (line_in (drop from chunk)))
    {line₁ : List ℕ} {kept₁ : ℕ}
    (w : AtFront line line₁ (take (length line) (take kept line ++ take (end - from) (drop from chunk))) kept₁) where
  -- the chunk ends in a line
  pub take_rest : end ≡ length chunk → Taken
      (take end chunk) begun line₀ line₁ frame₀ frame text₀ text out₀ out kept₁ filled
  unfolding after_lines
  take_rest z =
      let size = length line₀ in
      let P = take from chunk in
      let s = drop from chunk in
      let E = ended_lines begun P in
      let R = begun_line begun P in
      let left = length-drop from chunk in
      let n = length (line_in s) in
      let all : take (end - from) s ≡ s = take_all (end - from) s (omega (arith, left)) in
      let some : take n s ≡ s = take_all n s (omega (arith, left, at)) in
      let whole : take end chunk ≡ P ++ s = rw (at, take-add from n chunk, some) in
      let c = cut_off R s (omega (arith, left, at)) in
      let E₁ : ended_lines begun (take end chunk) ≡ E =
      ap (ended_lines begun) whole ∙ ended_append begun P s ∙ ap (λ (l : List (List ℕ)). E ++ l) c.ended
      ∙ append-nil E
      in
      let R₁ : begun_line begun (take end chunk) ≡ R ++ s =
      ap (begun_line begun) whole ∙ begun_append begun P s ∙ c.begun
      in
      let held : AtFront line line₁ (take size (R ++ s)) kept₁ = rw all at (held_more t (take (end - from) s) same w) in
      let now : line₁ ≡ over (take size (R ++ s)) (after_lines (take size) E line₀) =
      rw all at (stands_more t (take (end - from) s) same w)
      in
      record {
        answered = rw E₁ t.answered;
        held_is = rw R₁ held.count_is;
        line_is = rw (E₁, R₁) (now ∙ sym (after_append (take size) E ((R ++ s) ∷ []) line₀));
      }

  -- a line ends in the chunk, and is answered
  pub take_line : {frame₁ text₁ out₁ : List ℕ} {filled₁ : ℕ} → 65535 < length line₀ → (end ≡ length chunk → ⊥)
      → Answered (take kept₁ line₁ ∷ []) frame frame₁ text text₁ out out₁ filled filled₁
      → Taken (take (end + 1) chunk) begun line₀ line₁ frame₀ frame₁ text₀ text₁ out₀ out₁ 0 filled₁
  unfolding after_lines
  take_line {frame₁} {text₁} {out₁} {filled₁} long inside a =
      let size = length line₀ in
      let P = take from chunk in
      let s = drop from chunk in
      let E = ended_lines begun P in
      let R = begun_line begun P in
      let left = length-drop from chunk in
      let n = length (line_in s) in
      let here : n < length s = omega (arith, left, at, end_within chunk from end within at) in
      let reach : end + 1 ≡ from + suc n = omega (arith, at) in
      let size_is : end - from ≡ n = omega (arith, at) in
      let whole : take (end + 1) chunk ≡ P ++ take (suc n) s = rw (reach, take-add from (suc n) chunk) in
      let c = line_ends R s n refl here in
      let l = R ++ take n s in
      let E₁ : ended_lines begun (take (end + 1) chunk) ≡ E ++ (l ∷ []) =
      ap (ended_lines begun) whole ∙ ended_append begun P (take (suc n) s) ∙ ap (λ (k : List (List ℕ)). E ++ k)
      c.ended
      in
      let R₁ : begun_line begun (take (end + 1) chunk) ≡ [] =
      ap (begun_line begun) whole ∙ begun_append begun P (take (suc n) s) ∙ c.begun in
      let held : AtFront line line₁ (take size l) kept₁ = rw size_is at (held_more t (take (end - from) s) same w) in
      let now : line₁ ≡ over (take size l) (after_lines (take size) E line₀) =
      rw size_is at (stands_more t (take (end - from) s) same w)
      in
      let k : take kept₁ line₁ ≡ take size l =
      rw now (take_at (take size l) _ kept₁ (sym held.count_is))
      in
      let b : Answered (take size l ∷ []) frame frame₁ text text₁ out out₁ filled filled₁ = rw k at a in
      record {
        answered = rw E₁ (answered_next E (take size l) l (answer_cut size long l) (frame_cut size long l)
            (text_cut size long l) t.answered b);
        held_is = rw (R₁, take-nil size);
        line_is =
            rw (
              E₁,
              R₁,
              after_append (take size) (E ++ (l ∷ [])) ([] ∷ []) line₀,
              after_append (take size) E
                  (l ∷ []) line₀,
              take-nil size,
            ) now;
      }

-- where the taking stops: for want of room, and at the end of the chunk
module _ (chunk : List ℕ) (from : ℕ) {begun line₀ line frame₀ frame text₀ text out₀ out : List ℕ} {kept filled : ℕ}
    (within : from ≤ length chunk) (enough : 32795 ≤ length out₀)
    (t : Taken (take from chunk) begun line₀ line frame₀ frame text₀ text out₀ out kept filled) where
  none_yet : from ≡ 0 → filled ≡ 0
  unfolding ended_lines answers_to
  none_yet e = rw e at t.answered.answers.count_is

  pub far_full : length out₀ - filled < 32795 → FarEnough chunk out₀ from filled
  far_full h =
      record {
        within = within;
        forth = λ _. elim (dec_lt 0 from) [ yes p ↦ p | no p ↦ absurd (omega (arith, none_yet (omega arith))) ];
        full = λ _. omega arith;
      }

  pub far_all : length chunk ≤ from → FarEnough chunk out₀ from filled
  far_all h = record { within = within; forth = λ p. omega arith; full = λ p. absurd (omega arith) }
