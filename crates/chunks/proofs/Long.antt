-- A line that is held to its first bytes, if there are more than a line may have, is answered as it would be whole.
-- Assumes nothing.
use Prim.Native.Nat.{ℕ, zero, suc, ◌<◌}
use mathlib.Core.Path.{◌≡◌, refl, sym, ap, ◌∙◌}
use mathlib.Core.List.{List, [], ◌∷◌, ◌++◌}
use native.Mathlib.Decide.{dec_lt, ℕ_discrete as dec_eq}
use native.Mathlib.Omega.{arith}
use lib.ListN.{length, take, length-take}
use lib.Seq.{length-take-le, take_all}
use borrow.Author.Tests.{lt-leb}
use Rattle.rules.specs.Job.{no_frame, answer_line}
use Rattle.lines.specs.Lent.{frame_bytes, line_text}
use Rattle.chunks.specs.Cutting.{ended_lines, begun_line, last_line, answers_to}
use Rattle.chunks.proofs.Cuts.{ended_newline, ended_other, begun_newline, begun_other}

long_answer : (l : List ℕ) → 65535 < length l → answer_line l ≡ no_frame
unfolding answer_line
long_answer l h = rw (lt-leb (length l) 65535 h)

long_frame : (l : List ℕ) → 65535 < length l → frame_bytes l ≡ []
unfolding frame_bytes
long_frame l h = rw (lt-leb (length l) 65535 h)

long_text : (l : List ℕ) → 65535 < length l → line_text l ≡ []
unfolding line_text
long_text l h = rw (lt-leb (length l) 65535 h)

pub cut_twice : (n : ℕ) (a b : List ℕ) → take n (take n a ++ b) ≡ take n (a ++ b)
cut_twice zero a b = refl
cut_twice (suc n) [] b = refl
cut_twice (suc n) (x ∷ a) b = ap (λ (l : List ℕ). x ∷ l) (cut_twice n a b)

module _ (size : ℕ) (long : 65535 < size) where
  same_cut : (f : List ℕ → List ℕ) (c : List ℕ) → ((l : List ℕ) → 65535 < length l → f l ≡ c) → (l : List ℕ)
      → f (take size l) ≡ f l
  same_cut f c all l =
      elim (dec_lt size (length l)) [
        | yes h ↦
            all (take size l) (omega (arith, length-take-le size l (omega arith))) ∙ sym (all l (omega arith))
        | no h ↦ ap f (take_all size l (omega arith))
      ]

  pub answer_cut : (l : List ℕ) → answer_line (take size l) ≡ answer_line l
  answer_cut = same_cut answer_line no_frame long_answer

  pub frame_cut : (l : List ℕ) → frame_bytes (take size l) ≡ frame_bytes l
  frame_cut = same_cut frame_bytes [] long_frame

  pub text_cut : (l : List ℕ) → line_text (take size l) ≡ line_text l
  text_cut = same_cut line_text [] long_text

  -- two beginnings of a line that are the same as far as they are held
  longer : (g h : List ℕ) → take size g ≡ take size h → (p : List ℕ) → take size (g ++ p) ≡ take size (h ++ p)
  longer g h e p =
      sym (cut_twice size g p) ∙ ap (λ (l : List ℕ). take size (l ++ p)) e ∙ cut_twice size h p

  same_answer : (g h : List ℕ) → take size g ≡ take size h → answer_line g ≡ answer_line h
  same_answer g h e = sym (answer_cut g) ∙ ap answer_line e ∙ answer_cut h

  pub begun_cut : (g h : List ℕ) → take size g ≡ take size h → (p : List ℕ)
      → take size (begun_line g p) ≡ take size (begun_line h p)
  unfolding begun_line
  begun_cut g h e [] = e
  begun_cut g h e (x ∷ p) =
      elim (dec_eq x 10) [
        | yes n ↦ rw (begun_newline x p g n, begun_newline x p h n)
        | no n ↦
            rw (begun_other x p g n, begun_other x p h n)
            (begun_cut (g ++ (x ∷ [])) (h ++ (x ∷ [])) (longer g h e (x ∷ [])) p)
      ]

  pub ended_cut : (g h : List ℕ) → take size g ≡ take size h → (p : List ℕ)
      → answers_to (ended_lines g p) ≡ answers_to (ended_lines h p)
  unfolding ended_lines answers_to
  ended_cut g h e [] = refl
  ended_cut g h e (x ∷ p) =
      elim (dec_eq x 10) [
        | yes n ↦ rw (ended_newline x p g n, ended_newline x p h n, same_answer g h e)
        | no n ↦
            rw (ended_other x p g n, ended_other x p h n)
            (ended_cut (g ++ (x ∷ [])) (h ++ (x ∷ [])) (longer g h e (x ∷ [])) p)
      ]

  pub last_cut : (g h : List ℕ) → take size g ≡ take size h → answers_to (last_line g) ≡ answers_to (last_line h)
  unfolding last_line answers_to
  last_cut [] [] e = refl
  last_cut [] (y ∷ h) e =
      absurd (omega (arith, length-take {A = ℕ} size [], length-take size (y ∷ h), ap length e))
  last_cut (x ∷ g) [] e =
      absurd (omega (arith, length-take size (x ∷ g), length-take {A = ℕ} size [], ap length e))
  last_cut (x ∷ g) (y ∷ h) e = rw (same_answer (x ∷ g) (y ∷ h) e)
