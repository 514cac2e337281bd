-- Where lines end: over bytes that come one after another, at a newline, and without one. Assumes nothing.
use Prim.Native.Nat.{ℕ, zero, suc, ◌-◌, ◌≤◌, ◌<◌}
use mathlib.Core.Path.{◌≡◌, refl, sym, ap, ◌∙◌}
use mathlib.Core.Bool.{Bool, true, false, cond}
use lib.Dec.{eqb}
use Rattle.std.specs.Prelude.{None, Some, position}
use Rattle.std.specs.List.{position_or_len}
use mathlib.Core.List.{List, [], ◌∷◌, ◌++◌, append-nil, append_assoc}
use native.Mathlib.Decide.{ℕ_discrete as dec_eq}
use native.Mathlib.Omega.{arith}
use lib.ListN.{length, take, drop, length-drop}
use lib.Seq.{append_snoc, take_all}
use borrow.Author.Tests.{eq-eqb, ne_eqb, ltb-false}
use Rattle.rules.specs.Job.{answer_line}
use Rattle.chunks.specs.Cutting.{line_in, ended_lines, begun_line, answers_to}

-- a newline, and another byte
module _ (x : ℕ) (s : List ℕ) where
  pub line_newline : x ≡ 10 → line_in (x ∷ s) ≡ []
  unfolding line_in
  line_newline e = rw (eq-eqb x 10 e)

  pub line_other : (x ≡ 10 → ⊥) → line_in (x ∷ s) ≡ x ∷ line_in s
  unfolding line_in
  line_other n = rw (ne_eqb x 10 n)

  module _ (g : List ℕ) where
    pub ended_newline : x ≡ 10 → ended_lines g (x ∷ s) ≡ g ∷ ended_lines [] s
    unfolding ended_lines
    ended_newline e = rw (eq-eqb x 10 e)

    pub ended_other : (x ≡ 10 → ⊥) → ended_lines g (x ∷ s) ≡ ended_lines (g ++ (x ∷ [])) s
    unfolding ended_lines
    ended_other n = rw (ne_eqb x 10 n)

    pub begun_newline : x ≡ 10 → begun_line g (x ∷ s) ≡ begun_line [] s
    unfolding begun_line
    begun_newline e = rw (eq-eqb x 10 e)

    pub begun_other : (x ≡ 10 → ⊥) → begun_line g (x ∷ s) ≡ begun_line (g ++ (x ∷ [])) s
    unfolding begun_line
    begun_other n = rw (ne_eqb x 10 n)

pub line_within : (s : List ℕ) → length (line_in s) ≤ length s
unfolding line_in
line_within [] = omega arith
line_within (x ∷ s) =
    elim (dec_eq x 10) [
      | yes e ↦ rw (line_newline x s e) (omega arith)
      | no n ↦ rw (line_other x s n) (omega (arith, line_within s))
    ]

-- some bytes and then more
pub ended_append : (g a b : List ℕ) → ended_lines g (a ++ b) ≡ ended_lines g a ++ ended_lines (begun_line g a) b
unfolding ended_lines begun_line
ended_append g [] b = refl
ended_append g (x ∷ a) b =
    elim (dec_eq x 10) [
      | yes e ↦
          rw (ended_newline x (a ++ b) g e, ended_newline x a g e, begun_newline x a g e, ended_append [] a b)
      | no n ↦
          rw (ended_other x (a ++ b) g n, ended_other x a g n, begun_other x a g n) (ended_append (g ++ (x ∷ [])) a b)
    ]

pub begun_append : (g a b : List ℕ) → begun_line g (a ++ b) ≡ begun_line (begun_line g a) b
unfolding begun_line
begun_append g [] b = refl
begun_append g (x ∷ a) b =
    elim (dec_eq x 10) [
      | yes e ↦ rw (begun_newline x (a ++ b) g e, begun_newline x a g e) (begun_append [] a b)
      | no n ↦ rw (begun_other x (a ++ b) g n, begun_other x a g n) (begun_append (g ++ (x ∷ [])) a b)
    ]

pub answers_append : (a b : List (List ℕ)) → answers_to (a ++ b) ≡ answers_to a ++ answers_to b
unfolding answers_to
answers_append [] b = refl
answers_append (l ∷ a) b =
    ap (λ (r : List ℕ). answer_line l ++ (10 ∷ r)) (answers_append a b)
    ∙ sym (append_assoc (answer_line l) (10 ∷ answers_to a) (answers_to b))

-- bytes without a newline
pub record CutOff (g s : List ℕ) : Type 0 where
  pub ended : ended_lines g s ≡ []
  pub begun : begun_line g s ≡ g ++ s

pub cut_off : (g s : List ℕ) → length (line_in s) ≡ length s → CutOff g s
unfolding ended_lines begun_line
cut_off g [] e = record { ended = refl; begun = sym (append-nil g) }
cut_off g (x ∷ s) e =
    elim (dec_eq x 10) [
      | yes h ↦ absurd (omega (arith, ap length (line_newline x s h)))
      | no n ↦
          let rest = cut_off (g ++ (x ∷ [])) s (omega (arith, ap length (line_other x s n))) in
          record {
            ended = ended_other x s g n ∙ rest.ended;
            begun = begun_other x s g n ∙ rest.begun ∙ append_snoc g x s;
          }
    ]

-- a line and its newline
pub record LineEnds (g s : List ℕ) (n : ℕ) : Type 0 where
  pub ended : ended_lines g (take (suc n) s) ≡ (g ++ take n s) ∷ []
  pub begun : begun_line g (take (suc n) s) ≡ []

pub line_ends : (g s : List ℕ) (n : ℕ) → n ≡ length (line_in s) → n < length s → LineEnds g s n
unfolding ended_lines begun_line
line_ends g [] n e h = absurd (omega arith)
line_ends g (x ∷ s) zero e h =
    elim (dec_eq x 10) [
      | yes p ↦
          record {
            ended = ended_newline x [] g p ∙ ap (λ (l : List ℕ). l ∷ []) (sym (append-nil g));
            begun = begun_newline x [] g p;
          }
      | no p ↦ absurd (omega (arith, ap length (line_other x s p)))
    ]
line_ends g (x ∷ s) (suc n) e h =
    elim (dec_eq x 10) [
      | yes p ↦ absurd (omega (arith, ap length (line_newline x s p)))
      | no p ↦
          let rest = line_ends (g ++ (x ∷ [])) s n (omega (arith, ap length (line_other x s p))) (omega arith) in
          record {
            ended =
                ended_other x (take (suc n) s) g p ∙ rest.ended
                ∙ ap (λ (l : List ℕ). l ∷ []) (append_snoc g x (take n s));
            begun = begun_other x (take (suc n) s) g p ∙ rest.begun;
          }
    ]

-- where a line ends: at the first newline, or behind all of the bytes
line_length : (s : List ℕ) → length (line_in s) ≡ position_or_len (λ b. eqb b 10) s
unfolding line_in
line_length [] = refl
line_length (b ∷ s) =
    elim (dec_eq b 10) [
      | yes e ↦ rw (eq-eqb b 10 e)
      | no n ↦ rw (ne_eqb b 10 n) (omega (arith, line_length s))
    ]

-- the rest of the bytes, as it is lent
pub rest_lent : (chunk : List ℕ) (from : ℕ) → take (length chunk - from) (drop from chunk) ≡ drop from chunk
rest_lent chunk from = take_all (length chunk - from) (drop from chunk) (rw length-drop (omega arith))

first_some : (b : Bool) {m n : ℕ} → Some n ≡ cond b (Some m) None → n ≡ m
first_some true e = cc
first_some false e = cc

first_none : (b : Bool) (m : ℕ) → None ≡ cond b (Some m) None → b ≡ false
first_none true m e = cc
first_none false m e = refl

module _ (s : List ℕ) where
  pub end_found : {n : ℕ} → Some n ≡ position (λ b. eqb b 10) s → n ≡ length (line_in s)
  end_found e = first_some _ e ∙ sym (line_length s)

  pub end_missing : None ≡ position (λ b. eqb b 10) s → length (line_in s) ≡ length s
  end_missing e =
      let past : length s ≤ position_or_len (λ b. eqb b 10) s = ltb-false _ _ (first_none _ _ e) in
      omega (arith, past, line_length s, line_within s)
