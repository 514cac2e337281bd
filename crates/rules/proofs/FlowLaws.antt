-- Laws of flows, whatever run gave them: what they come to in a buffer, and a flow that gives some text and then goes on
-- as another. Assumes nothing.
use Prim.Native.Nat.{ℕ, ◌+◌, ◌≤◌, ◌<◌}
use mathlib.Core.Path.{◌≡◌, refl, sym, ap, ◌∙◌}
use mathlib.Core.List.{List, [], ◌++◌, append_assoc, append-nil}
use native.Mathlib.Decide.{dec_lt}
use native.Mathlib.Omega.{arith}
use lib.ListN.{length, length-append}
use borrow.Author.Tests.{le-leb, lt-leb}
use Rattle.rules.specs.Flow.{Flow, done, refused, put, given_text, Finish, finish_of, Stretch, still, onward, Gives, Lacks}
use Rattle.rules.specs.Answer.{Answer, fit}

-- 1. A flow in a buffer.

-- the answer that ends so, with that text
abbrev pub finished : Finish → List ℕ → Answer
finished e text = record { code = e.code; position = e.position; steps = e.steps; text = text }

-- with room for all its pieces it ends as it says and all of them are written
pub fit_all : (room : ℕ) (flow : Flow) (out : List ℕ) → length out + length (given_text flow) ≤ room
    → fit room out flow ≡ finished (finish_of flow) (out ++ given_text flow)
unfolding fit given_text
fit_all room (done left over) out h = rw append-nil
fit_all room (refused code p left) out h = rw append-nil
fit_all room (put p left piece more) out h =
    let both = length-append piece (given_text more) in
    rw (le-leb (length out + length piece) room (omega (arith, both)))
    (fit_all room more (out ++ piece) (omega (arith, both, length-append out piece))
    ∙ ap (finished (finish_of more)) (append_assoc out piece (given_text more)))

-- with less it ends for want of room
pub fit_not : (room : ℕ) (flow : Flow) (out : List ℕ) → length out ≤ room → room < length out + length (given_text flow)
    → (fit room out flow).code ≡ 10
unfolding fit given_text
fit_not room (done left over) out o h = absurd (omega arith)
fit_not room (refused code p left) out o h = absurd (omega arith)
fit_not room (put p left piece more) out o h =
    elim (dec_lt room (length out + length piece)) [
      | yes t ↦ rw (lt-leb (length out + length piece) room t)
      | no t ↦
          rw (le-leb (length out + length piece) room (omega arith))
          (fit_not room more (out ++ piece) (omega (arith, length-append out piece))
          (omega (arith, length-append out piece, length-append piece (given_text more))))
    ]

-- 2. A flow that gives some text, and then goes on as another.

pub stretch_join : {f g h : Flow} {w x : List ℕ} → Stretch f g w → Stretch g h x → Stretch f h (w ++ x)
stretch_join still t = t
stretch_join (onward s) t = rw append_assoc (onward (stretch_join s t))

pub stretch_text : {f g : Flow} {w : List ℕ} → Stretch f g w → given_text f ≡ w ++ given_text g
unfolding given_text
stretch_text still = refl
stretch_text (onward s) = rw (append_assoc, stretch_text s)

pub stretch_finish : {f g : Flow} {w : List ℕ} → Stretch f g w → finish_of f ≡ finish_of g
stretch_finish still = refl
stretch_finish (onward s) = stretch_finish s

-- what it comes to in a buffer with room for that text
pub stretch_fit : (room : ℕ) (x : List ℕ) {f g : Flow} {w : List ℕ} → Stretch f g w → length x + length w ≤ room
    → fit room x f ≡ fit room (x ++ w) g
unfolding fit
stretch_fit room x still h = rw append-nil
stretch_fit room x {g = g} (onward {w = w} {x = y} s) h =
    let both = length-append w y in
    rw (le-leb (length x + length w) room (omega (arith, both)))
    (stretch_fit room (x ++ w) s (omega (arith, both, length-append x w)) ∙ ap (λ (t : List ℕ). fit room t g) (append_assoc x w y))

-- 3. The same, by what is written before and after.

pub gives_still : (x : List ℕ) (f : Flow) → Gives x f x f
gives_still x f = record { text = []; stretch = still; is = sym (append-nil x) }

pub gives_piece : (x : List ℕ) (p left : ℕ) (piece : List ℕ) (f : Flow) → Gives x (put p left piece f) (x ++ piece) f
gives_piece x p left piece f =
    record { text = piece ++ []; stretch = onward still; is = ap (λ (t : List ℕ). x ++ t) (sym (append-nil piece)) }

module _ {x y : List ℕ} {f g : Flow} (u : Gives x f y g) where
  pub gives_join : {z : List ℕ} {h : Flow} → Gives y g z h → Gives x f z h
  gives_join {z} {h} v =
      record {
        text = u.text ++ v.text;
        stretch = stretch_join u.stretch v.stretch;
        is = v.is ∙ ap (λ (t : List ℕ). t ++ v.text) u.is ∙ append_assoc x u.text v.text;
      }

  pub gives_lacks : {room p left : ℕ} {z : List ℕ} → Lacks room y g z p left → Lacks room x f z p left
  gives_lacks v = record { piece = v.piece; more = v.more; gives = gives_join v.gives; full = v.full }

  pub gives_text : x ++ given_text f ≡ y ++ given_text g
  gives_text =
      ap (λ (t : List ℕ). x ++ t) (stretch_text u.stretch) ∙ sym (append_assoc x u.text (given_text g))
      ∙ ap (λ (t : List ℕ). t ++ given_text g) (sym u.is)

  pub gives_finish : finish_of f ≡ finish_of g
  gives_finish = stretch_finish u.stretch

  pub gives_fit : (room : ℕ) → length y ≤ room → fit room x f ≡ fit room y g
  gives_fit room h =
      stretch_fit room x u.stretch (omega (arith, ap length u.is, length-append x u.text))
      ∙ ap (λ (t : List ℕ). fit room t g) (sym u.is)

-- where it lacks room it is refused there
pub lacks_fit : {room p left : ℕ} {x y : List ℕ} {f : Flow} → Lacks room x f y p left → length y ≤ room
    → fit room x f ≡ fit room y (refused 10 p left)
unfolding fit
lacks_fit {room} {y = y} u h = gives_fit u.gives room h ∙ rw (lt-leb (length y + length u.piece) room u.full)
