-- Tables of letters: what holds of each entry holds of what is found, and what no entry has is not found.
-- Assumes nothing.
use Prim.Native.Nat.{ℕ}
use mathlib.Core.Path.{◌≡◌, refl, sym, subst}
use mathlib.Core.List.{List, [], ◌∷◌}
use native.Mathlib.Decide.{ℕ_discrete as dec_eq}
use borrow.Author.Tests.{eq-eqb, ne_eqb}
use Rattle.rules.specs.Letters.{look_up}

abbrev pub Each : {A : Type 0} → (ℕ → A → Type 0) → List (ℕ × A) → Type 0
Each P [] = Unit {0}
Each P (x ∷ xs) = P x.0 x.1 × Each P xs

pub looked_up : {A : Type 0} (P : ℕ → A → Type 0) (xs : List (ℕ × A)) (other : A) (b : ℕ) → Each P xs → P b other
    → P b (look_up xs other b)
looked_up P [] other b h k = k
looked_up P (x ∷ xs) other b h k = elim (dec_eq b x.0) [
  | yes z ↦ rw (eq-eqb b x.0 z) (subst (λ (c : ℕ). P c x.1) (sym z) h.0)
  | no z ↦ rw (ne_eqb b x.0 z) (looked_up P xs other b h.1 k)
]

-- no entry has b, as the last arm of a `match` on the letters has it
abbrev pub Missed : {A : Type 0} → Type 0 → ℕ → List (ℕ × A) → Type 0
Missed K b [] = K
Missed K b (x ∷ xs) = Missed (K × (b ≡ x.0 → ⊥)) b xs

kept : {A : Type 0} (K : Type 0) (b : ℕ) (xs : List (ℕ × A)) → Missed K b xs → K
kept K b [] m = m
kept K b (x ∷ xs) m = (kept (K × (b ≡ x.0 → ⊥)) b xs m).0

pub missed : {A : Type 0} (K : Type 0) (xs : List (ℕ × A)) (other : A) (b : ℕ) → Missed K b xs
    → look_up xs other b ≡ other
missed K [] other b m = refl
missed K (x ∷ xs) other b m =
    let N : Type 0 = K × (b ≡ x.0 → ⊥) in
    rw (ne_eqb b x.0 (kept N b xs m).1) (missed N xs other b m)
