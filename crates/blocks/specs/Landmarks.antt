-- Landmarks of a text: where some of its clauses stand, and where their blocks end. They only say what is so; whatever has
-- none is looked for in the text. Assumes nothing: these are definitions.
use Rattle.std.specs.Prelude.{ℕ, ◌-◌, ◌≤◌, ◌≡◌, Bool, false, cond, List, All, Option, Some, None, IfSome, option_map, eqb, length}
use Rattle.rules.specs.Text.{none, innermost, as_clauses, levels_at}
use Rattle.syntax.specs.Ends.{AfterBlock}
use Rattle.blocks.specs.Clauses.{wanted_of, InsideAt}
use Rattle.blocks.specs.declared.landmarks.Landmark.{Landmark}

-- the clause at z is the last of its block, after which the text goes on at `after`
pub record EndsLast (t : List ℕ) (start z after : ℕ) : Type 0 where
  pub more : (innermost (levels_at t z)).more ≡ none
  pub on : AfterBlock t start after

-- clause n of the block whose inside is at start stands at z, after a `~:;` or not: what is wanted of the clauses from
-- that one on is wanted from z on. The block ends before `after`, unless that is 0
pub record StandsAt (t : List ℕ) (start n z : ℕ) (colon : Bool) (after : ℕ) : Type 0 where
  pub same : (fb : Bool) (number : Option ℕ) → IfSome number (λ m. n ≤ m)
      → wanted_of number fb (as_clauses false (levels_at t start)) ≡ wanted_of (option_map (λ m. m - n) number) fb (as_clauses colon (levels_at t z))
  pub inside : InsideAt t start z
  pub last : (after ≡ 0 → ⊥) → EndsLast t start z after

abbrev pub Sound : List ℕ → Landmark → Type 0
Sound t l = StandsAt t l.inside l.number l.place l.colon l.after

-- the place after its block, if it is the last clause
abbrev pub end_of : Landmark → Option ℕ
end_of l = cond (eqb l.after 0) None (Some l.after)

-- every landmark of the array whose block lies in the text is sound
pub record Landmarks (t : List ℕ) (m : List Landmark) : Type 0 where
  pub each : All (λ l. l.inside ≤ length t → Sound t l) m

-- l, or nothing, is laid in the array m, which then is m₂
pub record Lays (l : Landmark) (m m₂ : List Landmark) : Type 0 where
  pub keeps : (t : List ℕ) → Landmarks t m → Sound t l → Landmarks t m₂
  pub size : length m₂ ≡ length m

-- landmarks of the text t are laid in the array m, which then is m₂
pub record Marks (t : List ℕ) (m m₂ : List Landmark) : Type 0 where
  pub sound : Landmarks t m₂
  pub size : length m₂ ≡ length m
