-- Spans: bytes of one class that stand one after another. Assumes nothing: these are definitions.
use Rattle.std.specs.Prelude.{ℕ, zero, suc, ◌+◌, ◌≤◌, ◌<◌, ◌≡◌, Bool, cond, List, [], ◌∷◌, eqb, length, get_or, drop}
use Rattle.rules.specs.Letters.{letter}

-- what a test of the code answers is whether a byte is of the class f
abbrev pub Decides : (ℕ → Bool → Type 0) → (ℕ → Bool) → Type 0
Decides answers f = (b : ℕ) (y : Bool) → b < 256 → answers b y → y ≡ f b

abbrev pub is_zero : ℕ → Bool
is_zero b = eqb b (letter "0")

-- how many bytes at the head of the list are of a class
unfoldable pub span_of : (ℕ → Bool) → List ℕ → ℕ
span_of f [] = 0
span_of f (b ∷ bs) = cond (f b) (suc (span_of f bs)) 0

-- how many of the n bytes from i on are of it
unfoldable pub count_of : (ℕ → Bool) → List ℕ → ℕ → ℕ → ℕ
count_of f t i zero = 0
count_of f t i (suc n) = count_of f t i n + cond (f (get_or t (i + n) 0)) 1 0

-- the bytes of the class that stand from first on go up to r at least, and end where those from r on end
pub record Along (f : ℕ → Bool) (t : List ℕ) (first r : ℕ) : Type 0 where
  pub on : first ≤ r
  pub within : r ≤ length t
  pub same : r + span_of f (drop r t) ≡ first + span_of f (drop first t)

-- and no stride of sixteen bytes of the class stands at r
pub record Strides (f : ℕ → Bool) (t : List ℕ) (first r : ℕ) : Type 0 where
  pub along : Along f t first r
  pub stops : r + 16 ≤ length t → count_of f t r 16 ≡ 16 → ⊥
