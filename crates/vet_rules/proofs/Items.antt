-- What the items of a text are: none is an end, a numeral's base is 2 to 36, and they come in order of their positions, no
-- more of them than bytes. Assumes nothing.
use Prim.Native.Nat.{ℕ, zero, suc, ◌≤◌}
use mathlib.Core.List.{List, [], ◌∷◌}
use native.Mathlib.Omega.{arith}
use lib.ListN.{length, drop}
use Rattle.rules.specs.Directive.{item_of}
use Rattle.rules.specs.Text.{Token, length_after, tokens_from, tokens_at}
use Rattle.rules.proofs.Bases.{Readable, item_readable}

-- items from a position on, in order
abbrev pub Read : ℕ → List Token → Type 0
Read p [] = Unit {0}
Read p (x ∷ xs) = (p ≤ x.position) × Readable x.item × Read (suc x.position) xs

from_read : (bs : List ℕ) (over p q : ℕ) → q ≤ p → Read q (tokens_from bs over p)
unfolding tokens_from
from_read [] over p q h = tt
from_read (b ∷ bs) zero p q h =
    (h, item_readable b bs p, from_read bs (length_after p (item_of (b ∷ bs) p)) (suc p) (suc p) (omega arith))
from_read (b ∷ bs) (suc over) p q h = from_read bs over (suc p) q (omega arith)

from_count_lem : (bs : List ℕ) (over p : ℕ) → length (tokens_from bs over p) ≤ length bs
unfolding tokens_from
from_count_lem [] over p = omega arith
from_count_lem (b ∷ bs) zero p = omega (arith, from_count_lem bs (length_after p (item_of (b ∷ bs) p)) (suc p))
from_count_lem (b ∷ bs) (suc over) p = omega (arith, from_count_lem bs over (suc p))

pub tokens_read : (t : List ℕ) → Read 0 (tokens_at t 0)
unfolding tokens_at
tokens_read t = from_read (drop 0 t) 0 0 0 (omega arith)

pub tokens_count : (t : List ℕ) → length (tokens_at t 0) ≤ length t
unfolding tokens_at
tokens_count t = from_count_lem t 0 0
