-- The test for plain, item by item, as a loop goes through a text. Assumes nothing.
use Prim.Native.Nat.{ℕ, ◌≤◌}
use mathlib.Core.Path.{◌≡◌}
use mathlib.Core.Bool.{Bool, true, false}
use mathlib.Core.List.{List, ◌∷◌}
use lib.ListN.{length}
use Rattle.rules.proofs.TextLaws.{tokens_end}
use Rattle.rules.specs.Text.{tokens_at}
use Rattle.rules.specs.declared.Item.{Item}
use Rattle.rules.specs.Verdict.{Accepted, Refused}
use Rattle.vet_rules.specs.Plain.{plain_item, plain_from}

-- item x stands at p, and the text goes on at q
pub record Follows (t : List ℕ) (p : ℕ) (x : Item) (q : ℕ) : Type 0 where
  pub is : tokens_at t p ≡ record { position = p; item = x } ∷ tokens_at t q

module _ (t : List ℕ) (p q : ℕ) (x : Item) (s : Follows t p x q) where
  pub plain_on : (choosing : Bool) → plain_item choosing x ≡ true
      → plain_from choosing (tokens_at t p) ≡ plain_from choosing (tokens_at t q)
  unfolding plain_from
  plain_on choosing e = rw (s.is, plain_from, e)

  pub plain_not : (choosing : Bool) → plain_item choosing x ≡ false → plain_from choosing (tokens_at t p) ≡ Refused 11 p
  unfolding plain_from
  plain_not choosing e = rw (s.is, plain_from, e)

pub plain_end : (choosing : Bool) (t : List ℕ) (p : ℕ) → length t ≤ p → plain_from choosing (tokens_at t p) ≡ Accepted
unfolding plain_from
plain_end choosing t p h = rw (tokens_end t p h)
