-- A vet of plain formats only, item by item: what the ways through a format come to where it has no conditional
-- (PlainWays). Assumes nothing.
use Prim.Native.Nat.{ℕ, ◌+◌}
use mathlib.Core.List.{List, [], ◌∷◌}
use Rattle.rules.specs.Text.{Token, tokens_at, text_verdict}
use Rattle.vet_rules.specs.Turns.{Turn, Goes, Stops, turn_of}
use Rattle.vet_rules.specs.Vet.{Vetted, asked_verdict, declined, counted, unless_declined}
use Rattle.vet_rules.specs.Plain.{plain_verdict}

abbrev pub on_turn : ℕ → Turn → ℕ → (ℕ → ℕ → Vetted) → Vetted
on_turn p (Goes next size) sum on = on next.0 (sum + size)
on_turn p (Stops code) sum on = declined code p

-- the items in order, from an argument on, where the pieces before them are `sum` bytes at the most
unfoldable pub vet_from : List ℕ → ℕ → List Token → ℕ → ℕ → Vetted
vet_from kinds longest [] next sum = counted sum
vet_from kinds longest (x ∷ xs) next sum =
    on_turn x.position (turn_of kinds longest x.item next) sum (λ next₂ sum₂. vet_from kinds longest xs next₂ sum₂)

-- the whole answer, by 01's order: every format that is not plain has code 11
abbrev pub vet_plain : List ℕ → List ℕ → ℕ → Vetted
vet_plain format kinds longest =
    unless_declined (asked_verdict kinds longest)
    (λ _. unless_declined (text_verdict format)
    (λ _. unless_declined (plain_verdict format) (λ _. vet_from kinds longest (tokens_at format 0) 0 0)))
