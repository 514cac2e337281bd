-- `making::words::hex_body` meets its contract: one hex digit below 16, and else two. Assumes nothing.
use mathlib.Core.List.{List, ◌∷◌}
use mathlib.Core.Path.{ap}
use Prim.Native.Nat.{ℕ}
use Rattle.making.proofs.Spelled.{hex_one, hex_two}
use Rattle.making.proofs.Made.{makes_same}
use Rattle.making.proofs.words.hex_body.Goals as goal

pub returns-then-high-eq0 : goal.returns-then-high-eq0
returns-then-high-eq0 c =
    λ t. makes_same (ap (λ (l : List ℕ). 35 ∷ 92 ∷ 120 ∷ l)
    (hex_one c.args.code _ c.if-high-eq0.true c.digit_byte-low.ensures))
    (c.word_body.ensures t)

pub returns-else-high-eq0 : goal.returns-else-high-eq0
returns-else-high-eq0 c =
    λ t. makes_same (ap (λ (l : List ℕ). 35 ∷ 92 ∷ 120 ∷ l)
    (hex_two c.args.code _ c.requires c.if-high-eq0.false c.digit_byte-low.ensures))
    (c.word_body-else-high-eq0.ensures t)
