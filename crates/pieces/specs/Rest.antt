-- What is left of a piece that is a string in quotes, where a window's end has cut it, and what its writer promises.
-- Assumes nothing: these are definitions.
use Rattle.std.specs.Prelude.{◌≡◌, Bool, true, false, cond, List, [], ◌∷◌, ◌++◌, ℕ, ◌+◌, ◌-◌, ◌≤◌, ◌<◌, min, eqb, length, take, drop, replicate}
use Rattle.rules.specs.Letters.{letter}
use Rattle.rules.specs.Piece.{escaped}
use Rattle.pieces.specs.Bytes.{part, owed, quoted_of, beside}
use Rattle.pieces.specs.declared.resuming.QuoteRest.{QuoteRest}
use Rattle.pieces.specs.declared.resuming.RestWritten.{RestWritten}
use Rattle.pieces.specs.declared.resuming.Stage.{Stage}
use Rattle.pieces.specs.declared.resuming.Stage.TheVariants.{Done, Whole, Inside, Padding}

-- the numbers of the stages: from 4 on they are one
abbrev pub stage_of : ℕ → Stage
stage_of n =
    cond (eqb n 0) Done
    (cond (eqb n 1) Whole (cond (eqb n 2) (Inside false) (cond (eqb n 3) (Inside true) Padding)))

abbrev pub number_of : Stage → ℕ
number_of Done = 0
number_of Whole = 1
number_of (Inside gone) = cond gone 3 2
number_of Padding = 4

-- what is left of the string
abbrev pub string_of : List ℕ → QuoteRest → List ℕ
string_of t q = part q.start (q.end - q.start) t

-- what follows the string: the last quote, and the padding on the right
abbrev pub closing_of : QuoteRest → List ℕ
closing_of q = letter "\"" ∷ replicate q.behind q.pad

-- what is left of the piece, by how far it has come: 0 nothing; 1 all from its padding on the left; 2 inside the
-- quotes; 3 the same, with the backslash of the first byte gone; above that the padding on the right
unfoldable pub rest_of : List ℕ → QuoteRest → List ℕ
rest_of t q =
    cond (eqb q.stage 0) []
    (cond (eqb q.stage 1) (beside q.before q.behind q.pad (quoted_of (string_of t q)))
    (cond (eqb q.stage 2) (escaped (string_of t q) ++ closing_of q)
    (cond (eqb q.stage 3) (owed true (string_of t q) ++ closing_of q) (replicate q.behind q.pad))))

-- the string lies in the table, and the padding is no longer than that of a piece may be
pub record RestIn (t : List ℕ) (q : QuoteRest) : Type 0 where
  pub order : q.start ≤ q.end
  pub inside : q.end ≤ length t
  pub before : q.before ≤ 65536
  pub behind : q.behind ≤ 65536

-- a front of a text is written into the buffer b from a place on, up to the place `at` of e, and the rest is left
pub record Appends (text : List ℕ) (from : ℕ) (b e : List ℕ) (at : ℕ) (rest : List ℕ) : Type 0 where
  pub joined : take from b ++ text ≡ take at e ++ rest
  pub size : length e ≡ length b
  pub behind : drop at e ≡ drop at b
  pub least : from ≤ at
  pub most : at ≤ length b

-- of a byte repeated so many times as many as there is room for
pub record Pads (count pad from : ℕ) (b e : List ℕ) (missing at : ℕ) : Type 0 where
  pub written : Appends (replicate count pad) from b e at (replicate missing pad)
  pub place : at ≡ from + min count (length b - from)
  pub over : missing ≡ count - (length b - from)

-- of what a string owes as much as there is room for: its byte i is next
pub record Escapes (src : List ℕ) (gone₀ : Bool) (from : ℕ) (b e : List ℕ) (i : ℕ) (gone : Bool) (at : ℕ) : Type 0 where
  pub written : Appends (owed gone₀ src) from b e at (owed gone (drop i src))
  pub inside : i ≤ length src
  pub ends : at < length b → length src ≤ i

-- of the rest of a piece as much as there is room for. At any stage but 0 something is left, and its next byte has no
-- room
pub record WritesRest (t : List ℕ) (q : QuoteRest) (from : ℕ) (b e : List ℕ) (r : RestWritten) : Type 0 where
  pub joined : take from b ++ rest_of t q ≡ take r.at e ++ rest_of t r.rest
  pub size : length e ≡ length b
  pub behind : drop r.at e ≡ drop r.at b
  pub least : from ≤ r.at
  pub most : r.at ≤ length b
  pub inside : RestIn t r.rest
  pub stops : (r.rest.stage ≡ 0 → ⊥) → (r.at ≡ length b) × (0 < length (rest_of t r.rest))
