-- What the exported calls answer. Assumes nothing: these are definitions.
use Rattle.std.specs.Prelude.{ℕ, Bool, cond, List, ◌++◌, leb, length, drop}
use Rattle.rules.specs.Choice.{both}
use Rattle.rules.specs.Number.{digits_of}
use Rattle.rules.specs.Verdict.{Verdict}
use Rattle.rules.specs.Verdict.{Accepted, Refused}

-- 01's code for each case of a verdict: 0 for "done"
abbrev pub code_of : Verdict → ℕ
code_of Accepted = 0
code_of (Refused code position) = code

-- and 01's position: "done" has 0
abbrev pub position_of : Verdict → ℕ
position_of Accepted = 0
position_of (Refused code position) = position

-- whether the digits of n are written to a buffer of this room: the base is from 2 to 36, and there is room for all
abbrev pub serves : ℕ → ℕ → ℕ → Bool
serves base n room = both (leb 2 base) (both (leb base 36) (leb (length (digits_of base n)) room))

-- how many bytes are written
unfoldable pub count_written : ℕ → ℕ → ℕ → ℕ
count_written base n room = cond (serves base n room) (length (digits_of base n)) 0

-- the whole buffer afterwards: the digits and then what was there, or all as it was
unfoldable pub buffer_after : ℕ → ℕ → List ℕ → List ℕ
buffer_after base n out =
    cond (serves base n (length out)) (digits_of base n ++ drop (length (digits_of base n)) out) out
