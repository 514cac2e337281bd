-- Lines dealt out window by window, and states that no call gave, worked out by the definitions. Assumes nothing.
use Rattle.std.specs.Prelude.{ℕ, ◌≡◌, refl, Bool, true, false, List, [], ◌∷◌, ◌++◌, map, length, drop, replicate}
use Rattle.rules.specs.Flow.{given_text}
use Rattle.rules.specs.Letters.{bytes}
use Rattle.rules.specs.Directive.{code_named, step, scan, item_of}
use Rattle.rules.specs.Rows.{well_written}
use Rattle.rules.specs.Text.{tokens_from, tokens_at, directive_met, verdict_of, text_verdict, levels_of, levels_at}
use Rattle.rules.specs.Table.{pool_of, entry_at, right_for, value_by, value_at, first_bad, table_verdict, values_from, view_of}
use Rattle.rules.specs.Piece.{escaped, bare_of, times_padded, text_of}
use Rattle.rules.specs.Working.{work_out, settle}
use Rattle.rules.specs.Act.{act_of}
use Rattle.rules.specs.Run.{turn, walk, run}
use Rattle.pieces.specs.Bytes.{owed}
use Rattle.pieces.specs.Rest.{rest_of}
use Rattle.pieces.specs.declared.resuming.QuoteRest.{QuoteRest}
use Rattle.nesting.specs.Moves.{Told}
use Rattle.nesting.specs.Nest.{frames_of, all_lie}
use Rattle.nesting.specs.declared.nests.Nest.{Nest}
use Rattle.filling.specs.Filling.{no_rest}
use Rattle.windows.specs.declared.state.State.{State}
use Rattle.windows.specs.States.{remains}
use Rattle.windows.specs.Calls.{Shown, more, shown, shown_in}
use Rattle.windows.specs.Continuing.{no_blocks}

-- tables: a header, entries whose two halves are below 256, and a pool
abbrev header : ℕ → ℕ → ℕ → List ℕ
header n m pool = 0 ∷ n ∷ 0 ∷ m ∷ 0 ∷ 0 ∷ 0 ∷ pool ∷ []

abbrev entry : ℕ → ℕ → ℕ → List ℕ
entry tag high low = tag ∷ 0 ∷ 0 ∷ 0 ∷ 0 ∷ 0 ∷ 0 ∷ high ∷ 0 ∷ 0 ∷ 0 ∷ low ∷ []

-- no entries; `pad`; `a"b`, which starts at place 20; a list of `ab` and `cd`
abbrev empty : List ℕ
empty = header 0 0 0

abbrev pad : List ℕ
pad = header 1 1 3 ++ (entry 3 0 3 ++ bytes "pad")

abbrev quote : List ℕ
quote = header 1 1 3 ++ (entry 3 0 3 ++ bytes "a\"b")

abbrev pair : List ℕ
pair = header 3 1 4 ++ (entry 4 1 2 ++ (entry 3 0 2 ++ (entry 3 2 2 ++ bytes "abcd")))

-- formats: `windows`, `up`, `~6@a`, `~s!` and `~{<~a>~}`
abbrev word : List ℕ
word = bytes "windows"

abbrev up : List ℕ
up = bytes "up"

abbrev padded : List ℕ
padded = bytes "~6@a"

abbrev quoted : List ℕ
quoted = bytes "~s!"

abbrev listed : List ℕ
listed = bytes "~{<~a>~}"

-- 1. Calls from a fresh state

-- a state of this stage and with this answer, all else 0
abbrev answered : ℕ → ℕ → ℕ → ℕ → State
answered stage code position steps = record {
  stage = stage;
  code = code;
  position = position;
  steps = steps;
  left = 0;
  place = 0;
  given = 0;
  first = 0;
  count = 0;
  next = 0;
  nest = no_blocks;
  rest = no_rest;
}

abbrev fresh : State
fresh = answered 0 0 0 0

-- what calls answer: the last code, position and steps, the bytes of each call, and all of them joined
record Line : Type 0 where
  code : ℕ
  position : ℕ
  steps : ℕ
  written : List ℕ
  text : List ℕ

abbrev onward : Shown → Line → Line
onward y l = record { code = l.code; position = l.position; steps = l.steps; written = length y.text ∷ l.written; text = y.text ++ l.text }

abbrev line_by : Bool → Shown → (Bool → Line) → Line
line_by true y on = record { code = y.code; position = y.position; steps = y.steps; written = length y.text ∷ []; text = y.text }
line_by false y on = onward y (on true)

-- what remains, dealt out over windows of these sizes up to the end
windows_of : List ℕ → Told → Line
windows_of [] x = record { code = 256; position = 0; steps = 0; written = []; text = [] }
windows_of (room ∷ rooms) x =
    line_by (shown false room x).ends (shown false room x)
    (λ _. windows_of rooms (record { bytes = drop (length (shown false room x).text) x.bytes; finish = x.finish }))

-- a format, a table, the sizes of the windows, and the answers
record Case : Type 0 where
  format : List ℕ
  table : List ℕ
  rooms : List ℕ
  line : Line

abbrev case : List ℕ → List ℕ → List ℕ → ℕ → ℕ → ℕ → List ℕ → List ℕ → Case
case format table rooms code position steps written text =
    record { format = format; table = table; rooms = rooms; line = record { code = code; position = position; steps = steps; written = written; text = text } }

abbrev AllRight : List Case → Type 0
AllRight cs = map (λ (c : Case). windows_of c.rooms (remains c.format c.table fresh)) cs ≡ map (λ (c : Case). c.line) cs

-- "each call has the same format and table, and the last call's state, the first a fresh one"
lines :
    AllRight (
    -- windows of 3
    case word empty (replicate 4 3) 0 0 7 (3 ∷ 3 ∷ 1 ∷ []) word
    -- a window that the last byte fills is the last: no call is left for the end alone
    ∷ case word empty (4 ∷ 3 ∷ 3 ∷ []) 0 0 7 (4 ∷ 3 ∷ []) word
    -- too few windows: more
    ∷ case word empty (3 ∷ 3 ∷ []) 256 0 0 (3 ∷ 3 ∷ []) (bytes "window")
    -- windows of 0 bytes write nothing
    ∷ case up empty (0 ∷ 1 ∷ 0 ∷ 1 ∷ 1 ∷ []) 0 0 2 (0 ∷ 1 ∷ 0 ∷ 1 ∷ []) up
    -- nor do they end a line that has no bytes
    ∷ case [] empty (0 ∷ 0 ∷ 1 ∷ []) 0 0 0 (0 ∷ 0 ∷ 0 ∷ []) []
    -- `up~`: code 3 at 2, though not before there is a byte of room
    ∷ case (bytes "up~") empty (0 ∷ 1 ∷ []) 3 2 0 (0 ∷ 0 ∷ []) []
    -- a table that is refused: code 1 at 0
    ∷ case up [] (1 ∷ []) 1 0 0 (0 ∷ []) []
    -- `n=~d`, no argument: code 6 at 2, with the last byte that is kept
    ∷ case (bytes "n=~d") empty (replicate 4 1) 6 2 3 (1 ∷ 1 ∷ []) (bytes "n=")
    -- a piece is cut in its padding and in its text
    ∷ case padded pad (replicate 4 2) 0 0 1 (2 ∷ 2 ∷ 2 ∷ []) (bytes "   pad")
    -- between a backslash and its quote
    ∷ case quoted quote (replicate 4 3) 0 0 2 (3 ∷ 3 ∷ 1 ∷ []) (bytes "\"a\\\"b\"!")
    -- inside a block
    ∷ case listed pair (replicate 4 3) 0 0 9 (3 ∷ 3 ∷ 2 ∷ []) (bytes "<ab><cd>")
    ∷ [])
unfolding windows_of remains given_text code_named step scan item_of well_written tokens_from tokens_at directive_met verdict_of text_verdict levels_of levels_at pool_of entry_at right_for value_by value_at first_bad table_verdict values_from view_of escaped bare_of times_padded text_of work_out settle act_of turn walk run
lines = refl

-- 2. States that no call gave, or that stand inside a line

-- a begun state: the place, the steps left, the bytes given, the arguments in hand, the open blocks, what is left of a
-- string
abbrev begun : ℕ → ℕ → ℕ → ℕ → ℕ → ℕ → Nest → QuoteRest → State
begun place left given first count next nest rest = record {
  stage = 1;
  code = 0;
  position = 0;
  steps = 0;
  left = left;
  place = place;
  given = given;
  first = first;
  count = count;
  next = next;
  nest = nest;
  rest = rest;
}

-- so many open blocks, the first of them that of `listed` over `pair`
abbrev blocks : ℕ → Nest
blocks depth = record {
  depth = depth;
  kinds = 1 ∷ replicate 7 0;
  places = replicate 8 0;
  insides = 2 ∷ replicate 7 0;
  passes = 65535 ∷ replicate 7 0;
  starts = replicate 8 0;
  counts = 1 ∷ replicate 7 0;
  positions = 1 ∷ replicate 7 0;
}

-- what is left from the quote in `quote` on, once its backslash is written, up to a place of the table; and two dots
abbrev quote_on : ℕ → QuoteRest
quote_on end = record { stage = 3; before = 0; start = 21; end = end; behind = 2; pad = 46 }

-- a format, a table, a state, the size of a window, and what a call shows
record Sight : Type 0 where
  format : List ℕ
  table : List ℕ
  state : State
  room : ℕ
  shows : Shown

abbrev sight : List ℕ → List ℕ → State → ℕ → Shown → Sight
sight format table state room shows = record { format = format; table = table; state = state; room = room; shows = shows }

abbrev at_end : ℕ → ℕ → ℕ → List ℕ → Shown
at_end code position steps text = record { code = code; position = position; steps = steps; text = text; ends = true }

abbrev AllShown : List Sight → Type 0
AllShown ss = map (λ (s : Sight). shown_in s.format s.table s.state s.room) ss ≡ map (λ (s : Sight). s.shows) ss

-- "A call after the end repeats code, position and steps and writes nothing."
ends :
    AllShown (
    -- ended with code 7: that again, in any window
    sight up empty (answered 2 7 3 5) 0 (at_end 7 3 5 [])
    -- any stage above 1 is an end, whatever the table
    ∷ sight up [] (answered 9 7 3 5) 4 (at_end 7 3 5 [])
    ∷ [])
unfolding shown_in remains
ends = refl

-- numbers out of range
out_of_range :
    AllShown (
    -- nine open blocks: code 4 at 0
    sight listed pair (begun 5 65532 0 1 2 1 (blocks 9) no_rest) 8 (at_end 4 0 0 [])
    -- more steps left than there are
    ∷ sight up empty (begun 0 65537 0 0 0 0 no_blocks no_rest) 8 (at_end 4 0 0 [])
    -- a place behind the text
    ∷ sight up empty (begun 3 65536 0 0 0 0 no_blocks no_rest) 8 (at_end 4 0 0 [])
    -- an argument behind the last
    ∷ sight up pad (begun 0 65536 0 0 1 2 no_blocks no_rest) 8 (at_end 4 0 0 [])
    -- a string behind the table
    ∷ sight quoted quote (begun 2 65535 0 0 1 1 no_blocks (quote_on 24)) 8 (at_end 4 0 0 [])
    -- a table that is refused comes before
    ∷ sight up [] (begun 3 65536 0 0 0 0 no_blocks no_rest) 8 (at_end 1 0 0 [])
    -- and none of it without room
    ∷ sight up empty (begun 3 65536 0 0 0 0 no_blocks no_rest) 0 (more [])
    ∷ [])
unfolding shown_in remains entry_at right_for first_bad table_verdict all_lie
out_of_range = refl

-- and in range: what remains from there
inside_lines :
    AllShown (
    -- four bytes are given: `ad`
    sight padded pad (begun 0 65536 4 0 1 0 no_blocks no_rest) 2 (at_end 0 0 1 (bytes "ad"))
    -- more than it has: none are left
    ∷ sight padded pad (begun 0 65536 99 0 1 0 no_blocks no_rest) 2 (at_end 0 0 1 [])
    -- inside a string in quotes, and then the run from `!` on
    ∷ sight quoted quote (begun 2 65535 0 0 1 1 no_blocks (quote_on 23)) 6 (at_end 0 0 2 (bytes "\"b\"..!"))
    -- the same in less room
    ∷ sight quoted quote (begun 2 65535 0 0 1 1 no_blocks (quote_on 23)) 2 (more (bytes "\"b"))
    -- inside a block, at `>` of its first pass
    ∷ sight listed pair (begun 5 65532 0 1 2 1 (blocks 1) no_rest) 8 (at_end 0 0 9 (bytes "><cd>"))
    -- at `a`, where no item starts: it is read from there
    ∷ sight listed pair (begun 4 65532 0 1 2 1 (blocks 1) no_rest) 8 (at_end 0 0 10 (bytes "a><cd>"))
    ∷ [])
unfolding shown_in remains given_text code_named step scan item_of well_written tokens_from tokens_at levels_of levels_at pool_of entry_at right_for value_by value_at first_bad table_verdict values_from view_of escaped bare_of times_padded text_of work_out settle act_of turn walk run owed rest_of frames_of all_lie
inside_lines = refl
