-- "Those with P are twelve facts about the written rules, checked as one table under one claim". Assumes nothing.
use Rattle.std.specs.Prelude.{ℕ, ◌/◌, ◌%◌, ◌≡◌, refl, List, [], ◌∷◌, ◌++◌, map, length}
use Rattle.rules.specs.Letters.{bytes}
use Rattle.rules.specs.Number.{digits_with, digits_of, grouped, splits, pad_left}
use Rattle.rules.specs.Directive.{code_named, step, blanks, scan, item_of}
use Rattle.rules.specs.Rows.{well_written}
use Rattle.rules.specs.Text.{tokens_from, tokens_at, directive_met, verdict_of, text_verdict, levels_of, levels_at}
use Rattle.rules.specs.Piece.{name_of, bare_of, times_padded, text_of}
use Rattle.rules.specs.Working.{work_out, settle}
use Rattle.rules.specs.Act.{act_of}
use Rattle.rules.specs.Run.{turn, walk, run}
use Rattle.rules.specs.Answer.{fit, answer_of}
use Rattle.rules.specs.Table.{Entry, pool_of, signed_of, entry_at, right_for, value_by, value_at, first_bad, table_verdict, values_from, view_of}
use Rattle.vet_rules.specs.Encode.{be32_bytes, entry_bytes}
use Rattle.vet_rules.specs.Plain.{plain_item, plain_from}
use Rattle.vet_rules.specs.Worst.{larger, top_of, greatest, spans_of, worst}
use Rattle.vet_rules.specs.Turns.{turn_of}
use Rattle.vet_rules.specs.Ways.{meeting, has_fallback, start_of, way_of}
use Rattle.vet_rules.specs.Vet.{asked_verdict, vet_of}

abbrev integer : ℕ → Entry
integer n = record { tag = 1; zeros = 0; high = 0; low = n }

abbrev character : ℕ → Entry
character n = record { tag = 2; zeros = 0; high = 0; low = n }

abbrev string : ℕ → ℕ → Entry
string offset size = record { tag = 3; zeros = 0; high = offset; low = size }

abbrev list : ℕ → ℕ → Entry
list first count = record { tag = 4; zeros = 0; high = first; low = count }

abbrev all_bytes : List Entry → List ℕ
all_bytes [] = []
all_bytes (e ∷ es) = entry_bytes e ++ all_bytes es

-- the table of these entries, the first m of them arguments, and this pool
abbrev table_with : ℕ → List Entry → List ℕ → List ℕ
table_with m es pool =
    length es / 256 ∷ length es % 256 ∷ m / 256 ∷ m % 256 ∷ be32_bytes (length pool) (all_bytes es ++ pool)

-- what is asked of a format: its text over a table, its text and steps, or its count over kinds and L
data Asked : Type 0 where
  formatted : List ℕ → Asked
  stepped : List ℕ → Asked
  vetted : List ℕ → ℕ → Asked

-- what comes out: the code, and with it the text, the steps and the text, or the count
data Shown : Type 0 where
  text : ℕ → List ℕ → Shown
  text_in : ℕ → ℕ → List ℕ → Shown
  count : ℕ → ℕ → Shown

-- in a buffer of 64 bytes
abbrev shown : List ℕ → Asked → Shown
shown format (formatted t) = text (answer_of format t 64).code (answer_of format t 64).text
shown format (stepped t) = text_in (answer_of format t 64).code (answer_of format t 64).steps (answer_of format t 64).text
shown format (vetted kinds longest) = count (vet_of format kinds longest).code (vet_of format kinds longest).count

record Fact : Type 0 where
  format : List ℕ
  asked : Asked
  result : Shown

abbrev fact : List ℕ → Asked → Shown → Fact
fact format asked result = record { format = format; asked = asked; result = result }

abbrev AllHold : List Fact → Type 0
AllHold fs = map (λ (f : Fact). shown f.format f.asked) fs ≡ map (λ (f : Fact). f.result) fs

the_twelve :
    AllHold (
    -- `~5,1,4a` "abc": `abc` and four spaces
    fact (bytes "~5,1,4a") (formatted (table_with 1 (string 0 3 ∷ []) (bytes "abc")))
    (text 0 (bytes "abc    "))
    -- `~5,,,'-@a` "abc": `--abc`
    ∷ fact (bytes "~5,,,'-@a") (formatted (table_with 1 (string 0 3 ∷ []) (bytes "abc")))
    (text 0 (bytes "--abc"))
    -- `~10,'*,'/,2:d` 12345: `***1/23/45`
    ∷ fact (bytes "~10,'*,'/,2:d") (formatted (table_with 1 (integer 12345 ∷ []) []))
    (text 0 (bytes "***1/23/45"))
    -- `~@b` 12: `+1100`
    ∷ fact (bytes "~@b") (formatted (table_with 1 (integer 12 ∷ []) []))
    (text 0 (bytes "+1100"))
    -- `~d ~2*~d` 1 2 3 4: `1 4`
    ∷ fact (bytes "~d ~2*~d") (formatted (table_with 4 (integer 1 ∷ integer 2 ∷ integer 3 ∷ integer 4 ∷ []) []))
    (text 0 (bytes "1 4"))
    -- `~d~d~d ~1@*~d~d` 1 2 3: `123 23`
    ∷ fact (bytes "~d~d~d ~1@*~d~d") (formatted (table_with 3 (integer 1 ∷ integer 2 ∷ integer 3 ∷ []) []))
    (text 0 (bytes "123 23"))
    -- `~#*~2:*~a` "a" "b" "c" "d": `c`
    ∷ fact (bytes "~#*~2:*~a") (formatted (table_with 4 (string 0 1 ∷ string 1 1 ∷ string 2 1 ∷ string 3 1 ∷ []) (bytes "abcd")))
    (text 0 (bytes "c"))
    -- `~d pupp~:@p` 5: `5 puppies`
    ∷ fact (bytes "~d pupp~:@p") (formatted (table_with 1 (integer 5 ∷ []) []))
    (text 0 (bytes "5 puppies"))
    -- `~@{~d~}` 1 2 3: `123`, 7 steps
    ∷ fact (bytes "~@{~d~}") (stepped (table_with 3 (integer 1 ∷ integer 2 ∷ integer 3 ∷ []) []))
    (text_in 0 7 (bytes "123"))
    -- `~2{~d~}` list 1 2 3 4: `12`
    ∷ fact (bytes "~2{~d~}") (formatted (table_with 1 (list 1 4 ∷ integer 1 ∷ integer 2 ∷ integer 3 ∷ integer 4 ∷ []) []))
    (text 0 (bytes "12"))
    -- `~:c` newline: `^J`
    ∷ fact (bytes "~:c") (formatted (table_with 1 (character 10 ∷ []) []))
    (text 0 (bytes "^J"))
    -- Vet `~5,4a`, string, L 5: 8
    ∷ fact (bytes "~5,4a") (vetted (3 ∷ []) 5)
    (count 0 8)
    ∷ [])
unfolding signed_of digits_with digits_of grouped splits pad_left code_named step blanks scan item_of well_written tokens_from tokens_at directive_met verdict_of text_verdict levels_of levels_at name_of bare_of times_padded text_of work_out settle turn walk run fit answer_of pool_of entry_at right_for value_by value_at first_bad table_verdict values_from view_of entry_bytes plain_item plain_from act_of larger top_of greatest spans_of worst asked_verdict turn_of meeting has_fallback start_of way_of vet_of
the_twelve = refl
