-- The vet lines of 01, a count for each directive, a refusal for each code, conditionals, and an encoded table, worked out
-- by the definitions; ⏎ is a newline. Assumes nothing.
use Rattle.std.specs.Prelude.{ℕ, ◌≡◌, refl, List, [], ◌∷◌, map, replicate}
use Rattle.rules.specs.Letters.{bytes}
use Rattle.rules.specs.Number.{digits_with, digits_of, grouped, splits, pad_left}
use Rattle.rules.specs.Directive.{code_named, step, blanks, scan, item_of}
use Rattle.rules.specs.Rows.{well_written}
use Rattle.rules.specs.Text.{tokens_from, tokens_at, directive_met, verdict_of, text_verdict, levels_of, levels_at}
use Rattle.rules.specs.Piece.{name_of, times_padded, text_of}
use Rattle.rules.specs.Working.{work_out, settle}
use Rattle.rules.specs.Act.{act_of}
use Rattle.vet_rules.specs.Vet.{Vetted, asked_verdict, counted, declined, vet_of}
use Rattle.vet_rules.specs.Encode.{entry_bytes, entries_from, header_bytes, table_of}
use Rattle.vet_rules.specs.Plain.{plain_item, plain_from}
use Rattle.vet_rules.specs.Worst.{larger, top_of, greatest, spans_of, worst}
use Rattle.vet_rules.specs.Turns.{turn_of}
use Rattle.vet_rules.specs.Ways.{meeting, has_fallback, start_of, way_of}

-- a format, the kinds, L, and the answer
record Case : Type 0 where
  format : List ℕ
  kinds : List ℕ
  longest : ℕ
  answer : Vetted

abbrev case : List ℕ → List ℕ → ℕ → Vetted → Case
case format kinds longest answer = record { format = format; kinds = kinds; longest = longest; answer = answer }

abbrev AllRight : List Case → Type 0
AllRight cs = map (λ (c : Case). vet_of c.format c.kinds c.longest) cs ≡ map (λ (c : Case). c.answer) cs

-- the vet lines of 01
the_lines :
    AllRight (
    -- `~5,4a`, string, L 5: 8
    case (bytes "~5,4a") (3 ∷ []) 5 (counted 8)
    -- `~20,10a~:p`, integer: 30
    ∷ case (bytes "~20,10a~:p") (1 ∷ []) 0 (counted 30)
    -- `~d item~:p`, integer: 26
    ∷ case (bytes "~d item~:p") (1 ∷ []) 0 (counted 26)
    ∷ [])
unfolding digits_with digits_of grouped splits pad_left code_named step blanks scan item_of well_written tokens_from tokens_at directive_met verdict_of text_verdict levels_of levels_at name_of times_padded text_of work_out settle plain_item plain_from act_of larger top_of greatest spans_of worst asked_verdict turn_of meeting has_fallback start_of way_of vet_of
the_lines = refl

-- a count for each directive, with its modifiers and with parameters
counts :
    AllRight (
    -- `~a`, boolean: 2
    case (bytes "~a") (0 ∷ []) 0 (counted 2)
    -- `~a`, character: 1
    ∷ case (bytes "~a") (2 ∷ []) 0 (counted 1)
    -- `~s`, character: 11
    ∷ case (bytes "~s") (2 ∷ []) 0 (counted 11)
    -- `~10,3@s`, character: 12
    ∷ case (bytes "~10,3@s") (2 ∷ []) 0 (counted 12)
    -- `~s`, string, L 5: 12
    ∷ case (bytes "~s") (3 ∷ []) 5 (counted 12)
    -- `~14,5s`, string, L 5: 18
    ∷ case (bytes "~14,5s") (3 ∷ []) 5 (counted 18)
    -- `~,,2s`, string, L 0: 4
    ∷ case (bytes "~,,2s") (3 ∷ []) 0 (counted 4)
    -- `~@b`, integer: 65
    ∷ case (bytes "~@b") (1 ∷ []) 0 (counted 65)
    -- `~:d`, integer: 26
    ∷ case (bytes "~:d") (1 ∷ []) 0 (counted 26)
    -- `~30,'*,'/,2:x`, integer: 30
    ∷ case (bytes "~30,'*,'/,2:x") (1 ∷ []) 0 (counted 30)
    -- `~o~x`, integer, integer: 40
    ∷ case (bytes "~o~x") (1 ∷ 1 ∷ []) 0 (counted 40)
    -- `~3,'vd v`, integer: 22
    ∷ case (bytes "~3,'vd v") (1 ∷ []) 0 (counted 22)
    -- `~c~:c~@c`, character, character, character: 14
    ∷ case (bytes "~c~:c~@c") (2 ∷ 2 ∷ 2 ∷ []) 0 (counted 14)
    -- `~8@c~#:c`, no kinds: 13
    ∷ case (bytes "~8@c~#:c") [] 0 (counted 13)
    -- `~a~:p~:@p`, integer: 24
    ∷ case (bytes "~a~:p~:@p") (1 ∷ []) 0 (counted 24)
    -- `~p~:@p`, list: 4
    ∷ case (bytes "~p~:@p") (4 ∷ []) 0 (counted 4)
    -- `~3%~~~0|~_~/`, no kinds: 6
    ∷ case (bytes "~3%~~~0|~_~/") [] 0 (counted 6)
    -- `a~⏎  b~@⏎ c~:⏎ d`, no kinds: 6
    ∷ case (bytes "a~\n  b~@\n c~:\n d") [] 0 (counted 6)
    -- `~a~a~#%`, boolean, boolean, list, list: 6
    ∷ case (bytes "~a~a~#%") (0 ∷ 0 ∷ 4 ∷ 4 ∷ []) 0 (counted 6)
    ∷ [])
unfolding digits_with digits_of grouped splits pad_left code_named step blanks scan item_of well_written tokens_from tokens_at directive_met verdict_of text_verdict levels_of levels_at name_of times_padded text_of work_out settle plain_item plain_from act_of larger top_of greatest spans_of worst asked_verdict turn_of meeting has_fallback start_of way_of vet_of
counts = refl

-- a refusal for each code, and what comes first where there are several
refusals :
    AllRight (
    -- `~q~a`, tag 5: code 12 at 0
    case (bytes "~q~a") (5 ∷ []) 0 (declined 12 0)
    -- `a~q`, no kinds: code 3 at 1
    ∷ case (bytes "a~q") [] 0 (declined 3 1)
    -- `a~[b`, no kinds: code 4 at 1
    ∷ case (bytes "a~[b") [] 0 (declined 4 1)
    -- `~5p`, no kinds: code 5 at 0
    ∷ case (bytes "~5p") [] 0 (declined 5 0)
    -- `~*~q`, no kinds: code 3 at 2
    ∷ case (bytes "~*~q") [] 0 (declined 3 2)
    -- `~d~*`, no kinds: code 11 at 2
    ∷ case (bytes "~d~*") [] 0 (declined 11 2)
    -- `~d~va~*`, no kinds: code 11 at 2
    ∷ case (bytes "~d~va~*") [] 0 (declined 11 2)
    -- `~,Vd`, no kinds: code 11 at 0
    ∷ case (bytes "~,Vd") [] 0 (declined 11 0)
    -- `x~{y~}`, no kinds: code 11 at 1
    ∷ case (bytes "x~{y~}") [] 0 (declined 11 1)
    -- `~^`, no kinds: code 11 at 0
    ∷ case (bytes "~^") [] 0 (declined 11 0)
    -- `:~:p`, integer: code 6 at 1
    ∷ case (bytes ":~:p") (1 ∷ []) 0 (declined 6 1)
    -- `~a~a`, string, L 0: code 6 at 2
    ∷ case (bytes "~a~a") (3 ∷ []) 0 (declined 6 2)
    -- `~a`, list: code 7 at 0
    ∷ case (bytes "~a") (4 ∷ []) 0 (declined 7 0)
    -- `a~d`, string, L 0: code 7 at 1
    ∷ case (bytes "a~d") (3 ∷ []) 0 (declined 7 1)
    -- `~c`, integer: code 7 at 0
    ∷ case (bytes "~c") (1 ∷ []) 0 (declined 7 0)
    -- `~,#a`, no kinds: code 8 at 0
    ∷ case (bytes "~,#a") [] 0 (declined 8 0)
    -- `~a~,#s`, integer: code 8 at 2
    ∷ case (bytes "~a~,#s") (1 ∷ []) 0 (declined 8 2)
    -- 1,025 kinds: code 12 at 0
    ∷ case [] (replicate 1025 0) 0 (declined 12 0)
    -- L 4,097: code 12 at 0
    ∷ case [] [] 4097 (declined 12 0)
    -- a format of 4,097 bytes: code 2 at 4,096
    ∷ case (replicate 4097 97) [] 0 (declined 2 4096)
    ∷ [])
unfolding digits_with digits_of grouped splits pad_left code_named step blanks scan item_of well_written tokens_from tokens_at directive_met verdict_of text_verdict levels_of levels_at name_of times_padded text_of work_out settle plain_item plain_from act_of larger top_of greatest spans_of worst asked_verdict turn_of meeting has_fallback start_of way_of vet_of
refusals = refl

-- conditionals: a count, a refusal for each cause, and what comes first
conditionals :
    AllRight (
    -- `~[no~;yes~:;some~]!`, integer: 5
    case (bytes "~[no~;yes~:;some~]!") (1 ∷ []) 0 (counted 5)
    -- `~[~]`, integer: 0
    ∷ case (bytes "~[~]") (1 ∷ []) 0 (counted 0)
    -- `~#[none~;~:[a~;bc~]~]`, boolean: code 11 at 0
    ∷ case (bytes "~#[none~;~:[a~;bc~]~]") (0 ∷ []) 0 (declined 11 0)
    -- `~#[none~:;~:[a~;bc~]~]`, boolean: code 11 at 0
    ∷ case (bytes "~#[none~:;~:[a~;bc~]~]") (0 ∷ []) 0 (declined 11 0)
    -- `~:[~d~;~5,30a~]`, list, integer: 34
    ∷ case (bytes "~:[~d~;~5,30a~]") (4 ∷ 1 ∷ []) 0 (counted 34)
    -- `~@[wind ~a, ~]calm`, boolean: 13
    ∷ case (bytes "~@[wind ~a, ~]calm") (0 ∷ []) 0 (counted 13)
    -- `~1[x~:;~:[ab~;c~]~]`, boolean: code 11 at 0
    ∷ case (bytes "~1[x~:;~:[ab~;c~]~]") (0 ∷ []) 0 (declined 11 0)
    -- `~0[~d~]`, integer: code 11 at 0
    ∷ case (bytes "~0[~d~]") (1 ∷ []) 0 (declined 11 0)
    -- `~:[~d~;x~]`, integer: code 6 at 3
    ∷ case (bytes "~:[~d~;x~]") (1 ∷ []) 0 (declined 6 3)
    -- `~@[~d~]`, integer: code 11 at 0
    ∷ case (bytes "~@[~d~]") (1 ∷ []) 0 (declined 11 0)
    -- `~@[~d~]`, boolean: code 7 at 3
    ∷ case (bytes "~@[~d~]") (0 ∷ []) 0 (declined 7 3)
    -- `~@[~a~]`, no kinds: code 6 at 0
    ∷ case (bytes "~@[~a~]") [] 0 (declined 6 0)
    -- `~[a~]`, string: code 7 at 0
    ∷ case (bytes "~[a~]") (3 ∷ []) 0 (declined 7 0)
    -- `~[~d~:;~c~]`, integer, integer: code 7 at 7
    ∷ case (bytes "~[~d~:;~c~]") (1 ∷ 1 ∷ []) 0 (declined 7 7)
    -- `~[~d~:;~d~]`, integer, integer: 20
    ∷ case (bytes "~[~d~:;~d~]") (1 ∷ 1 ∷ []) 0 (counted 20)
    -- `~[~d~;~d~]`, integer, integer: code 11 at 0
    ∷ case (bytes "~[~d~;~d~]") (1 ∷ 1 ∷ []) 0 (declined 11 0)
    -- `x~[a~:;~[b~:;~d~]~]`, integer, integer, integer: code 11 at 7
    ∷ case (bytes "x~[a~:;~[b~:;~d~]~]") (1 ∷ 1 ∷ 1 ∷ []) 0 (declined 11 7)
    -- `~[a~]~*`, integer: code 11 at 5
    ∷ case (bytes "~[a~]~*") (1 ∷ []) 0 (declined 11 5)
    -- `~v[a~]`, integer: code 11 at 0
    ∷ case (bytes "~v[a~]") (1 ∷ []) 0 (declined 11 0)
    -- `~[a~;~d~;~c~]`, integer, integer: code 7 at 9
    ∷ case (bytes "~[a~;~d~;~c~]") (1 ∷ 1 ∷ []) 0 (declined 7 9)
    -- `~[~,#a~]`, integer: code 8 at 2
    ∷ case (bytes "~[~,#a~]") (1 ∷ []) 0 (declined 8 2)
    -- `~:[a~;b~]`, no kinds: code 6 at 0
    ∷ case (bytes "~:[a~;b~]") [] 0 (declined 6 0)
    -- `~@[x~]`, boolean: code 11 at 0
    ∷ case (bytes "~@[x~]") (0 ∷ []) 0 (declined 11 0)
    -- `~0[a~;~d~]`, no kinds: code 6 at 6
    ∷ case (bytes "~0[a~;~d~]") [] 0 (declined 6 6)
    -- `~[~:p~;xy~]`, integer: 2
    ∷ case (bytes "~[~:p~;xy~]") (1 ∷ []) 0 (counted 2)
    ∷ [])
unfolding digits_with digits_of grouped splits pad_left code_named step blanks scan item_of well_written tokens_from tokens_at directive_met verdict_of text_verdict levels_of levels_at name_of times_padded text_of work_out settle plain_item plain_from act_of larger top_of greatest spans_of worst asked_verdict turn_of meeting has_fallback start_of way_of vet_of
conditionals = refl

-- the table of 01's whole case, encoded: 00010001 00000003 03000000 00000000 00000003 616263
whole_case : table_of 1 (λ _. record { tag = 3; zeros = 0; high = 0; low = 3 }) (bytes "abc")
    ≡ 0 ∷ 1 ∷ 0 ∷ 1 ∷ 0 ∷ 0 ∷ 0 ∷ 3 ∷ 3 ∷ 0 ∷ 0 ∷ 0 ∷ 0 ∷ 0 ∷ 0 ∷ 0 ∷ 0 ∷ 0 ∷ 0 ∷ 3 ∷ 97 ∷ 98 ∷ 99 ∷ []
unfolding table_of header_bytes entries_from entry_bytes
whole_case = refl
