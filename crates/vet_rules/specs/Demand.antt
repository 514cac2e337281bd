-- Demand 3: what a vet's answer promises over all tables and buffers. Assumes nothing: these are definitions.
use Rattle.std.specs.Prelude.{ℕ, ◌+◌, ◌≤◌, ◌<◌, ◌≡◌, ◌↔◌, ◌⊎◌, true, false, cond, List, ltb, length, get_or}
use Rattle.rules.specs.Directive.{item_at}
use Rattle.rules.specs.Table.{argument_count, entry_at, value_at, string_in, table_verdict, view_of}
use Rattle.rules.specs.Text.{sequence_of, text_verdict}
use Rattle.rules.specs.Flow.{Flow, done, refused, put, given_text}
use Rattle.rules.specs.Answer.{flow_of, answer_of}
use Rattle.rules.specs.declared.Bracket.TheVariants.{Conditional}
use Rattle.rules.specs.declared.Code.TheVariants.{Opens}
use Rattle.rules.specs.declared.Directive.{Directive}
use Rattle.rules.specs.declared.Item.TheVariants.{Written}
use Rattle.rules.specs.Verdict.{Accepted as accepted, Refused as refusal}
use Rattle.vet_rules.specs.Plain.{plain_verdict, vettable_verdict}
use Rattle.vet_rules.specs.Turns.{kind_in}
use Rattle.vet_rules.specs.Vet.{may_ask, declined, counted, vet_of, Vetted}
use Rattle.vet_rules.specs.Ways.{fails, way_of}

-- "A valid table with exactly those kinds and no longer strings passes the table check, has as many arguments as there
-- are kinds, each with the tag of its kind in order, and no string argument above L bytes; its other entries may be any."
pub record Suits (kinds : List ℕ) (longest : ℕ) (table : List ℕ) : Type 0 where
  pub bytes : (i : ℕ) → get_or table i 0 < 256
  pub valid : table_verdict table ≡ accepted
  pub count : argument_count table ≡ length kinds
  pub tags : (i : ℕ) → i < length kinds → (entry_at table i).tag ≡ kind_in kinds i
  pub short : (i : ℕ) → i < length kinds → length (string_in (value_at table i)) ≤ longest

-- "the pieces that the rules give it before the position of vet's refusal": how long they are together
unfoldable pub bytes_before : ℕ → Flow → ℕ
bytes_before position (done left over) = 0
bytes_before position (refused code p left) = 0
bytes_before position (put p left piece more) = cond (ltb p position) (length piece) 0 + bytes_before position more

-- the run of a format over a table's arguments
abbrev pub run_of : List ℕ → List ℕ → Flow
run_of format table = flow_of format (view_of table)

-- "To format without refusal is code 0 with the text that these rules give"
pub record Formats (format table : List ℕ) (room : ℕ) : Type 0 where
  pub code : (answer_of format table room).code ≡ 0
  pub position : (answer_of format table room).position ≡ 0
  pub text : (answer_of format table room).text ≡ given_text (run_of format table)

-- "to fill a size is to do so with exactly that many bytes written"
pub record Fills (format table : List ℕ) (size : ℕ) : Type 0 where
  pub formats : Formats format table size
  pub written : length (answer_of format table size).text ≡ size

-- A count that is always enough: every such table is formatted in every buffer of that count or larger. "For accepted
-- ones no table as in demand 3 is refused in a buffer of that size or larger."
abbrev pub Enough : List ℕ → List ℕ → ℕ → ℕ → Type 0
Enough format kinds longest count =
    (table : List ℕ) → Suits kinds longest table → (room : ℕ) → count ≤ room → Formats format table room

-- A count that some table fills to the last byte; and "want of room is code 10": no smaller buffer will do for it
pub record Filled (format kinds : List ℕ) (longest count : ℕ) : Type 0 where
  pub table : List ℕ
  pub suits : Suits kinds longest table
  pub fills : Fills format table count
  pub least : (room : ℕ) → room < count → (answer_of format table room).code ≡ 10

-- "There is room enough for a table when the pieces that the rules give it before the position of vet's refusal are
-- together no longer than the buffer."
abbrev pub room_needed : List ℕ → List ℕ → ℕ → ℕ
room_needed format table position = bytes_before position (run_of format table)

-- Refused for its arguments: every such table is refused in every buffer; where there is room enough "for that same
-- reason", which "is with the same code and position", and else for want of room
pub record Refused (format kinds : List ℕ) (longest code position : ℕ) : Type 0 where
  pub same : (table : List ℕ) → Suits kinds longest table → (room : ℕ) → room_needed format table position ≤ room
      → ((answer_of format table room).code ≡ code) × ((answer_of format table room).position ≡ position)
  pub full : (table : List ℕ) → Suits kinds longest table → (room : ℕ) → room < room_needed format table position
      → (answer_of format table room).code ≡ 10
  -- there is such a table
  pub table : List ℕ
  pub suits : Suits kinds longest table

-- "formats plain as before"
abbrev pub IsPlain : List ℕ → Type 0
IsPlain format = plain_verdict format ≡ accepted

-- a conditional opens at p
pub record OpensAt (format : List ℕ) (p : ℕ) : Type 0 where
  pub opener : Directive
  pub is : item_at format p ≡ Written opener
  pub code : opener.code ≡ Opens Conditional

-- "its codes 2 to 5, 11 and 12 have exact causes", in the order of the rules
pub record Causes (format kinds : List ℕ) (longest : ℕ) (r : Vetted) : Type 0 where
  -- 12, at 0: "more than 1,024 kinds, unknown tag, L above 4,096"
  pub asked : (r ≡ declined 12 0) ↔ (may_ask kinds longest ≡ false)
  -- 2 to 5: what the text is refused for, wherever it is formatted
  pub text : (code position : ℕ) → 2 ≤ code → code ≤ 5
      → (r ≡ declined code position) ↔ ((may_ask kinds longest ≡ true) × (text_verdict format ≡ refusal code position))
  -- 11: the first tilde that no vet takes, seen in the text; or else a conditional whose ways end at more than one
  -- argument, or `~@[` for another kind than a boolean, met on the way at its tilde. No plain format has it
  pub not_vettable : (position : ℕ) → (r ≡ declined 11 position)
      ↔ ((may_ask kinds longest ≡ true) × (text_verdict format ≡ accepted)
      × ((vettable_verdict format ≡ refusal 11 position)
      ⊎ ((vettable_verdict format ≡ accepted) × (way_of kinds longest (sequence_of format) 0 0 ≡ fails 11 position))))
  pub block : (position : ℕ) → r ≡ declined 11 position → vettable_verdict format ≡ accepted → OpensAt format position
  pub plain : IsPlain format → r.code ≡ 11 → ⊥
  -- there are no other codes but 0 and 6 to 8, and "a refusal's count is 0"
  pub others : (r ≡ counted r.count) ⊎ (((2 ≤ r.code) × (r.code ≤ 8)) ⊎ ((11 ≤ r.code) × (r.code ≤ 12)))
  pub none : (r.code ≡ 0 → ⊥) → r.count ≡ 0

-- What a vet promises of its answer: it is the definition's, with exact causes; "accepted is vet's code 0, and the count
-- is the one answered with it. Refused for its arguments is vet's 6 to 8"
pub record Promised (format kinds : List ℕ) (longest : ℕ) (r : Vetted) : Type 0 where
  pub is : r ≡ vet_of format kinds longest
  pub causes : Causes format kinds longest r
  pub enough : r.code ≡ 0 → Enough format kinds longest r.count
  -- "That the count be filled, and that a refusal mean a failing table, is asked only for formats plain as before."
  pub filled : IsPlain format → r.code ≡ 0 → Filled format kinds longest r.count
  pub refused : IsPlain format → 6 ≤ r.code → r.code ≤ 8 → Refused format kinds longest r.code r.position
