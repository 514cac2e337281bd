-- What the parts of the check of a text answer, in terms of the definition of the first fault.
-- Assumes nothing: these are definitions.
use Rattle.std.specs.Prelude.{ℕ, suc, ◌+◌, ◌≤◌, ◌≡◌, Bool, true, false, cond, not, List, [], ◌∷◌, ltb, eqb, length, Option, None, Some, Result, Ok, Err, ⊤}
use Rattle.rules.specs.Rows.{well_written}
use Rattle.rules.specs.Text.{Block, opens_conditional, deepest, verdict_at}
use Rattle.rules.specs.declared.Bracket.{Bracket}
use Rattle.rules.specs.declared.Bracket.TheVariants.{Conditional, Iteration}
use Rattle.rules.specs.declared.Code.{Code}
use Rattle.rules.specs.declared.Code.TheVariants.{Writes, Jump, Escape, Opens, Separator, Closes, Unknown}
use Rattle.rules.specs.declared.Directive.{Directive}
use Rattle.rules.specs.declared.Item.{Item}
use Rattle.rules.specs.declared.Item.TheVariants.{End, Literal, Written, BadNumber, Unfinished}
use Rattle.rules.specs.Verdict.{Verdict, verdict_as}
use Rattle.rules.specs.declared.refusal.Fault.{Fault}
use Rattle.rules.specs.declared.refusal.Refusal.{Refusal}
use Rattle.rules.specs.declared.refusal.Refusal.TheVariants.{UnknownCode, BadBlock, BadParameter}
use Rattle.reader.specs.Marks.{mark_code, mark_colon, mark_at_sign}
use Rattle.reader.specs.declared.marks.Mark.{Mark}
use Rattle.reader.specs.declared.marks.Mark.TheVariants.{Numbered as NumberedMark, TwoClauses as TwoClausesMark, OneClause as OneClauseMark}
use Rattle.syntax.specs.declared.meeting.Around.{Around}
use Rattle.syntax.specs.declared.meeting.Around.TheVariants.{Top, Numbered, TwoClauses, OneClause, Repeated}
use Rattle.syntax.specs.declared.meeting.Scope.{Scope}
use Rattle.syntax.specs.declared.meeting.Met.{Met}
use Rattle.syntax.specs.declared.meeting.Met.TheVariants.{Ends, Stays, Enters, Parts, Leaves}

-- 1. What a block is asked for, by the kind of its opener.

abbrev pub has_clauses : Around → Bool
has_clauses Top = false
has_clauses Numbered = true
has_clauses TwoClauses = true
has_clauses OneClause = true
has_clauses Repeated = false

abbrev pub is_repeated : Around → Bool
is_repeated Top = false
is_repeated Numbered = false
is_repeated TwoClauses = false
is_repeated OneClause = false
is_repeated Repeated = true

-- whether a `~;`, or a `~:;` if colon holds, may part the block
abbrev pub parted_by : Around → Bool → Bool
parted_by Top colon = false
parted_by Numbered colon = true
parted_by TwoClauses colon = not colon
parted_by OneClause colon = not colon
parted_by Repeated colon = false

-- .. after a `~:;` if f holds
abbrev pub may_part : Around → Bool → Bool → Bool
may_part a f colon = cond f false (parted_by a colon)

abbrev pub count_in : Around → ℕ → Bool
count_in Top n = true
count_in Numbered n = true
count_in TwoClauses n = eqb n 1
count_in OneClause n = eqb n 0
count_in Repeated n = true

abbrev pub block_by : Bracket → Bool → Bool → Around
block_by Conditional colon atsign = cond colon TwoClauses (cond atsign OneClause Numbered)
block_by Iteration colon atsign = Repeated

abbrev pub block_of_mark : Mark → Around
block_of_mark NumberedMark = Numbered
block_of_mark TwoClausesMark = TwoClauses
block_of_mark OneClauseMark = OneClause
block_of_mark _ = Repeated

-- 2. What an item at p does, after which the text goes on at next; `unless` its tests hold it is refused.

abbrev pub ensured : Bool → Refusal → ℕ → Result ⊤ Fault
ensured true r p = Ok tt
ensured false r p = Err (record { refusal = r; position = p })

abbrev pub unless : Bool → Refusal → ℕ → Result Met Fault → Result Met Fault
unless true r p m = m
unless false r p m = Err (record { refusal = r; position = p })

abbrev pub met_opener : ℕ → ℕ → Bool → Around → ℕ → Result Met Fault
met_opener p after well block room = unless (ltb 0 room) BadBlock p (unless well BadParameter p (Ok (Enters block after)))

abbrev pub met_separator : ℕ → ℕ → Bool → Bool → Around → Bool → Result Met Fault
met_separator p after well colon a f = unless (may_part a f colon) BadBlock p (unless well BadParameter p (Ok (Parts colon after)))

abbrev pub met_end_conditional : ℕ → ℕ → Bool → Around → ℕ → ℕ → Result Met Fault
met_end_conditional p after well a q n =
    unless (has_clauses a) BadBlock p (unless (count_in a n) BadBlock q (unless well BadParameter p (Ok (Leaves after))))

abbrev pub met_end_iteration : ℕ → ℕ → Bool → Around → ℕ → ℕ → Result Met Fault
met_end_iteration p after well a q start =
    unless (is_repeated a) BadBlock p (unless (not (eqb start p)) BadBlock q (unless well BadParameter p (Ok (Leaves after))))

-- a directive, by whether it is well written, its modifiers and its code
unfoldable pub met_by : ℕ → ℕ → Bool → Bool → Bool → Code → Scope → Result Met Fault
met_by p after well colon atsign (Writes x) s = unless well BadParameter p (Ok (Stays after))
met_by p after well colon atsign Jump s = unless well BadParameter p (Ok (Stays after))
met_by p after well colon atsign Escape s = unless well BadParameter p (Ok (Stays after))
met_by p after well colon atsign (Opens b) s = met_opener p after well (block_by b colon atsign) s.room
met_by p after well colon atsign Separator s = met_separator p after well colon s.around s.fallback
met_by p after well colon atsign (Closes Conditional) s = met_end_conditional p after well s.around s.opened s.separators
met_by p after well colon atsign (Closes Iteration) s = met_end_iteration p after well s.around s.opened s.start
met_by p after well colon atsign Unknown s = Err (record { refusal = UnknownCode; position = p })

abbrev pub met_mark : ℕ → ℕ → Mark → Scope → Result Met Fault
met_mark p after m s = met_by p after true (mark_colon m) (mark_at_sign m) (mark_code m) s

abbrev pub met_end : Around → ℕ → Result Met Fault
met_end Top q = Ok Ends
met_end Numbered q = Err (record { refusal = BadBlock; position = q })
met_end TwoClauses q = Err (record { refusal = BadBlock; position = q })
met_end OneClause q = Err (record { refusal = BadBlock; position = q })
met_end Repeated q = Err (record { refusal = BadBlock; position = q })

abbrev pub met_item : ℕ → Item → Scope → Result Met Fault
met_item p End s = met_end s.around s.opened
met_item p (Literal b) s = Ok (Stays (p + 1))
met_item p (Written d) s = met_by p d.after (well_written d) d.colon d.atsign d.code s
met_item p BadNumber s = Err (record { refusal = BadParameter; position = p })
met_item p Unfinished s = Err (record { refusal = UnknownCode; position = p })

-- 3. The inside of a block.

abbrev pub block_of : ℕ → Directive → ℕ → Bool → Block
block_of p d n f = record { position = p; opener = d; separators = n; fallback = f }

-- the open blocks, where the innermost, opened by o at q, has n separators, the last a `~:;` or not, and os are the others
abbrev pub blocks : Around → ℕ → Directive → ℕ → Bool → List Block → List Block
blocks Top q o n f os = []
blocks Numbered q o n f os = block_of q o n f ∷ os
blocks TwoClauses q o n f os = block_of q o n f ∷ os
blocks OneClause q o n f os = block_of q o n f ∷ os
blocks Repeated q o n f os = block_of q o n f ∷ os

-- how many they are
abbrev pub levels : Around → List Block → ℕ
levels Top os = 0
levels Numbered os = suc (length os)
levels TwoClauses os = suc (length os)
levels OneClause os = suc (length os)
levels Repeated os = suc (length os)

-- o is an opener of the kind
abbrev pub Kind : Around → Directive → Type 0
Kind Top o = Unit
Kind Numbered o = (opens_conditional o.code ≡ true) × ((o.colon ≡ false) × (o.atsign ≡ false))
Kind TwoClauses o = (opens_conditional o.code ≡ true) × (o.colon ≡ true)
Kind OneClause o = (opens_conditional o.code ≡ true) × ((o.colon ≡ false) × (o.atsign ≡ true))
Kind Repeated o = opens_conditional o.code ≡ false

-- .. and what it opens has its inside from start on
pub record Opener (a : Around) (start : ℕ) (o : Directive) : Type 0 where
  pub kind : Kind a o
  pub after : o.after ≡ start

-- what follows the reading of a block that ended so, inside the other blocks
abbrev pub onward : List ℕ → Result (Option ℕ) Fault → List Block → Verdict
onward t (Err f) os = verdict_as (Err f)
onward t (Ok None) os = verdict_as (Ok tt)
onward t (Ok (Some q)) os = verdict_at t os q

-- room more blocks may be open
pub record Room (a : Around) (os : List Block) (room : ℕ) : Type 0 where
  pub is : levels a os + room ≡ deepest

-- only a block is closed, and the text goes on behind where its inside began
abbrev pub Goes : List ℕ → ℕ → Around → Result (Option ℕ) Fault → Type 0
Goes t start a (Err f) = Unit
Goes t start a (Ok None) = Unit
Goes t start a (Ok (Some q)) = (levels a [] ≡ 1) × ((start ≤ q) × (q ≤ length t))

-- whatever directive of the kind opens the block at q, and whatever other blocks are open, reading from start on ends as
-- r says
pub record Checks (t : List ℕ) (start room : ℕ) (a : Around) (q : ℕ) (r : Result (Option ℕ) Fault) : Type 0 where
  pub same : (o : Directive) → Opener a start o → (os : List Block) → Room a os room
      → verdict_at t (blocks a q o 0 false os) start ≡ onward t r os
  pub goes : Goes t start a r
