-- What a state means: the bytes that are still to come, and how the run ends. Assumes nothing: these are definitions.
use Rattle.std.specs.Prelude.{ℕ, zero, suc, Bool, true, List, [], ◌++◌, leb, ltb, length, drop}
use Rattle.rules.specs.Choice.{both, choose}
use Rattle.rules.specs.Flow.{Flow, limit, given_text, finish_of}
use Rattle.rules.specs.Table.{view_of, table_verdict}
use Rattle.rules.specs.Text.{deepest, longest, text_verdict}
use Rattle.rules.specs.Answer.{flow_of}
use Rattle.rules.specs.Verdict.{Verdict}
use Rattle.rules.specs.Verdict.{Accepted, Refused}
use Rattle.pieces.specs.Rest.{rest_of}
use Rattle.pieces.specs.declared.resuming.QuoteRest.{QuoteRest}
use Rattle.nesting.specs.Nest.{hand_lies, all_lie}
use Rattle.nesting.specs.Moves.{here_at, Told, told, told_over, comes}
use Rattle.nesting.specs.declared.moves.Here.{Here}
use Rattle.windows.specs.declared.state.State.{State}

-- where the run stands
abbrev pub here_of : State → Here
here_of s = here_at s.place s.left (record { first = record { 0 = s.first }; count = s.count }) (record { 0 = s.next })

-- the part of a string that is left lies in the table, and its padding is none that would never end
abbrev pub rest_lies : List ℕ → QuoteRest → Bool
rest_lies table q =
    both (leb q.start q.end) (both (leb q.end (length table)) (both (leb q.before 65536) (leb q.behind 65536)))

-- all numbers are in range: the levels, the steps, the places of the text, the lists, and what is left of a string
abbrev pub is_sound : List ℕ → List ℕ → State → Bool
is_sound t table s =
    both (leb (length t) longest)
    (both (leb s.nest.depth deepest)
    (both (leb s.left limit)
    (both (leb s.place (length t))
    (both (hand_lies table (here_of s).hand s.next)
    (both (all_lie (length t) table s.nest s.nest.depth) (rest_lies table s.rest))))))

-- what is left of a string in quotes, and then the run, of which so many bytes are given already
abbrev pub to_come : List ℕ → QuoteRest → ℕ → Flow → Told
to_come table q given f = record { bytes = rest_of table q ++ drop given (given_text f); finish = finish_of f }

abbrev pub if_sound : Bool → (Bool → Told) → Told
if_sound sound on = choose sound on (λ _. told_over 4 0 limit)

abbrev pub unless_wrong : Verdict → (Bool → Told) → Told
unless_wrong Accepted on = on true
unless_wrong (Refused code p) on = told_over code p limit

-- "the first a fresh one": the whole call of format. In a state that is begun the text is not read again; one that no
-- call gave, whose numbers are out of range, is refused with 4 at 0. A state that has ended keeps its answer
abbrev pub by_stage : ℕ → (Bool → Told) → (Bool → Told) → Told → Told
by_stage zero fresh begun ended = fresh true
by_stage (suc zero) fresh begun ended = begun true
by_stage (suc (suc k)) fresh begun ended = ended

unfoldable pub remains : List ℕ → List ℕ → State → Told
remains t table s =
    by_stage s.stage
    (λ _. unless_wrong (table_verdict table) (λ _. unless_wrong (text_verdict t) (λ _. told (flow_of t (view_of table)))))
    (λ _. unless_wrong (table_verdict table) (λ _. if_sound (is_sound t table s) (λ _. to_come table s.rest s.given (comes t table (here_of s) s.nest))))
    (record { bytes = []; finish = record { code = s.code; position = s.position; steps = s.steps } })

-- "after the end"
abbrev pub is_ended : State → Bool
is_ended s = ltb 1 s.stage
