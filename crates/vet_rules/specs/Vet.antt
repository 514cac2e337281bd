-- What a vet answers: the rules of 01 and of 02's Thirteen for it, in their order. Assumes nothing: these are definitions.
use Rattle.std.specs.Prelude.{ℕ, ◌≤◌, ◌<◌, Bool, true, List, [], ◌∷◌, Result, Ok, Err, leb, length}
use Rattle.rules.specs.Table.{last_kind}
use Rattle.rules.specs.Choice.{both}
use Rattle.rules.specs.Refusals.{code_of}
use Rattle.rules.specs.Text.{sequence_of, text_verdict, provided}
use Rattle.rules.specs.Verdict.{Verdict, Accepted, Refused}
use Rattle.rules.specs.declared.refusal.Fault.{Fault}
use Rattle.vet_rules.specs.Plain.{vettable_verdict}
use Rattle.vet_rules.specs.Turns.{kind_in}
use Rattle.vet_rules.specs.Ways.{Way, leads, fails, way_of}

-- "vet: more than 1,024 kinds, unknown tag, L above 4,096", at 0
abbrev pub known_tags : List ℕ → Bool
known_tags [] = true
known_tags (k ∷ ks) = both (leb k last_kind) (known_tags ks)

abbrev pub may_ask : List ℕ → ℕ → Bool
may_ask kinds longest = both (leb (length kinds) 1024) (both (known_tags kinds) (leb longest 4096))

-- what that comes to: at most 1,024 kinds, all known, and a length of at most 4,096
pub record Asked (kinds : List ℕ) (longest : ℕ) : Type 0 where
  pub many : length kinds ≤ 1024
  pub tags : (i : ℕ) → i < length kinds → kind_in kinds i ≤ last_kind
  pub long : longest ≤ 4096

unfoldable pub asked_verdict : List ℕ → ℕ → Verdict
asked_verdict kinds longest = provided (may_ask kinds longest) 12 0 (λ _. Accepted)

-- 01's code and position, and the byte count
pub record Vetted : Type 0 where
  pub code : ℕ
  pub position : ℕ
  pub count : ℕ

-- "a refusal's count is 0"
abbrev pub declined : ℕ → ℕ → Vetted
declined code position = record { code = code; position = position; count = 0 }

abbrev pub counted : ℕ → Vetted
counted count = record { code = 0; position = 0; count = count }

-- what the answer of a vet says
abbrev pub vetted_as : Result ℕ Fault → Vetted
vetted_as (Ok count) = counted count
vetted_as (Err f) = declined (code_of f.refusal) f.position

abbrev pub unless_declined : Verdict → (Bool → Vetted) → Vetted
unless_declined Accepted on = on true
unless_declined (Refused code position) on = declined code position

abbrev pub answer_by : Way → Vetted
answer_by (leads next size) = counted size
answer_by (fails code position) = declined code position

-- "then 6 to 8 as a run meets them", and a conditional's 11 among them, "the first met"
abbrev pub run_answer : List ℕ → List ℕ → ℕ → Vetted
run_answer format kinds longest = answer_by (way_of kinds longest (sequence_of format) 0 0)

-- "Vet: 12, 2, 3 to 5, 11, then 6 to 8 as a run meets them": this 11 is that of the text
unfoldable pub vet_of : List ℕ → List ℕ → ℕ → Vetted
vet_of format kinds longest =
    unless_declined (asked_verdict kinds longest)
    (λ _. unless_declined (text_verdict format)
    (λ _. unless_declined (vettable_verdict format) (λ _. run_answer format kinds longest)))
