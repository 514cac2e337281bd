-- Which formats are plain, and which a vet takes. Assumes nothing: these are definitions.
use Rattle.std.specs.Prelude.{ℕ, ◌≡◌, Bool, true, false, not, List, [], ◌∷◌}
use Rattle.rules.specs.Choice.{both}
use Rattle.rules.specs.Rows.{row_of, in_order, well_written, plain_but}
use Rattle.rules.specs.Text.{Token, tokens_at, provided}
use Rattle.rules.specs.declared.Bracket.TheVariants.{Conditional}
use Rattle.rules.specs.declared.Code.{Code}
use Rattle.rules.specs.declared.Code.TheVariants.{Opens}
use Rattle.rules.specs.declared.Directive.{Directive}
use Rattle.rules.specs.declared.Item.{Item}
use Rattle.rules.specs.declared.Item.TheVariants.{End, Literal, Written, BadNumber, Unfinished}
use Rattle.rules.specs.declared.Parameter.{Parameter}
use Rattle.rules.specs.declared.Parameter.TheVariants.{Default, Number, Character, Next, Remaining}
use Rattle.rules.specs.Verdict.{Verdict, Accepted}

-- "Plain means none of `~* ~[ ~{ ~^` ..", or with true the same but for `~[`: "in formats otherwise plain"
abbrev pub plain_code : Bool → Code → Bool
plain_code choosing code = plain_but choosing (row_of code false).plainness

-- ".. and no `v`."
abbrev pub is_next : Parameter → Bool
is_next Default = false
is_next (Number n) = false
is_next (Character c) = false
is_next Next = true
is_next Remaining = false

abbrev pub none_next : List Parameter → Bool
none_next [] = true
none_next (x ∷ xs) = both (not (is_next x)) (none_next xs)

unfoldable pub plain_item : Bool → Item → Bool
plain_item choosing End = true
plain_item choosing (Literal b) = true
plain_item choosing (Written d) = both (plain_code choosing d.code) (none_next (in_order d.parameters))
plain_item choosing BadNumber = true
plain_item choosing Unfinished = true

-- code 11, at the "first such tilde"
unfoldable pub plain_from : Bool → List Token → Verdict
plain_from choosing [] = Accepted
plain_from choosing (x ∷ xs) = provided (plain_item choosing x.item) 11 x.position (λ _. plain_from choosing xs)

-- a plain format
abbrev pub plain_verdict : List ℕ → Verdict
plain_verdict format = plain_from false (tokens_at format 0)

-- a format that is plain but for its conditionals: those a vet takes
abbrev pub vettable_verdict : List ℕ → Verdict
vettable_verdict format = plain_from true (tokens_at format 0)

-- the opener of a conditional, as it stands in an accepted text that a vet takes
pub record Opener (d : Directive) : Type 0 where
  pub code : d.code ≡ Opens Conditional
  pub written : well_written d ≡ true
  pub fixed : none_next (in_order d.parameters) ≡ true
