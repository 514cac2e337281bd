-- Where the clauses and blocks of a text end, in terms of the sequences that are open at a place.
-- Assumes nothing: these are definitions.
use Rattle.std.specs.Prelude.{ℕ, ◌+◌, ◌<◌, ◌≤◌, ◌≡◌, Bool, List, length}
use Rattle.rules.specs.Text.{end, none, innermost, outer, as_clauses, levels_at}
use Rattle.rules.specs.declared.Code.{Code}
use Rattle.rules.specs.declared.Code.TheVariants.{Writes, Jump, Escape, Opens, Separator, Closes, Unknown}
use Rattle.rules.specs.declared.Item.{Item}
use Rattle.rules.specs.declared.Item.TheVariants.{End, Literal, Written, BadNumber, Unfinished}
use Rattle.syntax.specs.declared.ends.Shape.{Shape}
use Rattle.syntax.specs.declared.ends.Shape.TheVariants.{Stops, Passes, Begins, Splits, Finishes}
use Rattle.syntax.specs.declared.ends.ClauseEnd.{ClauseEnd}
use Rattle.syntax.specs.declared.ends.ClauseEnd.TheVariants.{Last, Another}

abbrev pub shape_of_code : Code → Bool → ℕ → Shape
shape_of_code (Writes f) colon after = Passes after
shape_of_code Jump colon after = Passes after
shape_of_code Escape colon after = Passes after
shape_of_code (Opens b) colon after = Begins after
shape_of_code Separator colon after = Splits colon after
shape_of_code (Closes b) colon after = Finishes after
shape_of_code Unknown colon after = Stops

abbrev pub shape_of : ℕ → Item → Shape
shape_of p End = Stops
shape_of p (Literal b) = Passes (p + 1)
shape_of p (Written d) = shape_of_code d.code d.colon d.after
shape_of p BadNumber = Stops
shape_of p Unfinished = Stops

-- at r the text goes on after the block that start stands in
pub record AfterBlock (t : List ℕ) (start r : ℕ) : Type 0 where
  pub is : levels_at t r ≡ outer (levels_at t start)
  pub least : start ≤ r
  pub most : r ≤ length t

-- at q the clause ends that start stands in
pub record ClauseAt (t : List ℕ) (start q : ℕ) : Type 0 where
  pub rest : (innermost (levels_at t q)).rest ≡ end
  pub more : (innermost (levels_at t q)).more ≡ (innermost (levels_at t start)).more
  pub outside : outer (levels_at t q) ≡ outer (levels_at t start)
  pub least : start ≤ q

-- the clause that start stands in is the last, it ends at q, and the text goes on after its block at next
pub record LastClause (t : List ℕ) (start q after : ℕ) : Type 0 where
  pub here : ClauseAt t start q
  pub more : (innermost (levels_at t start)).more ≡ none
  pub on : levels_at t after ≡ outer (levels_at t start)
  pub least : q ≤ after
  pub most : after ≤ length t

-- the clause that start stands in ends at q, and another begins at next, after a `~:;` or not
pub record AnotherClause (t : List ℕ) (start q : ℕ) (colon : Bool) (after : ℕ) : Type 0 where
  pub here : ClauseAt t start q
  pub more : (innermost (levels_at t start)).more ≡ as_clauses colon (levels_at t after)
  pub on : outer (levels_at t after) ≡ outer (levels_at t start)
  pub least : q < after
  pub most : after ≤ length t

abbrev pub EndsClause : List ℕ → ℕ → ClauseEnd → Type 0
EndsClause t start (Last q after) = LastClause t start q after
EndsClause t start (Another q colon after) = AnotherClause t start q colon after
