-- The ways through a format, conditionals included: where they end, and how long the longest is (02, Thirteen). Assumes
-- nothing: these are definitions.
use Rattle.std.specs.Prelude.{ℕ, ◌+◌, Bool, false, cond, List, ltb, eqb, length, None, Some}
use Rattle.rules.specs.Rows.{row_of}
use Rattle.rules.specs.Text.{Sequence, end, acts, escapes, iterates, chooses, Clauses, none, clause}
use Rattle.rules.specs.Working.{Settled, settled, unsettled, settings_of, settle_all}
use Rattle.rules.specs.declared.Bracket.TheVariants.{Conditional}
use Rattle.rules.specs.declared.Code.TheVariants.{Opens}
use Rattle.rules.specs.declared.Directive.{Directive}
use Rattle.rules.specs.declared.Places.{Places}
use Rattle.rules.specs.Setting.{Setting}
use Rattle.vet_rules.specs.Turns.{argument, kind_in, turn_of, Turn, Goes, Stops}
use Rattle.vet_rules.specs.Use.{in_hand, no_entries}
use Rattle.vet_rules.specs.Worst.{larger}
use Rattle.vet_rules.specs.declared.Ends.{Ends}
use Rattle.vet_rules.specs.declared.Ends.TheVariants.{Nowhere, Equal, Unequal}

-- The ways through a sequence, joined: they lead to the argument `next` with at most `size` bytes, or fail with a code at a
-- position
pub data Way : Type 0 where
  leads : ℕ → ℕ → Way
  fails : ℕ → ℕ → Way

-- The ways through the clauses of a block have their ends, or the first clause that fails does
pub data Ways : Type 0 where
  ending : Ends → Ways
  failing : ℕ → ℕ → Ways

-- "all ways through each block end at the same argument" and "a conditional counts as its longest clause": one way more,
-- which ends at `next` with `size` bytes
unfoldable pub meeting : Ends → ℕ → ℕ → Ends
meeting Nowhere next size = Equal (argument next) size
meeting (Equal n s) next size = cond (eqb n.0 next) (Equal n (larger s size)) Unequal
meeting Unequal next size = Unequal

-- a `~:;` stands before the last clause
unfoldable pub has_fallback : Clauses → Bool
has_fallback none = false
has_fallback (clause colon x none) = colon
has_fallback (clause colon x (clause colon₂ y more)) = has_fallback (clause colon₂ y more)

-- The way by which a block runs none of its clauses, from the argument `start`. "For `~[` without `~:;`, running none is
-- a way." `~@[` takes `#f` and writes nothing, so that its clause must end "exactly one argument on". Of `~:[` one of
-- the two clauses always runs
abbrev pub with_none : Directive → Bool → ℕ → Ends → Ends
with_none d fallback start e =
    cond d.colon e (cond d.atsign (meeting e (start + 1) 0) (cond fallback e (meeting e start 0)))

-- "pieces add": an item at p after `sum` bytes goes on, or fails there
abbrev pub on_turn : ℕ → Turn → ℕ → (ℕ → ℕ → Way) → Way
on_turn p (Goes next size) sum on = on next.0 (sum + size)
on_turn p (Stops code) sum on = fails code p

-- "6 to 8 for a clause that fails, the first met", or the 11 of a block in it
abbrev pub on_way : Way → (ℕ → ℕ → Ways) → Ways
on_way (leads next size) on = on next size
on_way (fails code p) on = failing code p

-- "code 11 at the block's tilde .. for unequal ends". Every block has a clause, so that its ways end somewhere
abbrev pub on_ends : ℕ → Ends → (ℕ → ℕ → Way) → Way
on_ends p Nowhere on = fails 11 p
on_ends p (Equal next size) on = on next.0 size
on_ends p Unequal on = fails 11 p

-- "(ends at the closer)": when every clause was met, and the way by which none runs with them
abbrev pub on_ways : ℕ → (Ends → Ends) → Ways → (ℕ → ℕ → Way) → Way
on_ways p closing (ending e) on = on_ends p (closing e) on
on_ways p closing (failing code q) on = fails code q

-- the places of `~[` without a modifier
abbrev pub unmodified_places : Places
unmodified_places = (row_of (Opens Conditional) false).places

module _ (kinds : List ℕ) (longest : ℕ) where
  abbrev pub count : ℕ
  count = length kinds

  -- a block that looks at the next argument: "own argument 6", and of `~@[` "none left is 6"
  abbrev pub on_own : ℕ → Turn → Turn
  on_own next go = cond (ltb next count) go (Stops 6)

  -- `~[`: "n, or an integer argument, picks a clause"
  abbrev pub numbered_start : ℕ → Setting → Turn
  numbered_start next None = on_own next (cond (eqb (kind_in kinds next) 1) (Goes (argument (next + 1)) 0) (Stops 7))
  numbered_start next (Some n) = Goes (argument next) 0

  abbrev pub settled_start : Settled → Turn
  settled_start (settled ss next) = numbered_start next (settings_of ss).first
  settled_start (unsettled code) = Stops code

  -- The argument from which the clauses of a conditional run. `~:[` takes one of any kind; "`~@[` is accepted only for a
  -- boolean", "otherwise code 11 at the block's tilde for it", and leaves it to its clause
  unfoldable pub start_of : Directive → ℕ → Turn
  start_of d next =
      cond d.colon (on_own next (Goes (argument (next + 1)) 0))
      (cond d.atsign (on_own next (cond (eqb (kind_in kinds next) 0) (Goes (argument next) 0) (Stops 11)))
      (settled_start (settle_all no_entries (in_hand count next) unmodified_places d.parameters next)))

  unfoldable mutual
    -- the ways through a sequence from the argument `next`, where the pieces before it are `sum` bytes at the most; a format
    -- with an escape or an iteration was refused before
    pub way_of : Sequence → ℕ → ℕ → Way
    way_of end next sum = leads next sum
    way_of (acts p x rest) next sum = on_turn p (turn_of kinds longest x next) sum (λ next₂ sum₂. way_of rest next₂ sum₂)
    way_of (escapes p rest) next sum = fails 11 p
    way_of (iterates p d body rest) next sum = fails 11 p
    way_of (chooses p d cs rest) next sum =
        on_turn p (start_of d next) sum
        (λ start sum₂. on_ways p (with_none d (has_fallback cs) start) (ways_of cs start Nowhere)
        (λ next₂ size. way_of rest next₂ (sum₂ + size)))

    -- "every clause can run on those kinds": each from the argument `start`, after those with these ends
    pub ways_of : Clauses → ℕ → Ends → Ways
    ways_of none start e = ending e
    ways_of (clause colon x more) start e = on_way (way_of x start 0) (λ next size. ways_of more start (meeting e next size))
