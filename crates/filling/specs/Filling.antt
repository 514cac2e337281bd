-- What a step promises that fills a window: what was to come is what it wrote and what is still to come.
-- Assumes nothing: these are definitions.
use Rattle.std.specs.Prelude.{ℕ, ◌-◌, ◌≤◌, ◌<◌, ◌≡◌, Bool, true, false, List, [], ◌++◌, Result, Err, ⊤, length, drop}
use Rattle.rules.specs.Flow.{Flow, given_text, finish_of}
use Rattle.rules.specs.Text.{levels_at}
use Rattle.rules.specs.declared.Item.{Item}
use Rattle.rules.specs.declared.refusal.Fault.{Fault}
use Rattle.rules.specs.declared.refusal.Refusal.{Refusal}
use Rattle.pieces.specs.Rest.{rest_of, RestIn, Appends}
use Rattle.pieces.specs.declared.resuming.QuoteRest.{QuoteRest}
use Rattle.running.specs.Runs.{ActsAt}
use Rattle.nesting.specs.Moves.{Told, told_over, told_end, comes, Sound, weight}
use Rattle.nesting.specs.declared.moves.Here.{Here}
use Rattle.nesting.specs.declared.nests.Nest.{Nest}
use Rattle.filling.specs.declared.giving.Reach.{Reach}
use Rattle.filling.specs.declared.giving.Reach.TheVariants.{On, Over, Full}
use Rattle.filling.specs.declared.giving.Put.{Put}
use Rattle.filling.specs.declared.steps.Step.{Step}

abbrev pub no_rest : QuoteRest
no_rest = record { stage = 0; before = 0; start = 0; end = 0; behind = 0; pad = 0 }

-- how a step leaves a run where nothing is left of a string: it goes on, is over, or has no room
abbrev pub put_at : Reach → Here → ℕ → ℕ → Put
put_at reach h given at = record { reach = reach; progress = record { here = h; given = given; at = at }; rest = no_rest }

abbrev pub put_on : Here → ℕ → ℕ → Put
put_on h given at = put_at On h given at

abbrev pub put_over : Result ⊤ Fault → Here → ℕ → Put
put_over out h at = put_at (Over out) h 0 at

abbrev pub put_refused : Refusal → ℕ → Here → ℕ → Put
put_refused refusal p h at = put_over (Err (record { refusal = refusal; position = p })) h at

abbrev pub put_full : Here → ℕ → ℕ → Put
put_full h given at = put_at Full h given at

-- What giving a piece w promises, of which so many bytes are given already, where the run stands at `before` and, once all
-- of it is given, at `after`
pub data Given (w : List ℕ) (before after : Here) (given at : ℕ) (b e table : List ℕ) (r : Put) : Type 0 where
  -- all of it is given
  whole : r ≡ put_on after (given - length w) r.progress.at → Appends (drop given w) at b e r.progress.at [] → Given w before after given at b e table r
  -- a byte of it has no room: the run stays, and remembers how many are given
  cut : r ≡ put_full before r.progress.given (length b) → r.progress.given < length w
      → Appends (drop given w) at b e (length b) (drop r.progress.given w) → Given w before after given at b e table r
  -- or it is behind the piece, with what is left of a string in quotes
  quoted : given ≡ 0 → r ≡ record { reach = Full; progress = record { here = after; given = 0; at = length b }; rest = r.rest } → RestIn table r.rest → 0 < length (rest_of table r.rest)
      → Appends w at b e (length b) (rest_of table r.rest) → Given w before after given at b e table r

-- what is to come of a run, of which so many bytes are given already
abbrev pub to_give : ℕ → Flow → Told
to_give given f = record { bytes = drop given (given_text f); finish = finish_of f }

-- what is to come after a step
abbrev pub told_by : Reach → List ℕ → Told → Told → Told
told_by On w x over = x
told_by (Over out) w x over = over
told_by Full w x over = record { bytes = w ++ x.bytes; finish = x.finish }

abbrev pub over_by : Reach → ℕ → Told
over_by On left = told_over 0 0 left
over_by (Over out) left = told_end out left
over_by Full left = told_over 0 0 left

abbrev pub remaining : List ℕ → List ℕ → Step → Told
remaining t table r =
    told_by r.put.reach (rest_of table r.put.rest)
    (to_give r.put.progress.given (comes t table r.put.progress.here r.nest))
    (over_by r.put.reach r.put.progress.here.left)

-- the run is not over
abbrev pub goes_on : Reach → Bool
goes_on On = true
goes_on (Over out) = false
goes_on Full = true

-- r is a step from where x is to come, with so many steps left and so much weight; the window, in which so much is
-- written, was b and is e
pub record Advances (t table : List ℕ) (x : Told) (left heavy at : ℕ) (b e : List ℕ) (r : Step) : Type 0 where
  pub written : Appends x.bytes at b e r.put.progress.at (remaining t table r).bytes
  pub finish : x.finish ≡ (remaining t table r).finish
  pub steps : r.put.progress.here.left ≤ left
  pub sound : goes_on r.put.reach ≡ true → Sound (length t) table r.put.progress.here r.nest
  pub falls : r.put.reach ≡ On → weight r.put.progress.here r.nest < heavy
  -- "where the next byte has no room"
  pub full : r.put.reach ≡ Full → (r.put.progress.at ≡ length b) × ((0 < length (remaining t table r).bytes) × RestIn table r.put.rest)

abbrev pub step_of : Nest → Put → Step
step_of o r = record { put = r; nest = o }

-- what the item x does at the place where the run stands, after which the text goes on at q: whatever blocks are open
pub record Puts (t table : List ℕ) (x : Item) (q : ℕ) (h : Here) (given at : ℕ) (b e : List ℕ) (r : Put) : Type 0 where
  pub is : (o : Nest) → Sound (length t) table h o → ActsAt (levels_at t) h.place h.place x q → q ≤ length t
      → Advances t table (to_give given (comes t table h o)) h.left (weight h o) at b e (step_of o r)
