-- How a call goes on from where the run stands, and what it promises there. Assumes nothing: these are definitions.
use Rattle.std.specs.Prelude.{ℕ, ◌-◌, ◌<◌, ◌≡◌, List, Ok, Err, length, replicate}
use Rattle.rules.specs.Refusals.{code_of}
use Rattle.rules.specs.Flow.{limit}
use Rattle.pieces.specs.Rest.{Appends}
use Rattle.pieces.specs.declared.resuming.QuoteRest.{QuoteRest}
use Rattle.nesting.specs.Moves.{here_at, Told}
use Rattle.nesting.specs.declared.moves.Here.{Here}
use Rattle.nesting.specs.declared.nests.Nest.{Nest}
use Rattle.filling.specs.Filling.{no_rest}
use Rattle.filling.specs.declared.giving.Reach.{Reach}
use Rattle.filling.specs.declared.giving.Reach.TheVariants.{On, Over, Full}
use Rattle.filling.specs.declared.steps.Step.{Step}
use Rattle.windows.specs.declared.state.State.{State}
use Rattle.windows.specs.declared.state.Resumed.{Resumed}
use Rattle.windows.specs.States.{remains}

-- no block is open
abbrev pub no_blocks : Nest
no_blocks = record {
  depth = 0;
  kinds = replicate 8 0;
  places = replicate 8 0;
  insides = replicate 8 0;
  passes = replicate 8 0;
  starts = replicate 8 0;
  counts = replicate 8 0;
  positions = replicate 8 0;
}

-- the start of a run over so many arguments
abbrev pub start_of : ℕ → Here
start_of m = here_at 0 limit (record { first = record { 0 = 0 }; count = m }) (record { 0 = 0 })

-- the state of a run that has ended with this answer, and the answer
abbrev pub ended_state : ℕ → ℕ → ℕ → State
ended_state code p steps = record {
  stage = 2;
  code = code;
  position = p;
  steps = steps;
  left = 0;
  place = 0;
  given = 0;
  first = 0;
  count = 0;
  next = 0;
  nest = no_blocks;
  rest = no_rest;
}

abbrev pub ended_with : ℕ → ℕ → ℕ → ℕ → Resumed
ended_with code p steps written = record { code = code; position = p; steps = steps; written = written; state = ended_state code p steps }

-- the state of a run that goes on here, and the answer
abbrev pub begun_state : Here → Nest → ℕ → QuoteRest → State
begun_state h o given q = record {
  stage = 1;
  code = 0;
  position = 0;
  steps = 0;
  left = h.left;
  place = h.place;
  given = given;
  first = h.hand.first.0;
  count = h.hand.count;
  next = h.next.0;
  nest = o;
  rest = q;
}

abbrev pub more_with : ℕ → State → Resumed
more_with written s = record { code = 256; position = 0; steps = 0; written = written; state = s }

-- the answer after the steps that filled a window
abbrev pub more_on : Step → Resumed
more_on r = more_with r.put.progress.at (begun_state r.put.progress.here r.nest r.put.progress.given r.put.rest)

abbrev pub resumed_by : Reach → Step → Resumed
resumed_by On r = more_on r
resumed_by (Over (Ok u)) r = ended_with 0 0 (limit - r.put.progress.here.left) r.put.progress.at
resumed_by (Over (Err f)) r = ended_with (code_of f.refusal) f.position (limit - r.put.progress.here.left) r.put.progress.at
resumed_by Full r = more_on r

abbrev pub resumed_at : Step → Resumed
resumed_at r = resumed_by r.put.reach r

-- a call stops at the end, or where the next byte has no room
pub data Halts (t table : List ℕ) (room : ℕ) (r : Resumed) : Type 0 where
  over : r ≡ ended_with r.code r.position r.steps r.written → Halts t table room r
  full : r ≡ more_with room r.state → r.state.stage ≡ 1 → 0 < length (remains t table r.state).bytes → Halts t table room r

-- of what is to come, x, a call writes a front into the window b behind so many bytes, which then is e; its state means
-- the rest
pub record Continues (t table : List ℕ) (x : Told) (from : ℕ) (b e : List ℕ) (r : Resumed) : Type 0 where
  pub written : Appends x.bytes from b e r.written (remains t table r.state).bytes
  pub finish : x.finish ≡ (remains t table r.state).finish
  pub halts : Halts t table (length b) r
