-- Where a run stands among its open blocks, what comes from there, and what a move promises. Assumes nothing: these are
-- definitions.
use Rattle.std.specs.Prelude.{ℕ, ◌+◌, ◌-◌, ◌≤◌, ◌<◌, ◌≡◌, Bool, true, cond, List, [], ◌∷◌, Option, None, Some, Result, Ok, Err, ⊤, length}
use Rattle.rules.specs.Refusals.{code_of}
use Rattle.rules.specs.Flow.{Flow, limit, given_text, Finish, finish_of}
use Rattle.rules.specs.Table.{view_of, table_verdict}
use Rattle.rules.specs.Text.{end, levels_at, innermost, outer}
use Rattle.rules.specs.Run.{run, Outside, same_arguments, other, afterwards}
use Rattle.rules.specs.declared.ArgumentPosition.{ArgumentPosition}
use Rattle.rules.specs.declared.Directive.{Directive}
use Rattle.rules.specs.declared.refusal.Fault.{Fault}
use Rattle.rules.specs.declared.refusal.Refusal.{Refusal}
use Rattle.rules.specs.Verdict.{Accepted}
use Rattle.parameters.specs.Settling.{hand_at}
use Rattle.parameters.specs.declared.arguments.Hand.{Hand}
use Rattle.running.specs.Runs.{rest_at}
use Rattle.nesting.specs.declared.moves.Here.{Here}
use Rattle.nesting.specs.declared.moves.Moved.{Moved}
use Rattle.nesting.specs.declared.nests.Block.{Block}
use Rattle.nesting.specs.declared.nests.Kind.{Kind}
use Rattle.nesting.specs.declared.nests.Kind.TheVariants.{Conditional, OverList, OverArguments}
use Rattle.nesting.specs.declared.nests.Nest.{Nest}
use Rattle.nesting.specs.Nest.{frame_of, frames_of, Fits, hand_lies, block_lies, all_lie}

abbrev pub here_at : ℕ → ℕ → Hand → ArgumentPosition → Here
here_at place left hand next = record { place = place; left = left; hand = hand; next = next }

-- a run that goes on, and one that is over: at its end, or refused
abbrev pub on_at : Here → Nest → Moved
on_at h o = record { over = None; here = h; nest = o }

abbrev pub over_at : Result ⊤ Fault → Here → Nest → Moved
over_at out h o = record { over = Some out; here = h; nest = o }

abbrev pub ended_at : Here → Nest → Moved
ended_at h o = over_at (Ok tt) h o

abbrev pub refused_at : Refusal → ℕ → Here → Nest → Moved
refused_at refusal p h o = over_at (Err (record { refusal = refusal; position = p })) h o

-- the kind of an iteration, with `@` or not
abbrev pub kind_of : Bool → Kind
kind_of atsign = cond atsign OverArguments OverList

-- what a flow gives, and how it ends
pub record Told : Type 0 where
  pub bytes : List ℕ
  pub finish : Finish

abbrev pub told : Flow → Told
told f = record { bytes = given_text f; finish = finish_of f }

-- a run that is over, with so many steps left
abbrev pub told_over : ℕ → ℕ → ℕ → Told
told_over code p left = record { bytes = []; finish = record { code = code; position = p; steps = limit - left } }

abbrev pub told_end : Result ⊤ Fault → ℕ → Told
told_end (Ok u) left = told_over 0 0 left
told_end (Err f) left = told_over (code_of f.refusal) f.position left

-- what comes from a place of the text t, over the table, inside the open blocks
abbrev pub comes : List ℕ → List ℕ → Here → Nest → Flow
comes t table h o =
    run (view_of table) h.left (rest_at (levels_at t) h.place) (frames_of (levels_at t) o o.depth) (hand_at h.hand h.next.0)

-- what comes after a move
abbrev pub told_by : Option (Result ⊤ Fault) → Told → ℕ → Told
told_by None x left = x
told_by (Some out) x left = told_end out left

abbrev pub reached : List ℕ → List ℕ → Moved → Told
reached t table r = told_by r.over (told (comes t table r.here r.nest)) r.here.left

-- all numbers are in range: of a text of n bytes that is not too long, of the table, of steps and of levels
pub record Sound (n : ℕ) (table : List ℕ) (h : Here) (o : Nest) : Type 0 where
  pub short : n ≤ 4096
  pub depth : o.depth ≤ 8
  pub left : h.left ≤ limit
  pub place : h.place ≤ n
  pub hand : hand_lies table h.hand h.next.0 ≡ true
  pub blocks : all_lie n table o o.depth ≡ true

-- what falls with each move: a step weighs two, so that a block that is opened by one may be closed without any
abbrev pub weight : Here → Nest → ℕ
weight h o = h.left + h.left + o.depth

-- r is a move from where f comes, with so many steps left and so much weight
pub record Moves (t table : List ℕ) (f : Flow) (left heavy : ℕ) (r : Moved) : Type 0 where
  pub same : told f ≡ reached t table r
  pub steps : r.here.left ≤ left
  pub sound : r.over ≡ None → Sound (length t) table r.here r.nest
  pub falls : r.over ≡ None → weight r.here r.nest < heavy

-- and from where the run stands
abbrev pub MovesHere : List ℕ → List ℕ → Here → Nest → Moved → Type 0
MovesHere t table h o r = Moves t table (comes t table h o) h.left (weight h o) r

-- a block may be opened by d
pub record Ready (t table : List ℕ) (h : Here) (o : Nest) (d : Directive) : Type 0 where
  pub accepted : table_verdict table ≡ Accepted
  pub sound : Sound (length t) table h o
  pub level : o.depth < 8
  pub inside : d.after ≤ length t

-- the run goes on after the block whose inside is at a place
pub record Closes (t : List ℕ) (inside left : ℕ) (hand : Hand) (next : ArgumentPosition) (o : Nest) (r : Moved) : Type 0 where
  pub is : r ≡ on_at (here_at r.here.place left hand next) o
  pub after : levels_at t r.here.place ≡ outer (levels_at t inside)
  pub most : r.here.place ≤ length t

-- an iteration is open inside the blocks o
pub record Passing (t table : List ℕ) (h : Here) (b : Block) (o : Nest) : Type 0 where
  pub accepted : table_verdict table ≡ Accepted
  pub sound : Sound (length t) table h o
  pub level : o.depth < 8
  pub loops : b.kind ≡ Conditional → ⊥
  pub lies : block_lies (length t) table b ≡ true
  pub fits : Fits b

-- what comes where a pass of it ends
abbrev pub ends_block : List ℕ → List ℕ → Here → Block → Nest → Flow
ends_block t table h b o =
    run (view_of table) h.left end (frame_of (levels_at t) b ∷ frames_of (levels_at t) o o.depth) (hand_at h.hand h.next.0)

-- the arguments in hand outside it
abbrev pub after_kind : Kind → Outside → Outside
after_kind Conditional x = same_arguments
after_kind OverList x = x
after_kind OverArguments x = same_arguments

abbrev pub outside_by : Kind → Block → Outside
outside_by kind b = after_kind kind (other (hand_at b.hand b.next.0))

-- and what comes after it
abbrev pub after_block : List ℕ → List ℕ → Here → Block → Nest → Flow
after_block t table h b o =
    run (view_of table) h.left (innermost (outer (levels_at t b.inside))).rest (frames_of (levels_at t) o o.depth)
    (afterwards (outside_by b.kind b) (hand_at h.hand h.next.0))
