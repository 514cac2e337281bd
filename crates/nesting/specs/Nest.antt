-- What the numbers of the open blocks mean: the frames of a run. Assumes nothing: these are definitions.
use Rattle.std.specs.Prelude.{ℕ, zero, suc, ◌+◌, ◌≤◌, ◌<◌, ◌≡◌, Bool, true, cond, List, [], ◌∷◌, leb, eqb, get_or}
use Rattle.rules.specs.Choice.{both}
use Rattle.rules.specs.Table.{entry_count}
use Rattle.rules.specs.Text.{Level, innermost, outer}
use Rattle.rules.specs.Run.{Frame, iteration, conditional, same_arguments, other}
use Rattle.rules.specs.Setting.{Setting}
use Rattle.std.specs.Prelude.{None, Some}
use Rattle.parameters.specs.Settling.{hand_at}
use Rattle.parameters.specs.declared.arguments.Hand.{Hand}
use Rattle.running.specs.Runs.{rest_at}
use Rattle.nesting.specs.declared.nests.Block.{Block}
use Rattle.nesting.specs.declared.nests.Kind.{Kind}
use Rattle.nesting.specs.declared.nests.Kind.TheVariants.{Conditional, OverList, OverArguments}
use Rattle.nesting.specs.declared.nests.Nest.{Nest}

-- what a block is, by its number: 0 a conditional, 1 an iteration over a list, above that one over the arguments in hand
abbrev pub kind_by : ℕ → Kind
kind_by zero = Conditional
kind_by (suc zero) = OverList
kind_by (suc (suc k)) = OverArguments

-- the number that is written for a kind
abbrev pub number_of_kind : Kind → ℕ
number_of_kind Conditional = 0
number_of_kind OverList = 1
number_of_kind OverArguments = 2

-- the passes left, by their number; the greatest stands for no limit
abbrev pub passes_of : ℕ → Setting
passes_of n = cond (eqb n 65535) None (Some n)

-- block i of the open ones
abbrev pub block_at : Nest → ℕ → Block
block_at o i =
    record {
      kind = kind_by (get_or o.kinds i 0);
      place = get_or o.places i 0;
      inside = get_or o.insides i 0;
      passes = passes_of (get_or o.passes i 0);
      hand = record { first = record { 0 = get_or o.starts i 0 }; count = get_or o.counts i 0 };
      next = record { 0 = get_or o.positions i 0 };
    }

-- the same block, with other passes left
abbrev pub with_passes : Block → Setting → Block
with_passes b x = record { kind = b.kind; place = b.place; inside = b.inside; passes = x; hand = b.hand; next = b.next }

-- what a block is, by its kind. Its inside and what follows it are read off the text, where s gives the sequences that
-- are open at each place
abbrev pub frame_by : Kind → (ℕ → List Level) → Block → Frame
frame_by Conditional s b = conditional (innermost (outer (s b.inside))).rest
frame_by OverList s b =
    iteration b.place b.passes (rest_at s b.inside) (innermost (outer (s b.inside))).rest (other (hand_at b.hand b.next.0))
frame_by OverArguments s b =
    iteration b.place b.passes (rest_at s b.inside) (innermost (outer (s b.inside))).rest same_arguments

abbrev pub frame_of : (ℕ → List Level) → Block → Frame
frame_of s b = frame_by b.kind s b

-- the first d of the open blocks, the innermost first
unfoldable pub frames_of : (ℕ → List Level) → Nest → ℕ → List Frame
frames_of s o zero = []
frames_of s o (suc d) = frame_of s (block_at o d) ∷ frames_of s o d

-- entries of the table, and the number of the next of them or their end
abbrev pub hand_lies : List ℕ → Hand → ℕ → Bool
hand_lies table h next = both (leb (h.first.0 + h.count) (entry_count table)) (leb next h.count)

-- the inside of a block lies in the text, which has n bytes, and the arguments outside it in the table
abbrev pub block_lies : ℕ → List ℕ → Block → Bool
block_lies n table b = both (leb b.inside n) (hand_lies table b.hand b.next.0)

unfoldable pub all_lie : ℕ → List ℕ → Nest → ℕ → Bool
all_lie n table o zero = true
all_lie n table o (suc d) = both (block_lies n table (block_at o d)) (all_lie n table o d)

-- the numbers of a block have sixteen bits; the greatest number of passes is free for no limit
abbrev pub FitsPasses : Setting → Type 0
FitsPasses None = Unit {0}
FitsPasses (Some n) = n < 65535

pub record Fits (b : Block) : Type 0 where
  pub place : b.place ≤ 65535
  pub inside : b.inside ≤ 65535
  pub passes : FitsPasses b.passes
  pub first : b.hand.first.0 ≤ 65535
  pub count : b.hand.count ≤ 65535
  pub next : b.next.0 ≤ 65535

-- the outermost d of the open blocks
abbrev pub cut : Nest → ℕ → Nest
cut o d =
    record { depth = d; kinds = o.kinds; places = o.places; insides = o.insides; passes = o.passes; starts = o.starts; counts = o.counts; positions = o.positions }

-- r has the block inside those of o
pub record Pushes (o : Nest) (b : Block) (r : Nest) : Type 0 where
  pub depth : r.depth ≡ o.depth + 1
  pub block : block_at r o.depth ≡ b
  pub others : (i : ℕ) → i < o.depth → block_at r i ≡ block_at o i
