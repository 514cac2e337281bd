-- What the parts that end sequences, open blocks and count passes answer. Assumes nothing: these are definitions.
use Rattle.std.specs.Prelude.{ℕ, ◌+◌, ◌<◌, ◌≡◌, Bool, true, false, List, Result, Ok, Err}
use Rattle.rules.specs.Table.{Value, meant, Holds, view_of}
use Rattle.rules.specs.Directive.{item_at}
use Rattle.rules.specs.Text.{Sequence, end, innermost, levels_at}
use Rattle.rules.specs.Working.{Context}
use Rattle.rules.specs.Refusals.{code_of}
use Rattle.rules.specs.Run.{Flow, refused, Frame, iteration, Outside, same_arguments, other, with_argument, enter}
use Rattle.rules.specs.declared.Argument.{Argument}
use Rattle.rules.specs.declared.Bracket.TheVariants.{Conditional, Iteration}
use Rattle.rules.specs.declared.Code.{Code}
use Rattle.rules.specs.declared.Code.TheVariants.{Writes, Jump, Escape, Opens, Separator, Closes, Unknown}
use Rattle.rules.specs.declared.Directive.{Directive}
use Rattle.rules.specs.declared.Item.{Item}
use Rattle.rules.specs.declared.Item.TheVariants.{End, Literal, Written, BadNumber, Unfinished}
use Rattle.rules.specs.Setting.{Setting}
use Rattle.rules.specs.declared.Settings.{Settings}
use Rattle.rules.specs.declared.refusal.Refusal.{Refusal}
use Rattle.parameters.specs.Settling.{InHand, hand_at}
use Rattle.parameters.specs.declared.arguments.Hand.{Hand}
use Rattle.blocks.specs.declared.passes.Over.{Over}

-- whether a code, or an item, ends the sequence in which it stands
abbrev pub ends_sequence : Code → Bool
ends_sequence (Writes f) = false
ends_sequence Jump = false
ends_sequence Escape = false
ends_sequence (Opens b) = false
ends_sequence Separator = true
ends_sequence (Closes b) = true
ends_sequence Unknown = true

abbrev pub ends_at : Item → Bool
ends_at End = true
ends_at (Literal b) = false
ends_at (Written d) = ends_sequence d.code
ends_at BadNumber = true
ends_at Unfinished = true

-- x stands at p, and is said to be the end of the text wherever a sequence ends
pub record ElementAt (t : List ℕ) (p : ℕ) (x : Item) : Type 0 where
  pub ends : ends_at x ≡ true → (innermost (levels_at t p)).rest ≡ end
  pub is : ends_at x ≡ false → item_at t p ≡ x

-- which codes open a block, and which of them an iteration
abbrev pub opens_block : Code → Bool
opens_block (Writes f) = false
opens_block Jump = false
opens_block Escape = false
opens_block (Opens b) = true
opens_block Separator = false
opens_block (Closes b) = false
opens_block Unknown = false

abbrev pub iterates : Code → Bool
iterates (Writes f) = false
iterates Jump = false
iterates Escape = false
iterates (Opens Conditional) = false
iterates (Opens Iteration) = true
iterates Separator = false
iterates (Closes b) = false
iterates Unknown = false

-- how a run goes on from the argument that a block takes
abbrev pub on_taken : List ℕ → ℕ → ℕ → Result Argument Refusal → (Value → Flow) → Flow
on_taken t p m (Ok x) on = on (meant t x)
on_taken t p m (Err refusal) on = refused (code_of refusal) p m

-- it is one of those in hand
abbrev pub TakenIn : List ℕ → Hand → ℕ → Result Argument Refusal → Type 0
TakenIn t hand i (Ok x) = Holds t (hand.first.0 + i) x × (i < hand.count)
TakenIn t hand i (Err refusal) = Unit {0}

-- r is the argument that a block takes where i is the next one, whatever number j the arguments in hand call the next
pub record Takes (t : List ℕ) (hand : Hand) (i : ℕ) (r : Result Argument Refusal) : Type 0 where
  pub is : (p m j : ℕ) (on : Value → Flow) → with_argument (view_of t) p m (hand_at hand j) i on ≡ on_taken t p m r on
  pub inside : TakenIn t hand i r

-- the arguments in hand outside an iteration, with `@` or not
abbrev pub outside_of : Bool → Hand → ℕ → Outside
outside_of true hand i = same_arguments
outside_of false hand i = other (hand_at hand (i + 1))

-- how an iteration is entered over r
abbrev pub on_over : ℕ → ℕ → Setting → Sequence → Sequence → Outside → Result Over Refusal → (Frame → Context → Flow) → Flow
on_over p m limit body rest out (Ok over) on = on (iteration p limit body rest out) (hand_at over.hand over.first.0)
on_over p m limit body rest out (Err refusal) on = refused (code_of refusal) p m

-- the entries in hand, or those of a list that lies in the table
abbrev pub OverIn : List ℕ → Hand → Bool → ℕ → Result Over Refusal → Type 0
OverIn t hand true i (Ok over) = (over.hand ≡ hand) × (over.first.0 ≡ i)
OverIn t hand false i (Ok over) = InHand t over.hand × ((over.first.0 ≡ 0) × (i < hand.count))
OverIn t hand atsign i (Err refusal) = Unit {0}

-- r is what an iteration goes over, where i is the next argument
pub record GoesOver (t : List ℕ) (hand : Hand) (atsign : Bool) (i : ℕ) (r : Result Over Refusal) : Type 0 where
  pub is : (p m j : ℕ) (d : Directive) → d.atsign ≡ atsign → (st : Settings) (body rest : Sequence) (on : Frame → Context → Flow)
      → enter (view_of t) p m d body rest (hand_at hand j) st i on ≡ on_over p m st.first body rest (outside_of atsign hand i) r on
  pub inside : OverIn t hand atsign i r
