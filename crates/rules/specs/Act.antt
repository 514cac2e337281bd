-- What an item that opens and ends no block does, whatever follows it: the run joins the rest to it, and a vet asks only
-- how many bytes it may write. Of the arguments' values it reads those that a `v` takes; a piece's own argument is only
-- named. Assumes nothing: these are definitions.
use Rattle.std.specs.Prelude.{ℕ, ◌+◌, ◌-◌, cond, List, [], ◌∷◌, ltb, leb, eqb}
use Rattle.rules.specs.Table.{View}
use Rattle.rules.specs.Rows.{accepts}
use Rattle.rules.specs.Piece.{or_else, text_of, kind_of}
use Rattle.rules.specs.Working.{Context, Settled, settled, unsettled, settings_of, settle_directive, Source, own, back, given, source_of}
use Rattle.rules.specs.declared.Code.{Code}
use Rattle.rules.specs.declared.Code.TheVariants.{Writes, Jump, Escape, Opens, Separator, Closes, Unknown}
use Rattle.rules.specs.declared.Directive.{Directive}
use Rattle.rules.specs.declared.Form.{Form}
use Rattle.rules.specs.declared.Item.{Item}
use Rattle.rules.specs.declared.Item.TheVariants.{End, Literal, Written, BadNumber, Unfinished}
use Rattle.rules.specs.declared.Settings.{Settings}

-- It writes this text; or the text that a directive of this form and these worked-out parameters has for argument i; or
-- it only moves among the arguments; each with the number of the next one. Or it is refused with a code
pub data Act : Type 0 where
  writes : List ℕ → ℕ → Act
  shows : Form → Directive → Settings → ℕ → ℕ → Act
  moves : ℕ → Act
  refuses : ℕ → Act

-- among so many arguments
module _ (count : ℕ) where
  -- "own argument 6, kind 7"; the kind of an argument is asked where its value is read
  abbrev pub act_from : Form → Directive → Settings → ℕ → Source → Act
  act_from f d s next own = cond (ltb next count) (shows f d s next (next + 1)) (refuses 6)
  act_from f d s next back =
      cond (eqb next 0) (refuses 6) (cond (ltb (next - 1) count) (shows f d s (next - 1) next) (refuses 6))
  act_from f d s next (given x) = cond (accepts f (kind_of x)) (writes (text_of f d.colon d.atsign s x) next) (refuses 7)

  -- "`~*` forward n, `~:*` back, `~@*` to n. From 0 to the count is legal, the count included."
  abbrev pub jump_to : ℕ → Act
  jump_to i = cond (leb i count) (moves i) (refuses 6)

  abbrev pub jump : Directive → Settings → ℕ → Act
  jump d s next =
      cond d.atsign (jump_to (or_else s.first 0))
      (cond d.colon
      (cond (leb (or_else s.first 1) next) (jump_to (next - or_else s.first 1)) (refuses 6))
      (jump_to (next + or_else s.first 1)))

  -- a directive, by its code and its worked-out parameters
  abbrev pub act_by : Directive → Code → Settings → ℕ → Act
  act_by d (Writes f) s next = act_from f d s next (source_of f d.colon s)
  act_by d Jump s next = jump d s next
  act_by d Escape s next = moves next
  act_by d (Opens b) s next = moves next
  act_by d Separator s next = moves next
  act_by d (Closes b) s next = moves next
  act_by d Unknown s next = moves next

  -- "parameters (6, 7, 8 each)" come first
  abbrev pub act_after : Directive → Settled → Act
  act_after d (settled ss next) = act_by d d.code (settings_of ss) next
  act_after d (unsettled code) = refuses code

unfoldable pub act_of : View → Context → Item → Act
act_of v c End = moves c.next
act_of v c (Literal b) = writes (b ∷ []) c.next
act_of v c (Written d) = act_after c.count d (settle_directive v c d)
act_of v c BadNumber = moves c.next
act_of v c Unfinished = moves c.next
