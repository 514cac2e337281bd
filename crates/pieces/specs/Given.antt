-- What a piece is made from: an argument that lies in the table.
-- Assumes nothing: these are definitions.
use Rattle.std.specs.Prelude.{ℕ, ◌-◌, ◌≤◌, List, length}
use Rattle.rules.specs.declared.Argument.{Argument}
use Rattle.rules.specs.declared.Argument.TheVariants.{Boolean, Integer, Character, Text, Entries}

-- a string lies in the table and is no longer than the pool may be
pub record StringIn (t : List ℕ) (start end : ℕ) : Type 0 where
  pub order : start ≤ end
  pub inside : end ≤ length t
  pub short : end - start ≤ 65536

abbrev pub Reachable : List ℕ → Argument → Type 0
Reachable t (Boolean b) = Unit
Reachable t (Integer z) = Unit
Reachable t (Character c) = Unit
Reachable t (Text start end) = StringIn t start end
Reachable t (Entries first count) = Unit
