-- What a run gives, whatever the room: its pieces in order and how it ends. Assumes nothing: these are definitions.
use Rattle.std.specs.Prelude.{ℕ, ◌+◌, ◌-◌, ◌<◌, ◌≡◌, List, [], ◌++◌, length}

-- What a run gives: `put`, a piece with its position, the steps left once it is begun, its bytes, and what follows it;
-- and its end, `done` with the steps left and the number of arguments left over, or `refused` with the code, the
-- position and the steps left
pub data Flow : Type 0 where
  done : ℕ → ℕ → Flow
  refused : ℕ → ℕ → ℕ → Flow
  put : ℕ → ℕ → List ℕ → Flow → Flow

-- "A call does at most 65,536."
abbrev pub limit : ℕ
limit = 65536

-- "the text that these rules give": the pieces of a run, together
unfoldable pub given_text : Flow → List ℕ
given_text (done left over) = []
given_text (refused code p left) = []
given_text (put p left piece more) = piece ++ given_text more

-- how a run ends where all its pieces fit
pub record Finish : Type 0 where
  pub code : ℕ
  pub position : ℕ
  pub steps : ℕ

abbrev pub finish_of : Flow → Finish
finish_of (done left over) = record { code = 0; position = 0; steps = limit - left }
finish_of (refused code p left) = record { code = code; position = p; steps = limit - left }
finish_of (put p left piece more) = finish_of more

-- a flow that gives some text, and then goes on as another
pub data Stretch : Flow → Flow → List ℕ → Type 0 where
  still : {f : Flow} → Stretch f f []
  onward : {p l : ℕ} {w x : List ℕ} {f g : Flow} → Stretch f g x → Stretch (put p l w f) g (w ++ x)

-- the flow f, where x is written, gives what y has more and then is g
pub record Gives (x : List ℕ) (f : Flow) (y : List ℕ) (g : Flow) : Type 0 where
  pub text : List ℕ
  pub stretch : Stretch f g text
  pub is : y ≡ x ++ text

-- it gives what y has more, and then comes a piece at p, with so many steps left, for which this room is too small
pub record Lacks (room : ℕ) (x : List ℕ) (f : Flow) (y : List ℕ) (p left : ℕ) : Type 0 where
  pub piece : List ℕ
  pub more : Flow
  pub gives : Gives x f y (put p left piece more)
  pub full : room < length y + length piece
