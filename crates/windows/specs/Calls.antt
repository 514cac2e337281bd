-- What a call answers in any state, and calls one after another. Assumes nothing: these are definitions.
use Rattle.std.specs.Prelude.{ℕ, ◌≡◌, Bool, true, false, cond, not, List, [], ◌++◌, ltb, eqb, length, take, drop}
use Rattle.rules.specs.Choice.{both, either}
use Rattle.nesting.specs.Moves.{Told}
use Rattle.windows.specs.declared.state.State.{State}
use Rattle.windows.specs.declared.state.Resumed.{Resumed}
use Rattle.windows.specs.States.{remains, is_ended}

pub record Shown : Type 0 where
  pub code : ℕ
  pub position : ℕ
  pub steps : ℕ
  pub text : List ℕ
  pub ends : Bool

-- "answering \"more\"": a number that is no code of 01 or 02; with it position and steps are 0
abbrev pub more : List ℕ → Shown
more w = record { code = 256; position = 0; steps = 0; text = w; ends = false }

abbrev pub all : Told → Shown
all x = record { code = x.finish.code; position = x.finish.position; steps = x.finish.steps; text = x.bytes; ends = true }

-- "Until the end is answered a window of 0 bytes changes nothing and answers \"more\" with 0 bytes." "a call stops only at
-- the end or where the next byte has no room". "A call after the end repeats code, position and steps and writes nothing."
abbrev pub shown : Bool → ℕ → Told → Shown
shown ended room x =
    cond (both (not ended) (eqb room 0)) (more [])
    (cond (ltb room (length x.bytes)) (more (take room x.bytes)) (all x))

-- what a call in the state s answers, over a window of this room
unfoldable pub shown_in : List ℕ → List ℕ → State → ℕ → Shown
shown_in t table s room = shown (is_ended s) room (remains t table s)

-- What a call promises: its numbers, every byte of the window, which was `before` and is `after`, and what the new state
-- means, as a function of the old one. Left open is only which of the states that mean this is answered: all later calls
-- over the same format and table are the same for each (`CallLaws.fixed`)
pub record Resumes (t table : List ℕ) (s : State) (before after : List ℕ) (r : Resumed) : Type 0 where
  pub code_is : r.code ≡ (shown_in t table s (length before)).code
  pub position_is : r.position ≡ (shown_in t table s (length before)).position
  pub steps_is : r.steps ≡ (shown_in t table s (length before)).steps
  pub written_is : r.written ≡ length (shown_in t table s (length before)).text
  pub window_is : after ≡ (shown_in t table s (length before)).text ++ drop r.written before
  pub ends_is : is_ended r.state ≡ (shown_in t table s (length before)).ends
  pub remains_is : remains t table r.state ≡ record { bytes = drop r.written (remains t table s).bytes; finish = (remains t table s).finish }
  -- "a window of 0 bytes changes nothing"; nor does a call after the end
  pub kept : either (is_ended s) (eqb (length before) 0) ≡ true → r.state ≡ s

-- "each call has the same format and table, and the last call's state", until the end is answered: all that is written,
-- joined, and the last answer
pub data Calls (t table : List ℕ) : State → List ℕ → Resumed → Type 0 where
  last : {s : State} {b e : List ℕ} {r : Resumed} → Resumes t table s b e r → is_ended r.state ≡ true → Calls t table s (take r.written e) r
  next : {s : State} {b e out : List ℕ} {r z : Resumed} → Resumes t table s b e r → Calls t table r.state out z → Calls t table s (take r.written e ++ out) z
