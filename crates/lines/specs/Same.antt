-- That the buffers of a scratch are those that were lent. Assumes nothing: this is a definition.
use Rattle.std.specs.Prelude.{◌≡◌, length}
use Rattle.lines.specs.declared.Scratch.{Scratch}

-- after a call they are the two that they were before it, as long as they were; a text's length is that of its type
pub record SameBuffers (before after : Scratch) : Type 0 where
  pub frame : after.frame.ghost_name ≡ before.frame.ghost_name
  pub text : after.text.ghost_name ≡ before.text.ghost_name
  pub frame_length : length after.frame.now ≡ length before.frame.now
