-- What a loop over the items of an accepted text carries from place to place: reading on meets no fault, inside some open
-- blocks. Assumes nothing.
use Prim.Native.Nat.{ℕ, ◌+◌}
use mathlib.Core.Path.{◌≡◌, refl}
use mathlib.Core.Bool.{true}
use mathlib.Core.List.{List, []}
use Rattle.rules.specs.Directive.{item_at}
use Rattle.rules.specs.Rows.{well_written}
use Rattle.rules.specs.Text.{Block, text_verdict}
use Rattle.rules.specs.declared.Code.{Code}
use Rattle.rules.specs.declared.Code.TheVariants.{Writes, Jump, Escape, Opens, Separator, Closes, Unknown}
use Rattle.rules.specs.declared.Directive.{Directive}
use Rattle.rules.specs.declared.Item.TheVariants.{Literal, Written, BadNumber, Unfinished}
use Rattle.rules.specs.Verdict.{Accepted}
use Rattle.rules.proofs.TextLaws.{Sound, sound_start, sound_literal, sound_bad, sound_unfinished, sound_known, sound_writes, sound_jump, sound_escape, sound_opener, sound_separator, sound_closer}

pub record AcceptedAt (t : List ℕ) (p : ℕ) : Type 0 where
  pub blocks : List Block
  pub sound : Sound t blocks p

pub accepted_start : (t : List ℕ) → text_verdict t ≡ Accepted → AcceptedAt t 0
accepted_start t e = record { blocks = []; sound = (sound_start t e).1 }

inside : (t : List ℕ) (os : List Block) (q : ℕ) → Sound t os q → AcceptedAt t q
inside t os q s = record { blocks = os; sound = s }

module _ (t : List ℕ) (p : ℕ) (a : AcceptedAt t p) where
  pub accepted_literal : (b : ℕ) → item_at t p ≡ Literal b → AcceptedAt t (p + 1)
  accepted_literal b e = inside t a.blocks (p + 1) (sound_literal t a.blocks p a.sound b e)

  -- no number is bad, and no directive is unfinished
  pub accepted_bad : item_at t p ≡ BadNumber → ⊥
  accepted_bad e = sound_bad t a.blocks p a.sound e

  pub accepted_unfinished : item_at t p ≡ Unfinished → ⊥
  accepted_unfinished e = sound_unfinished t a.blocks p a.sound e

  module _ (d : Directive) (e : item_at t p ≡ Written d) where
    pub accepted_known : d.code ≡ Unknown → ⊥
    accepted_known k = sound_known t a.blocks p a.sound d e k

    -- every directive is well written, and reading goes on where it ends
    pub accepted_written : (well_written d ≡ true) × AcceptedAt t d.after
    accepted_written = by d.code refl
      where
        os : List Block
        os = a.blocks

        s : Sound t os p
        s = a.sound

        by : (c : Code) → d.code ≡ c → (well_written d ≡ true) × AcceptedAt t d.after
        by (Writes f) k = let r = sound_writes t os p s d e f k in (r.0, inside t os d.after r.1)
        by Jump k = let r = sound_jump t os p s d e k in (r.0, inside t os d.after r.1)
        by Escape k = let r = sound_escape t os p s d e k in (r.0, inside t os d.after r.1)
        by (Opens b) k = let r = sound_opener t os p s d e b k in (r.written, inside t _ d.after r.on)
        by Separator k = let r = sound_separator t os p s d e k in (r.written, inside t _ d.after r.on)
        by (Closes b) k = let r = sound_closer t os p s d e b k in (r.written, inside t _ d.after r.on)
        by Unknown k = absurd (sound_known t os p s d e k)
