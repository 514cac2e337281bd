-- What the parts of a directive that writes know of its argument and its parameters. Assumes nothing.
use Prim.Native.Nat.{ℕ}
use mathlib.Core.Path.{◌≡◌, refl, ap, ◌∙◌}
use mathlib.Core.List.{List}
use Rattle.rules.specs.Directive.{FormRight}
use Rattle.rules.specs.Rows.{any_number, form_places}
use Rattle.rules.specs.Table.{Holds, meant, view_of}
use Rattle.rules.specs.Piece.{or_else}
use Rattle.rules.specs.Working.{InPlace, InPlaces, WellSet}
use Rattle.rules.specs.Run.{Flow, refused, write, write_from}
use Rattle.rules.specs.declared.Argument.{Argument}
use Rattle.rules.specs.declared.Argument.TheVariants.{Boolean, Integer, Character, Text, Entries}
use Rattle.rules.specs.declared.Directive.{Directive}
use Rattle.rules.specs.declared.Form.{Form}
use Rattle.rules.specs.Setting.{Setting}
use Rattle.std.specs.Prelude.{Option, None, Some}
use Rattle.std.specs.Option.{unwrap_or}
use Rattle.rules.specs.declared.Settings.{Settings}
use Rattle.rules.proofs.AnswerLaws.{text_fits, text_short}
use Rattle.pieces.specs.Given.{Reachable}
use Rattle.parameters.specs.Settling.{hand_at}
use Rattle.parameters.specs.declared.arguments.Hand.{Hand}
use Rattle.actions.specs.declared.planning.Source.{Source}
use Rattle.actions.specs.declared.planning.Taken.{Taken}
use Rattle.actions.specs.Acting.{Numbered}
use Rattle.actions.specs.Planning.{source_as, on_taken, Takes}

-- an argument that was read lies in its table
pub reachable : {t : List ℕ} {i : ℕ} (r : Argument) → Holds t i r → Reachable t r
reachable (Boolean b) h = tt
reachable (Integer z) h = tt
reachable (Character c) h = tt
reachable (Text start end) h = record { order = (text_fits h refl).0; inside = (text_fits h refl).1; short = text_short h refl }
reachable (Entries first count) h = tt

-- what a directive learns of the argument that is taken
module _ {t : List ℕ} {hand : Hand} {s : Source} {i : ℕ} {r : Option Taken} (k : Takes t hand s i r) where
  module _ (p m : ℕ) (f : Form) (d : Directive) (st : Settings) (on : ℕ → Flow) where
    pub taken_none : r ≡ None → write_from (view_of t) p m f d (hand_at hand 0) st i on (source_as t s) ≡ refused 6 p m
    taken_none q = k.as_defined p m f d st on ∙ ap (on_taken t p m (λ x next. write p m f d st x next on)) q

    pub taken_is : {x : Taken} → r ≡ Some x
        → write_from (view_of t) p m f d (hand_at hand 0) st i on (source_as t s) ≡ write p m f d st (meant t x.argument) x.next.0 on
    taken_is q = k.as_defined p m f d st on ∙ ap (on_taken t p m (λ x next. write p m f d st x next on)) q

pub worked_in : (f : Form) (s : Settings) → FormRight f → InPlaces (form_places f) s → WellSet f s
worked_in f s b h = record { base = b; places = h }

pub numbered : (x : Setting) → InPlace any_number x → Numbered x
numbered None a = tt
numbered (Some n) a = a.1

pub unwrapped : (x : Setting) (n : ℕ) → unwrap_or x n ≡ or_else x n
unwrapped None n = refl
unwrapped (Some k) n = refl
