-- What stands at a place of a text, in the terms of the runners. Assumes nothing.
use Prim.Native.Nat.{ℕ, ◌+◌}
use mathlib.Core.Path.{◌≡◌, refl, ap, ◌∙◌}
use mathlib.Core.List.{List}
use native.Mathlib.Omega.{arith}
use lib.ListN.{length}
use Rattle.rules.specs.Directive.{item_at}
use Rattle.rules.specs.Text.{end, levels_at, innermost, Level}
use Rattle.rules.specs.declared.Bracket.TheVariants.{Conditional, Iteration}
use Rattle.rules.specs.declared.Code.{Code}
use Rattle.rules.specs.declared.Code.TheVariants.{Writes, Jump, Escape, Opens, Separator, Closes, Unknown}
use Rattle.rules.specs.declared.Directive.{Directive}
use Rattle.rules.specs.declared.Form.{Form}
use Rattle.rules.specs.declared.Item.TheVariants.{End, Literal, Written}
use Rattle.rules.proofs.TextLaws.{levels_end, levels_literal, levels_writes, levels_jump, levels_escape, levels_iteration, levels_conditional, next_inside, stands}
use Rattle.running.specs.Runs.{ActsAt, EscapesAt, AloneAt, IteratesAt, ChoosesAt, Ahead, rest_at}

module _ (t : List ℕ) (p : ℕ) where
  pub literal_at : (b : ℕ) → item_at t p ≡ Literal b → ActsAt (levels_at t) p p (Literal b) (p + 1)
  literal_at b e = record { is = levels_literal t p b e }

  pub literal_ahead : (b : ℕ) → item_at t p ≡ Literal b → Ahead (length t) p (p + 1)
  literal_ahead b e = let h = stands t p (Literal b) e in record { least = omega arith; most = omega (arith, h) }

  rest_of : {y : List Level} → levels_at t p ≡ y → (innermost y).rest ≡ end → rest_at (levels_at t) p ≡ end
  rest_of e q = ap (λ (x : List Level). (innermost x).rest) e ∙ q

  pub end_at : item_at t p ≡ End → rest_at (levels_at t) p ≡ end
  end_at e = rest_of (levels_end t p e) refl

  module _ (d : Directive) (e : item_at t p ≡ Written d) where
    pub writes_at : (f : Form) → d.code ≡ Writes f → ActsAt (levels_at t) p p (Written d) d.after
    writes_at f q = record { is = levels_writes t p d e f q }

    pub jump_at : d.code ≡ Jump → ActsAt (levels_at t) p p (Written d) d.after
    jump_at q = record { is = levels_jump t p d e q }

    pub escape_at : d.code ≡ Escape → EscapesAt (levels_at t) p p d.after
    escape_at q = record { is = levels_escape t p d e q }

    pub alone_at : (c : Code) → d.code ≡ c → AloneAt (levels_at t) p p d c
    alone_at (Writes f) q = writes_at f q
    alone_at Jump q = jump_at q
    alone_at Escape q = escape_at q
    alone_at (Opens b) q = tt
    alone_at Separator q = tt
    alone_at (Closes b) q = tt
    alone_at Unknown q = tt

    pub directive_ahead : Ahead (length t) p d.after
    directive_ahead = let w = next_inside t p d e in record { least = omega (arith, w.above); most = w.most }

    pub iteration_at : d.code ≡ Opens Iteration → IteratesAt (levels_at t) p p d d.after
    iteration_at q = record { is = levels_iteration t p d e q }

    pub conditional_at : d.code ≡ Opens Conditional → ChoosesAt (levels_at t) p p d d.after
    conditional_at q = record { is = levels_conditional t p d e q }
