-- Parameters that suit the places of their directive, and what they are worked out to. Assumes nothing.
use Prim.Native.Nat.{ℕ, ◌≤◌}
use mathlib.Core.Path.{◌≡◌, refl}
use mathlib.Core.Bool.{true}
use mathlib.Core.List.{[], ◌∷◌}
use lib.Dec.{leb}
use Rattle.rules.specs.Rows.{no_places, row_in, places_in, takes, suits, in_row, in_order, each_suits, fit_into, well_written}
use Rattle.rules.specs.Piece.{or_else}
use Rattle.rules.specs.Table.{View}
use Rattle.rules.specs.Working.{Context, work_out, settled, settle, settle_all, InPlaceBy}
use Rattle.rules.specs.declared.Directive.{Directive}
use Rattle.rules.specs.declared.Parameter.{Parameter}
use Rattle.rules.specs.declared.Parameter.TheVariants.{Default, Number, Character, Next, Remaining}
use Rattle.rules.specs.declared.Parameters.{Parameters}
use Rattle.rules.specs.declared.Place.TheVariants.{Empty, Number as NumberPlace}
use Rattle.rules.specs.declared.Places.{Places}
use Rattle.rules.specs.Setting.{Setting}
use Rattle.std.specs.Prelude.{None, Some}
use Rattle.rules.proofs.Tests.{both_true, not_both_ways}

-- a well-written directive's parameters suit its places
pub written_suits : (d : Directive) → well_written d ≡ true → each_suits (in_row (places_in d)) (in_order d.parameters) ≡ true
unfolding well_written
written_suits d e =
    let fits = (both_true (takes (row_in d).modifiers d.colon d.atsign) (fit_into (places_in d) d.parameters) e).1 in
    (both_true (leb d.parameters.count (places_in d).count) (each_suits (in_row (places_in d)) (in_order d.parameters)) fits).1

-- each of five
pub record Suited (ys : Places) (ps : Parameters) : Type 0 where
  pub first : suits ys.first ps.first ≡ true
  pub second : suits ys.second ps.second ≡ true
  pub third : suits ys.third ps.third ≡ true
  pub fourth : suits ys.fourth ps.fourth ≡ true
  pub fifth : suits ys.fifth ps.fifth ≡ true

pub suited : (ys : Places) (ps : Parameters) → each_suits (in_row ys) (in_order ps) ≡ true → Suited ys ps
suited ys ps e =
    let a = both_true (suits ys.first ps.first) _ e in
    let b = both_true (suits ys.second ps.second) _ a.1 in
    let c = both_true (suits ys.third ps.third) _ b.1 in
    let d = both_true (suits ys.fourth ps.fourth) _ c.1 in
    let f = both_true (suits ys.fifth ps.fifth) _ d.1 in
    record { first = a.0; second = b.0; third = c.0; fourth = d.0; fifth = f.0 }

empty_default : (x : Parameter) → suits Empty x ≡ true → x ≡ Default
empty_default Default e = refl
empty_default (Number n) e = absurd (not_both_ways e refl)
empty_default (Character c) e = absurd (not_both_ways e refl)
empty_default Next e = absurd (not_both_ways e refl)
empty_default Remaining e = absurd (not_both_ways e refl)

-- where there are no places, nothing is worked out
pub none_settled : (v : View) (c : Context) (ps : Parameters) (next : ℕ) → each_suits (in_row no_places) (in_order ps) ≡ true
    → settle_all v c no_places ps next ≡ settled (None ∷ None ∷ None ∷ None ∷ None ∷ []) next
unfolding settle work_out
none_settled v c ps next e =
    let s = suited no_places ps e in
    rw (
      empty_default ps.first s.first,
      empty_default ps.second s.second,
      empty_default ps.third s.third,
      empty_default ps.fourth s.fourth,
      empty_default ps.fifth s.fifth,
    )

-- a setting in a number place, or a default in its range
module _ (P : ℕ → Type 0) (least most : ℕ) where
  pub number_least : (x : Setting) (n : ℕ) → InPlaceBy P (NumberPlace least most) x → least ≤ n → least ≤ or_else x n
  number_least None n a h = h
  number_least (Some k) n a h = a.0

  pub number_most : (x : Setting) (n : ℕ) → InPlaceBy P (NumberPlace least most) x → n ≤ most → or_else x n ≤ most
  number_most None n a h = h
  number_most (Some k) n a h = a.1
