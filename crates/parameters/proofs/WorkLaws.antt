-- What working out one parameter may answer, by how the parameter is written. Assumes nothing.
use Prim.Native.Nat.{ℕ, ◌+◌, ◌-◌, ◌≤◌, ◌<◌}
use mathlib.Core.Path.{◌≡◌, refl, sym}
use mathlib.Core.Bool.{Bool, true, false, cond}
use mathlib.Core.List.{List}
use native.Mathlib.Omega.{arith}
use lib.Dec.{leb}
use lib.IntN.{pos, negsuc}
use borrow.Author.Tests.{le-ltb, lt-ltb, leb-true}
use Rattle.rules.specs.Choice.{both}
use Rattle.rules.specs.Table.{Value, boolean, integer, character, string, list, meant, view_of}
use Rattle.rules.specs.Rows.{suits}
use Rattle.rules.specs.declared.Place.{Place}
use Rattle.rules.specs.declared.Place.TheVariants.{Empty, Number as NumberPlace, Character as CharacterPlace}
use Rattle.rules.specs.Working.{worked, wrong, argument_in, in_range, from_value, from_count, work_out, InPlace}
use Rattle.rules.specs.declared.Argument.{Argument}
use Rattle.rules.specs.declared.ArgumentPosition.{ArgumentPosition}
use Rattle.rules.specs.declared.Parameter.{Parameter}
use Rattle.rules.specs.declared.Parameter.TheVariants.{Default, Number, Character, Next, Remaining}
use Rattle.rules.specs.Setting.{Setting}
use Rattle.std.specs.Prelude.{None, Some}
use Rattle.rules.proofs.Tests.{both_true, not_both_ways}
use Rattle.rules.proofs.TableLaws.{accepted_sound}
use Rattle.parameters.specs.Settling.{hand_at, InHand, worked_as, Reaches, Lies, Works, WrittenAs}
use Rattle.parameters.specs.declared.arguments.Hand.{Hand}
use Rattle.parameters.specs.declared.places.WorkedOut.{WorkedOut}
use Rattle.std.specs.Prelude.{Result, Ok, Err}
use Rattle.rules.specs.declared.refusal.Refusal.{Refusal}
use Rattle.rules.specs.declared.refusal.Refusal.TheVariants.{NoArgument}

-- no more arguments are in hand than a table can have entries
pub hand_small : {t : List ℕ} {hand : Hand} → InHand t hand → hand.first.0 + hand.count ≤ 1024
hand_small {t} {hand} h = omega (arith, h.within, (accepted_sound t h.accepted).entries)

-- an absent setting lies in every place
pub absent_lies : (y : Place) → InPlace y None
absent_lies Empty = tt
absent_lies (NumberPlace least most) = tt
absent_lies CharacterPlace = tt

number_lies : (y : Place) (n : ℕ) → suits y (Number n) ≡ true → InPlace y (Some n)
number_lies Empty n e = absurd (not_both_ways e refl)
number_lies (NumberPlace least most) n e =
    let parts = both_true (leb least n) (leb n most) e in
    (leb-true least n parts.0, leb-true n most parts.1)
number_lies CharacterPlace n e = absurd (not_both_ways e refl)

byte_lies : (y : Place) (b w : ℕ) → w < 256 → suits y (Character b) ≡ true → InPlace y (Some w)
byte_lies Empty b w h e = absurd (not_both_ways e refl)
byte_lies (NumberPlace least most) b w h e = absurd (not_both_ways e refl)
byte_lies CharacterPlace b w h e = h

-- a number that is tested against the range of its place
tested_reaches : (count next : ℕ) (b : Bool) (s : Setting) → next ≤ count → Reaches count (cond b (worked s next) (wrong 8))
tested_reaches count next true s h = h
tested_reaches count next false s h = tt

tested_lies : (least most n next : ℕ) (b : Bool) → (b ≡ true → (least ≤ n) × (n ≤ most)) → Lies (NumberPlace least most) (cond b (worked (Some n) next) (wrong 8))
tested_lies least most n next true h = h refl
tested_lies least most n next false h = tt

range_lies : (least most n next : ℕ) → Lies (NumberPlace least most) (in_range least most n next)
range_lies least most n next =
    tested_lies least most n next (both (leb least n) (leb n most))
    (λ e. let parts = both_true (leb least n) (leb n most) e in (leb-true least n parts.0, leb-true n most parts.1))

count_reaches : (count : ℕ) (y : Place) (n next : ℕ) → next ≤ count → Reaches count (from_count y n next)
count_reaches count Empty n next h = tt
count_reaches count (NumberPlace least most) n next h = tested_reaches count next (both (leb least n) (leb n most)) (Some n) h
count_reaches count CharacterPlace n next h = tt

count_lies : (y : Place) (n next : ℕ) → Lies y (from_count y n next)
count_lies Empty n next = tt
count_lies (NumberPlace least most) n next = range_lies least most n next
count_lies CharacterPlace n next = tt

-- an argument in a place
value_reaches : (count : ℕ) (y : Place) (x : Value) (next : ℕ) → next ≤ count → Reaches count (from_value y x next)
value_reaches count Empty x next h = tt
value_reaches count (NumberPlace least most) (boolean b) next h = tt
value_reaches count (NumberPlace least most) (integer (pos n)) next h = tested_reaches count next (both (leb least n) (leb n most)) (Some n) h
value_reaches count (NumberPlace least most) (integer (negsuc n)) next h = tt
value_reaches count (NumberPlace least most) (character c) next h = tt
value_reaches count (NumberPlace least most) (string s) next h = tt
value_reaches count (NumberPlace least most) (list first n) next h = tt
value_reaches count CharacterPlace (boolean b) next h = tt
value_reaches count CharacterPlace (integer z) next h = tt
value_reaches count CharacterPlace (character c) next h = h
value_reaches count CharacterPlace (string s) next h = tt
value_reaches count CharacterPlace (list first n) next h = tt

-- a parameter that is written out
pub default_written : {x : Parameter} → x ≡ Default → WrittenAs x None
unfolding work_out
default_written e = rw e (record { is = λ v c y n. refl; lies = λ y _. absent_lies y })

pub number_written : {x : Parameter} {n w : ℕ} → x ≡ Number n → w ≡ n → WrittenAs x (Some w)
unfolding work_out
number_written {x} {n} e same = rw (e, same) (record { is = λ v c y next. refl; lies = λ y. number_lies y n })

pub byte_written : {x : Parameter} {b w : ℕ} → x ≡ Character b → (w ≡ b) × (w < 256) → WrittenAs x (Some w)
unfolding work_out
byte_written {x} {b} {w} e same = rw e (record { is = λ v c y next. rw same.0; lies = λ y. byte_lies y b w same.1 })

module _ {t : List ℕ} {hand : Hand} {next : ArgumentPosition} (h : next.0 ≤ hand.count) where
  pub work_written : {y : Place} {x : Parameter} {s : Setting} → WrittenAs x s → Works t hand y x next.0 (Ok (record { setting = s; next = next }))
  work_written {y} w = record { as_defined = sym (w.is (view_of t) (hand_at hand 0) y next.0); reaches = h; lies = w.lies y }

  -- `#`
  pub work_count : {y : Place} {x : Parameter} {r : Result WorkedOut Refusal} → x ≡ Remaining → worked_as r ≡ from_count y (hand.count - next.0) next.0
      → Works t hand y x next.0 r
  unfolding work_out
  work_count {y} e is =
      rw e (record {
        as_defined = is;
        reaches = rw is (count_reaches hand.count y (hand.count - next.0) next.0 h);
        lies = λ _. rw is (count_lies y (hand.count - next.0) next.0);
      })

-- `v`, where no argument is left
pub none_left : {t : List ℕ} {hand : Hand} {y : Place} {next : ArgumentPosition} → hand.count ≤ next.0 → Works t hand y Next next.0 (Err NoArgument)
unfolding work_out
none_left {t} {hand} {y} {next} h = record { as_defined = rw (le-ltb next.0 hand.count h); reaches = tt; lies = λ _. tt }

-- `v`, where an argument is left and the reader answers a
pub next_works : {t : List ℕ} {hand : Hand} {next : ArgumentPosition} (a : Argument) {y : Place} {r : Result WorkedOut Refusal} {after : ArgumentPosition}
    → next.0 < hand.count → meant t a ≡ argument_in (view_of t) (hand_at hand 0) next.0 → after.0 ≡ next.0 + 1
    → worked_as r ≡ from_value y (meant t a) after.0 → Lies y (worked_as r) → Works t hand y Next next.0 r
unfolding work_out
next_works {t} {hand} {next} a {y} {r} {after} below value follows is lies = record {
  as_defined = rw (lt-ltb next.0 hand.count below, ← value, ← follows) is;
  reaches = rw is (value_reaches hand.count y (meant t a) after.0 (omega arith));
  lies = λ _. lies;
}
