-- What the parameters of a well-written directive are refused for where they are worked out: 6, 7 or 8, and 8 only for
-- the "value of `v` or `#` outside its place's range", never for what is written in the text. Assumes nothing.
use Prim.Native.Nat.{ℕ, ◌-◌, ◌+◌, ◌<◌, ◌≤◌}
use mathlib.Core.Path.{◌≡◌, refl}
use mathlib.Core.Bool.{Bool, true, false, cond}
use mathlib.Core.List.{List, [], ◌∷◌}
use native.Mathlib.Omega.{arith}
use lib.Dec.{ltb, leb}
use lib.IntN.{ℤ, pos, negsuc}
use borrow.Author.Tests.{ltb-true}
use Rattle.rules.specs.Choice.{both}
use Rattle.rules.specs.Rows.{suits, each_suits}
use Rattle.rules.specs.Table.{Value, boolean, integer, character, string, list, View}
use Rattle.rules.specs.Working.{Context, argument_in, Worked, worked, wrong, in_range, from_value, work_out, Settled, settled, unsettled, after_one, together, settle}
use Rattle.rules.specs.declared.Parameter.{Parameter}
use Rattle.rules.specs.declared.Parameter.TheVariants.{Default, Number, Character, Next, Remaining}
use Rattle.rules.specs.declared.Place.{Place}
use Rattle.rules.specs.declared.Place.TheVariants.{Empty, Number as NumberPlace, Character as CharacterPlace}
use Rattle.rules.specs.Setting.{Setting}
use Rattle.std.specs.Prelude.{Some}
use Rattle.rules.proofs.Tests.{both_true, not_both_ways}

-- an integer from least to most
abbrev pub is_between : ℕ → ℕ → ℤ → Bool
is_between least most (pos n) = both (leb least n) (leb n most)
is_between least most (negsuc n) = false

-- a parameter whose value is an integer outside its number place's range: a `v`'s, the argument `next`, or a `#`'s
pub data OutOfRange (v : View) (c : Context) : Place → Parameter → ℕ → Type 0 where
  taken : {least most next : ℕ} {z : ℤ} → next < c.count → argument_in v c next ≡ integer z
      → is_between least most z ≡ false → OutOfRange v c (NumberPlace least most) Next next
  remaining : {least most next : ℕ} → is_between least most (pos (c.count - next)) ≡ false
      → OutOfRange v c (NumberPlace least most) Remaining next

-- one of the parameters is such, and those before it are worked out
pub data MeetsOutOfRange (v : View) (c : Context) : List Place → List Parameter → ℕ → Type 0 where
  here : {y : Place} {ys : List Place} {x : Parameter} {xs : List Parameter} {next : ℕ} → OutOfRange v c y x next
      → MeetsOutOfRange v c (y ∷ ys) (x ∷ xs) next
  later : {y : Place} {ys : List Place} {x : Parameter} {xs : List Parameter} {next after : ℕ} {s : Setting}
      → work_out v c y x next ≡ worked s after → MeetsOutOfRange v c ys xs after
      → MeetsOutOfRange v c (y ∷ ys) (x ∷ xs) next

-- a refusal of the parameters, where `cause` is what 8 stands for
pub record ParameterRefusal (cause : Type 0) (code : ℕ) : Type 0 where
  pub least : 6 ≤ code
  pub most : code ≤ 8
  pub range : code ≡ 8 → cause

abbrev OneWorked : Type 0 → Worked → Type 0
OneWorked cause (worked s next) = Unit {0}
OneWorked cause (wrong code) = ParameterRefusal cause code

abbrev pub AllWorked : Type 0 → Settled → Type 0
AllWorked cause (settled ss next) = Unit {0}
AllWorked cause (unsettled code) = ParameterRefusal cause code

-- a refusal that is no 8
other : (cause : Type 0) (code : ℕ) → 6 ≤ code → code ≤ 7 → ParameterRefusal cause code
other cause code l m = record { least = l; most = omega arith; range = λ e. absurd (omega arith) }

eight : (cause : Type 0) → cause → ParameterRefusal cause 8
eight cause h = record { least = omega arith; most = omega arith; range = λ _. h }

range_worked : (cause : Type 0) (least most n next : ℕ) → (is_between least most (pos n) ≡ false → cause)
    → OneWorked cause (in_range least most n next)
range_worked cause least most n next h = by (both (leb least n) (leb n most)) h
  where
    by : (b : Bool) → (b ≡ false → cause) → OneWorked cause (cond b (worked (Some n) next) (wrong 8))
    by true k = tt
    by false k = eight cause (k refl)

module _ (v : View) (c : Context) where
  value_worked : (y : Place) (x : Value) (next after : ℕ) → next < c.count → argument_in v c next ≡ x
      → OneWorked (OutOfRange v c y Next next) (from_value y x after)
  value_worked Empty x next after h e = other _ 7 (omega arith) (omega arith)
  value_worked (NumberPlace least most) (boolean b) next after h e = other _ 7 (omega arith) (omega arith)
  value_worked (NumberPlace least most) (integer (pos n)) next after h e =
      range_worked (OutOfRange v c (NumberPlace least most) Next next) least most n after (λ k. taken h e k)
  value_worked (NumberPlace least most) (integer (negsuc n)) next after h e = eight _ (taken h e refl)
  value_worked (NumberPlace least most) (character b) next after h e = other _ 7 (omega arith) (omega arith)
  value_worked (NumberPlace least most) (string s) next after h e = other _ 7 (omega arith) (omega arith)
  value_worked (NumberPlace least most) (list first count) next after h e = other _ 7 (omega arith) (omega arith)
  value_worked CharacterPlace (boolean b) next after h e = other _ 7 (omega arith) (omega arith)
  value_worked CharacterPlace (integer z) next after h e = other _ 7 (omega arith) (omega arith)
  value_worked CharacterPlace (character b) next after h e = tt
  value_worked CharacterPlace (string s) next after h e = other _ 7 (omega arith) (omega arith)
  value_worked CharacterPlace (list first count) next after h e = other _ 7 (omega arith) (omega arith)

  one_worked : (y : Place) (x : Parameter) (next : ℕ) → suits y x ≡ true
      → OneWorked (OutOfRange v c y x next) (work_out v c y x next)
  unfolding work_out
  one_worked y Default next h = tt
  one_worked y (Number n) next h = tt
  one_worked y (Character b) next h = tt
  one_worked y Next next h = by (ltb next c.count) refl
    where
      by : (b : Bool) → ltb next c.count ≡ b
          → OneWorked (OutOfRange v c y Next next) (cond b (from_value y (argument_in v c next) (next + 1)) (wrong 6))
      by true k = value_worked y (argument_in v c next) next (next + 1) (ltb-true next c.count k) refl
      by false k = other _ 6 (omega arith) (omega arith)
  one_worked Empty Remaining next h = absurd (not_both_ways h refl)
  one_worked (NumberPlace least most) Remaining next h =
      range_worked (OutOfRange v c (NumberPlace least most) Remaining next) least most (c.count - next) next (λ k. remaining k)
  one_worked CharacterPlace Remaining next h = absurd (not_both_ways h refl)

  -- with one more parameter before
  together_worked : (s : Setting) (z : Settled) (cause effect : Type 0) → (cause → effect) → AllWorked cause z
      → AllWorked effect (together s z)
  together_worked s (settled ss next) cause effect f h = tt
  together_worked s (unsettled code) cause effect f h =
      record { least = h.least; most = h.most; range = λ e. f (h.range e) }

  pub settle_worked : (ys : List Place) (xs : List Parameter) (next : ℕ) → each_suits ys xs ≡ true
      → AllWorked (MeetsOutOfRange v c ys xs next) (settle v c ys xs next)
  unfolding settle
  settle_worked [] xs next h = tt
  settle_worked (y ∷ ys) [] next h = tt
  settle_worked (y ∷ ys) (x ∷ xs) next h =
      let w = both_true (suits y x) (each_suits ys xs) h in
      by (work_out v c y x next) refl (one_worked y x next w.0) (λ after. settle_worked ys xs after w.1)
    where
      by : (z : Worked) → work_out v c y x next ≡ z → OneWorked (OutOfRange v c y x next) z
          → ((after : ℕ) → AllWorked (MeetsOutOfRange v c ys xs after) (settle v c ys xs after))
          → AllWorked (MeetsOutOfRange v c (y ∷ ys) (x ∷ xs) next)
          (after_one z (λ s after. together s (settle v c ys xs after)))
      by (worked s after) e k more =
          together_worked s (settle v c ys xs after) (MeetsOutOfRange v c ys xs after)
          (MeetsOutOfRange v c (y ∷ ys) (x ∷ xs) next) (λ m. later e m) (more after)
      by (wrong code) e k more = record { least = k.least; most = k.most; range = λ z. here (k.range z) }
