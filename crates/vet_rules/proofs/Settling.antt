-- The parameters of a directive without `v`: they read no entry and take no argument, are refused only with 8, and are in
-- their places' ranges. Assumes nothing.
use Prim.Native.Nat.{ℕ, zero, suc, ◌-◌, ◌≤◌}
use mathlib.Core.Path.{◌≡◌, refl, subst}
use mathlib.Core.Bool.{Bool, true, false, cond}
use mathlib.Core.List.{List, [], ◌∷◌}
use native.Mathlib.Omega.{arith}
use lib.Dec.{leb}
use lib.ListN.{get_or}
use borrow.Author.Tests.{leb-true}
use Rattle.rules.specs.Choice.{both, either}
use Rattle.rules.specs.Table.{View}
use Rattle.rules.specs.Rows.{row_of, form_places, suits, in_row, in_order, each_suits, well_written}
use Rattle.rules.specs.declared.Place.{Place}
use Rattle.rules.specs.declared.Place.TheVariants.{Empty, Number as NumberPlace, Character as CharacterPlace}
use Rattle.rules.specs.declared.Places.{Places}
use Rattle.rules.specs.Working.{Context, Worked, worked, wrong, from_count, work_out, Settled, settled, unsettled, after_one, together, settle, settings_of, settle_all, settle_directive, AnyCode, InPlaceBy, InPlacesBy, WellSetBy}
use Rattle.rules.specs.declared.Code.{Code}
use Rattle.rules.specs.declared.Code.TheVariants.{Writes}
use Rattle.rules.specs.declared.Directive.{Directive}
use Rattle.rules.specs.declared.Form.{Form}
use Rattle.rules.specs.declared.Parameter.{Parameter}
use Rattle.rules.specs.declared.Parameter.TheVariants.{Default, Number, Character, Next, Remaining}
use Rattle.rules.specs.declared.Parameters.{Parameters}
use Rattle.rules.specs.Setting.{Setting}
use Rattle.std.specs.Prelude.{None, Some}
use Rattle.rules.specs.declared.Settings.{Settings}
use Rattle.rules.proofs.Rowed.{written_suits}
use Rattle.rules.proofs.Tests.{both_true, not_both_ways}
use Rattle.vet_rules.specs.Plain.{none_next}
use Rattle.vet_rules.specs.Use.{no_entries}
use Rattle.vet_rules.proofs.Ordinary.{PlainDirective}

-- no entry is read
same_after : (w : Worked) (k l : Setting → ℕ → Settled) → ((s : Setting) (n : ℕ) → k s n ≡ l s n)
    → after_one w k ≡ after_one w l
same_after (worked s n) k l h = h s n
same_after (wrong code) k l h = refl

pub settle_plain : (v : View) (c : Context) (ys : List Place) (xs : List Parameter) (next : ℕ) → none_next xs ≡ true
    → settle v c ys xs next ≡ settle no_entries c ys xs next
unfolding settle work_out
settle_plain v c [] xs next h = refl
settle_plain v c (y ∷ ys) [] next h = refl
settle_plain v c (y ∷ ys) (Default ∷ xs) next h = rw (settle_plain v c ys xs next h)
settle_plain v c (y ∷ ys) (Number n ∷ xs) next h = rw (settle_plain v c ys xs next h)
settle_plain v c (y ∷ ys) (Character b ∷ xs) next h = rw (settle_plain v c ys xs next h)
settle_plain v c (y ∷ ys) (Next ∷ xs) next h = absurd (not_both_ways h refl)
settle_plain v c (y ∷ ys) (Remaining ∷ xs) next h =
    same_after (from_count y (c.count - next) next) (λ s after. together s (settle v c ys xs after))
    (λ s after. together s (settle no_entries c ys xs after))
    (λ s after. rw (settle_plain v c ys xs after h))

-- a form with parameters in their ranges; of a character nothing is asked
abbrev pub Ranged : Form → Settings → Type 0
Ranged = WellSetBy AnyCode

abbrev In : Place → Setting → Type 0
In = InPlaceBy AnyCode

-- settings in their places, one by one
abbrev Placed : List Place → List Setting → Type 0
Placed ys ss = (k : ℕ) → In (get_or ys k Empty) (get_or ss k None)

-- parameters that are worked out: all in their places, with the same argument next; or a refusal
abbrev SettlesIn : List Place → ℕ → Settled → Type 0
SettlesIn ys next (settled ss after) = (after ≡ next) × Placed ys ss
SettlesIn ys next (unsettled code) = (6 ≤ code) × (code ≤ 8)

with_one : (y : Place) (ys : List Place) (next : ℕ) (s : Setting) (z : Settled) → In y s → SettlesIn ys next z
    → SettlesIn (y ∷ ys) next (together s z)
with_one y ys next s (settled ss after) i h = (h.0, placed)
  where
    placed : Placed (y ∷ ys) (s ∷ ss)
    placed zero = i
    placed (suc k) = h.1 k
with_one y ys next s (unsettled code) i h = h

range : (least most n : ℕ) → both (leb least n) (leb n most) ≡ true → (least ≤ n) × (n ≤ most)
range least most n e =
    let h = both_true (leb least n) (leb n most) e in
    (leb-true least n h.0, leb-true n most h.1)

number_placed : (y : Place) (n : ℕ) → suits y (Number n) ≡ true → In y (Some n)
number_placed Empty n e = absurd (not_both_ways e refl)
number_placed (NumberPlace least most) n e = range least most n e
number_placed CharacterPlace n e = tt

character_placed : (y : Place) (b : ℕ) → suits y (Character b) ≡ true → In y (Some b)
character_placed Empty b e = absurd (not_both_ways e refl)
character_placed (NumberPlace least most) b e = absurd (not_both_ways e refl)
character_placed CharacterPlace b e = tt

-- `#`
count_placed : (y : Place) (ys : List Place) (next n : ℕ) (on : ℕ → Settled) → SettlesIn ys next (on next)
    → SettlesIn (y ∷ ys) next (after_one (from_count y n next) (λ s after. together s (on after)))
count_placed Empty ys next n on h = (omega arith, omega arith)
count_placed (NumberPlace least most) ys next n on h = pick (both (leb least n) (leb n most)) (range least most n)
  where
    pick : (t : Bool) → (t ≡ true → (least ≤ n) × (n ≤ most))
        → SettlesIn (NumberPlace least most ∷ ys) next (after_one (cond t (worked (Some n) next) (wrong 8)) (λ s after. together s (on after)))
    pick true i = with_one (NumberPlace least most) ys next (Some n) (on next) (i refl) h
    pick false i = (omega arith, omega arith)
count_placed CharacterPlace ys next n on h = (omega arith, omega arith)

settle_each_lem : (c : Context) (ys : List Place) (xs : List Parameter) (next : ℕ) → none_next xs ≡ true
    → each_suits ys xs ≡ true
    → SettlesIn ys next (settle no_entries c ys xs next)
unfolding settle work_out
settle_each_lem c [] xs next h e = (refl, λ k. tt)
settle_each_lem c (y ∷ ys) [] next h e = (refl, λ k. tt)
settle_each_lem c (y ∷ ys) (Default ∷ xs) next h e =
    with_one y ys next None (settle no_entries c ys xs next) tt
    (settle_each_lem c ys xs next h (both_true (suits y Default) (each_suits ys xs) e).1)
settle_each_lem c (y ∷ ys) (Number n ∷ xs) next h e =
    let f = both_true (suits y (Number n)) (each_suits ys xs) e in
    with_one y ys next (Some n) (settle no_entries c ys xs next) (number_placed y n f.0)
    (settle_each_lem c ys xs next h f.1)
settle_each_lem c (y ∷ ys) (Character b ∷ xs) next h e =
    let f = both_true (suits y (Character b)) (each_suits ys xs) e in
    with_one y ys next (Some b) (settle no_entries c ys xs next) (character_placed y b f.0)
    (settle_each_lem c ys xs next h f.1)
settle_each_lem c (y ∷ ys) (Next ∷ xs) next h e = absurd (not_both_ways h refl)
settle_each_lem c (y ∷ ys) (Remaining ∷ xs) next h e =
    count_placed y ys next (c.count - next) (settle no_entries c ys xs)
    (settle_each_lem c ys xs next h (both_true (suits y Remaining) (each_suits ys xs) e).1)

-- all parameters of a directive
abbrev pub Settles : Places → ℕ → Settled → Type 0
Settles ys next (settled ss after) = (after ≡ next) × InPlacesBy AnyCode ys (settings_of ss)
Settles ys next (unsettled code) = (6 ≤ code) × (code ≤ 8)

in_places : (ys : Places) (next : ℕ) (z : Settled) → SettlesIn (in_row ys) next z → Settles ys next z
in_places ys next (settled ss after) h =
    let p = h.1 in
    (h.0, record { first = p 0; second = p 1; third = p 2; fourth = p 3; fifth = p 4 })
in_places ys next (unsettled code) h = h

pub settle_placed : (c : Context) (ys : Places) (ps : Parameters) (next : ℕ) → none_next (in_order ps) ≡ true
    → each_suits (in_row ys) (in_order ps) ≡ true
    → Settles ys next (settle_all no_entries c ys ps next)
settle_placed c ys ps next h e =
    in_places ys next (settle_all no_entries c ys ps next) (settle_each_lem c (in_row ys) (in_order ps) next h e)

-- the parameters of a plain directive suit its places
pub directive_suits : (d : Directive) (w : PlainDirective d) → each_suits (in_row (form_places w.form)) (in_order d.parameters) ≡ true
directive_suits d w =
    subst (λ (c : Code). each_suits (in_row (row_of c (either d.colon d.atsign)).places) (in_order d.parameters) ≡ true)
    w.code (written_suits d w.written)

-- those of a well-written directive of a form
pub settled_as_lem : (v : View) (c : Context) (d : Directive) (f : Form) → d.code ≡ Writes f → well_written d ≡ true
    → settle_directive v c d ≡ settle_all v c (form_places f) d.parameters c.next
settled_as_lem v c d f e w = rw (w, e)
