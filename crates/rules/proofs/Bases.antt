-- What is read from a text: nothing that is read is its end, and the base of a numeral that is read is 2 to 36. Assumes
-- nothing.
use Prim.Native.Nat.{ℕ, suc, ◌+◌}
use mathlib.Core.Path.{◌≡◌, subst}
use mathlib.Core.Bool.{Bool, true, false, cond, not}
use mathlib.Core.List.{List, [], ◌∷◌}
use borrow.Author.Rules.{rules}
use lib.Dec.{leb, eqb}
use lib.ListN.{drop}
use Rattle.rules.specs.Choice.{both}
use Rattle.rules.specs.Directive.{lower_case, letters, code_named, CodeRight, Reading, start, signed, digits, quote, whole, modifiers, blank, having, closed, Step, goes, bad, ends, modifier_step, after_step, is_digit, one_more, digit_step, start_step, step, skipped, going, cut_short, on_step, scan, item_of, item_at}
use Rattle.rules.specs.declared.Code.TheVariants.{Unknown}
use Rattle.rules.specs.declared.Directive.{Directive}
use Rattle.rules.specs.declared.Item.{Item}
use Rattle.rules.specs.declared.Item.TheVariants.{End, Literal, Written, BadNumber, Unfinished}
use Rattle.rules.proofs.Tables.{Each, looked_up}

-- each code of the table is right
all_right : Each (λ b. CodeRight) letters
all_right = search rules

named_right : (b : ℕ) → CodeRight (code_named b)
unfolding code_named
named_right b = looked_up (λ b. CodeRight) letters Unknown b all_right tt

-- a byte that ends a directive is its code
abbrev EndsRight : Step → Type 0
EndsRight (goes r d) = Unit {0}
EndsRight bad = Unit {0}
EndsRight (ends d) = CodeRight d.code

step_by : (t : Bool) (x y : Step) → EndsRight x → EndsRight y → EndsRight (cond t x y)
step_by true x y h k = h
step_by false x y h k = k

modifier_right : (d : Directive) (b : ℕ) → EndsRight (modifier_step d b)
modifier_right d b =
    step_by (both (eqb b 58) (not d.colon)) _ _ tt
    (step_by (both (eqb b 64) (not d.atsign)) _ _ tt (named_right (lower_case b)))

after_right : (r : Reading) (d : Directive) (b : ℕ) → EndsRight (after_step r d b)
after_right r d b = step_by (eqb b 44) _ _ tt (modifier_right (having d (closed r d.parameters)) b)

digit_right : (minus : Bool) (n : ℕ) (d : Directive) (b : ℕ) → EndsRight (digit_step minus n d b)
digit_right minus n d b = step_by (leb (one_more n b) (cond minus 0 4096)) _ _ tt tt

start_right : (d : Directive) (b : ℕ) → EndsRight (start_step d b)
start_right d b =
    step_by (is_digit b) _ _ (digit_right false 0 d b)
    (step_by (eqb b 43) _ _ tt
    (step_by (eqb b 45) _ _ tt
    (step_by (eqb b 39) _ _ tt
    (step_by (eqb (lower_case b) 118) _ _ tt
    (step_by (eqb b 35) _ _ tt
    (after_right start d b))))))

step_right : (r : Reading) (d : Directive) (b : ℕ) → EndsRight (step r d b)
unfolding step
step_right start d b = start_right d b
step_right (signed minus) d b = step_by (is_digit b) _ _ (digit_right minus 0 d b) tt
step_right (digits minus n) d b = step_by (is_digit b) _ _ (digit_right minus n d b) (after_right (digits minus n) d b)
step_right quote d b = tt
step_right (whole x) d b = after_right (whole x) d b
step_right modifiers d b = modifier_right d b

abbrev IsEnd : Item → Type 0
IsEnd End = Unit {0}
IsEnd (Literal b) = ⊥
IsEnd (Written d) = ⊥
IsEnd BadNumber = ⊥
IsEnd Unfinished = ⊥

-- an item that is read
abbrev pub Readable : Item → Type 0
Readable End = ⊥
Readable (Literal b) = Unit {0}
Readable (Written d) = CodeRight d.code
Readable BadNumber = Unit {0}
Readable Unfinished = Unit {0}

on_step_lem : (s : Step) (on : Reading → Directive → Item) (last : Directive → Item) → EndsRight s
    → ((r : Reading) (d : Directive) → Readable (on r d)) → ((d : Directive) → CodeRight d.code → Readable (last d))
    → Readable (on_step s on last)
on_step_lem (goes r d) on last e h k = h r d
on_step_lem bad on last e h k = tt
on_step_lem (ends d) on last e h k = k d e

cut_readable : (r : Reading) → Readable (cut_short r)
cut_readable start = tt
cut_readable (signed m) = tt
cut_readable (digits m n) = tt
cut_readable quote = tt
cut_readable (whole x) = tt
cut_readable modifiers = tt

scan_readable : (bs : List ℕ) (r : Reading) (d : Directive) (p : ℕ) → Readable (scan r d bs p)
unfolding scan
scan_readable [] r d p = cut_readable r
scan_readable (b ∷ bs) r d p =
    on_step_lem (step r d b) (λ r₂ d₂. scan r₂ d₂ bs (suc p)) (λ d₂. going d₂ (suc p + skipped b d₂.colon bs)) (step_right r d b)
    (λ r₂ d₂. scan_readable bs r₂ d₂ (suc p)) (λ d₂ h. h)

pub item_readable : (b : ℕ) (bs : List ℕ) (p : ℕ) → Readable (item_of (b ∷ bs) p)
unfolding item_of
item_readable b bs p = pick (eqb b 126)
  where
    pick : (t : Bool) → Readable (cond t (scan start blank bs (suc p)) (Literal b))
    pick true = scan_readable bs start blank (suc p)
    pick false = tt

-- the directive that stands at a place of a text
pub code_right : (t : List ℕ) (p : ℕ) (d : Directive) → item_at t p ≡ Written d → CodeRight d.code
unfolding item_of
code_right t p d e = by (drop p t) e
  where
    by : (bs : List ℕ) → item_of bs p ≡ Written d → CodeRight d.code
    by [] k = absurd (subst (λ (i : Item). IsEnd i) k tt)
    by (b ∷ bs) k = subst Readable k (item_readable b bs p)
