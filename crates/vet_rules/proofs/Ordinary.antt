-- What a plain text that is accepted is made of: literal bytes, and well-written directives that write and have no `v`.
-- Assumes nothing.
use Prim.Native.Nat.{ℕ, suc, ◌≤◌}
use mathlib.Core.Path.{◌≡◌, refl}
use mathlib.Core.Bool.{Bool, true, false, not}
use mathlib.Core.List.{List, [], ◌∷◌}
use native.Mathlib.Omega.{arith}
use lib.Dec.{ltb}
use lib.ListN.{length}
use borrow.Author.Tests.{ltb-false, not-true}
use Rattle.rules.specs.Choice.{both}
use Rattle.rules.specs.Directive.{FormRight, CodeRight}
use Rattle.rules.specs.Rows.{in_order, well_written}
use Rattle.rules.specs.Text.{Token, Block, provided, directive_met, item_met, verdict_of, longest, tokens_at, text_verdict}
use Rattle.rules.specs.declared.Bracket.TheVariants.{Conditional, Iteration}
use Rattle.rules.specs.declared.Code.{Code}
use Rattle.rules.specs.declared.Code.TheVariants.{Writes, Jump, Escape, Opens, Separator, Closes, Unknown}
use Rattle.rules.specs.declared.Directive.{Directive}
use Rattle.rules.specs.declared.Form.{Form}
use Rattle.rules.specs.declared.Item.{Item}
use Rattle.rules.specs.declared.Item.TheVariants.{End, Literal, Written, BadNumber, Unfinished}
use Rattle.rules.specs.Verdict.{Verdict, Accepted, Refused}
use Rattle.rules.proofs.Tests.{both_true, not_both_ways}
use Rattle.vet_rules.specs.Plain.{plain_code, none_next, plain_item, plain_from, plain_verdict}
use Rattle.vet_rules.proofs.Items.{Read, tokens_read, tokens_count}
use Rattle.rules.proofs.Bases.{Readable}

-- a directive that writes
pub record PlainDirective (d : Directive) : Type 0 where
  pub form : Form
  pub code : d.code ≡ Writes form
  pub written : well_written d ≡ true
  pub fixed : none_next (in_order d.parameters) ≡ true
  pub based : FormRight form

abbrev pub Ordinary : Item → Type 0
Ordinary End = ⊥
Ordinary (Literal b) = Unit {0}
Ordinary (Written d) = PlainDirective d
Ordinary BadNumber = ⊥
Ordinary Unfinished = ⊥

abbrev pub AllOrdinary : List Token → Type 0
AllOrdinary [] = Unit {0}
AllOrdinary (x ∷ xs) = Ordinary x.item × AllOrdinary xs

refused_accepted : {code position : ℕ} → Refused code position ≡ Accepted → ⊥
refused_accepted e = let z : ◌≡◌ {A = ℕ} 0 1 = cc in omega arith

-- a test that refuses where it fails held, and reading went on
pub past_test : (b : Bool) (code p : ℕ) (on : Bool → Verdict) → provided b code p on ≡ Accepted
    → (b ≡ true) × (on true ≡ Accepted)
past_test true code p on e = (refl, e)
past_test false code p on e = absurd (refused_accepted e)

directive_ordinary : (p : ℕ) (d : Directive) (on : List Block → Verdict) (c : Code) → d.code ≡ c → CodeRight c
    → both (plain_code false c) (none_next (in_order d.parameters)) ≡ true → directive_met p d c [] on ≡ Accepted
    → PlainDirective d × (on [] ≡ Accepted)
unfolding directive_met
directive_ordinary p d on (Writes f) e h k m =
    let r = past_test (well_written d) 5 p (λ _. on []) m in
    (record { form = f; code = e; written = r.0; fixed = (both_true (plain_code false (Writes f)) _ k).1; based = h }, r.1)
directive_ordinary p d on Jump e h k m = absurd (not_both_ways k refl)
directive_ordinary p d on Escape e h k m = absurd (not_both_ways k refl)
directive_ordinary p d on (Opens Conditional) e h k m = absurd (not_both_ways k refl)
directive_ordinary p d on (Opens Iteration) e h k m = absurd (not_both_ways k refl)
directive_ordinary p d on Separator e h k m = absurd (refused_accepted m)
directive_ordinary p d on (Closes b) e h k m = absurd (refused_accepted m)
directive_ordinary p d on Unknown e h k m = absurd (refused_accepted m)

item_ordinary : (p : ℕ) (x : Item) (on : List Block → Verdict) → Readable x → plain_item false x ≡ true
    → item_met p x [] on ≡ Accepted
    → Ordinary x × (on [] ≡ Accepted)
unfolding plain_item
item_ordinary p End on r k m = absurd r
item_ordinary p (Literal b) on r k m = (tt, m)
item_ordinary p (Written d) on r k m = directive_ordinary p d on d.code refl r k m
item_ordinary p BadNumber on r k m = absurd (refused_accepted m)
item_ordinary p Unfinished on r k m = absurd (refused_accepted m)

all_ordinary : (p : ℕ) (xs : List Token) → Read p xs → verdict_of [] xs ≡ Accepted → plain_from false xs ≡ Accepted
    → AllOrdinary xs
unfolding verdict_of plain_from
all_ordinary p [] r v k = tt
all_ordinary p (x ∷ xs) r v k =
    let plain = past_test (plain_item false x.item) 11 x.position (λ _. plain_from false xs) k in
    let here = item_ordinary x.position x.item (λ os. verdict_of os xs) r.1 plain.0 v in
    (here.0, all_ordinary (suc x.position) xs r.2 here.1 plain.1)

-- an accepted text is short enough, and where it is plain its items are ordinary
module _ (t : List ℕ) (v : text_verdict t ≡ Accepted) where
  parts : (not (ltb longest (length t)) ≡ true) × (verdict_of [] (tokens_at t 0) ≡ Accepted)
  unfolding text_verdict
  parts = past_test (not (ltb longest (length t))) 2 longest (λ _. verdict_of [] (tokens_at t 0)) v

  -- so that it cannot reach the step limit
  pub items_few : length (tokens_at t 0) ≤ 4096
  items_few = omega (arith, tokens_count t, ltb-false longest (length t) (not-true (ltb longest (length t)) parts.0))

  pub items_ordinary : plain_verdict t ≡ Accepted → AllOrdinary (tokens_at t 0)
  items_ordinary k = all_ordinary 0 (tokens_at t 0) (tokens_read t) parts.1 k
