-- The codes of the checks before a vet's run, 2 to 5 of a text and 11 of one that is not plain; and what may be asked.
-- Assumes nothing.
use Prim.Native.Nat.{ℕ, zero, suc, ◌≤◌, ◌<◌}
use mathlib.Core.Path.{◌≡◌}
use mathlib.Core.Bool.{Bool, true, false}
use mathlib.Core.List.{List, [], ◌∷◌}
use native.Mathlib.Omega.{arith}
use lib.Dec.{leb}
use lib.ListN.{length}
use borrow.Author.Tests.{leb-true}
use Rattle.rules.specs.Choice.{both}
use Rattle.rules.specs.Text.{Token, provided, text_verdict}
use Rattle.rules.specs.Verdict.{Verdict, Accepted, Refused}
use Rattle.rules.proofs.Faults.{TextFault, text_fault}
use Rattle.rules.proofs.Tests.{both_true}
use Rattle.vet_rules.specs.Plain.{plain_item, plain_from}
use Rattle.vet_rules.specs.Turns.{kind_in}
use Rattle.vet_rules.specs.Vet.{known_tags, may_ask, Asked}

-- a refusal has a code from least to most
abbrev pub Between : ℕ → ℕ → Verdict → Type 0
Between least most Accepted = Unit {0}
Between least most (Refused code p) = (least ≤ code) × (code ≤ most)

test_between : (least most : ℕ) (b : Bool) (code p : ℕ) (on : Bool → Verdict) → least ≤ code → code ≤ most
    → Between least most (on true) → Between least most (provided b code p on)
test_between least most true code p on l m h = h
test_between least most false code p on l m h = (l, m)

pub text_codes : (t : List ℕ) → Between 2 5 (text_verdict t)
text_codes t = by (text_verdict t) (text_fault t)
  where
    by : (x : Verdict) → TextFault t 2 x → Between 2 5 x
    by Accepted f = tt
    by (Refused code p) f = (f.0, f.1)

pub plain_codes : (choosing : Bool) (xs : List Token) → Between 11 11 (plain_from choosing xs)
unfolding plain_from
plain_codes choosing [] = tt
plain_codes choosing (x ∷ xs) =
    test_between 11 11 (plain_item choosing x.item) 11 x.position _ (omega arith) (omega arith) (plain_codes choosing xs)

known_at : (kinds : List ℕ) → known_tags kinds ≡ true → (i : ℕ) → i < length kinds → kind_in kinds i ≤ 4
known_at [] e i h = omega arith
known_at (k ∷ ks) e zero h = leb-true k 4 (both_true (leb k 4) (known_tags ks) e).0
known_at (k ∷ ks) e (suc i) h = known_at ks (both_true (leb k 4) (known_tags ks) e).1 i (omega arith)

pub asked_of : (kinds : List ℕ) (longest : ℕ) → may_ask kinds longest ≡ true → Asked kinds longest
asked_of kinds longest e =
    let a = both_true (leb (length kinds) 1024) (both (known_tags kinds) (leb longest 4096)) e in
    let b = both_true (known_tags kinds) (leb longest 4096) a.1 in
    record {
      many = leb-true (length kinds) 1024 a.0;
      tags = known_at kinds b.0;
      long = leb-true longest 4096 b.1;
    }
