-- What the checks before a run refuse: the table with code 1 at a place of its header or entries, the text with 2 to 5 at
-- a place of the text. Assumes nothing.
use Prim.Native.Nat.{ℕ, zero, suc, ◌+◌, ◌*◌, ◌<◌, ◌≤◌}
use mathlib.Core.Path.{◌≡◌, refl}
use mathlib.Core.Bool.{Bool, true, false, cond, not}
use mathlib.Core.List.{List, [], ◌∷◌}
use native.Mathlib.Omega.{arith}
use lib.Dec.{ltb, eqb}
use lib.ListN.{length}
use borrow.Author.Tests.{ltb-true, ltb-false}
use Rattle.rules.specs.Directive.{item_at}
use Rattle.rules.specs.Rows.{well_written}
use Rattle.rules.specs.Table.{entry_count, argument_count, pool_length, entry_at, is_right, first_bad, table_verdict}
use Rattle.rules.specs.Text.{Block, opened, separated, may_separate, is_closer_of, is_whole, deepest, provided, directive_met, at_end, verdict_at, longest, text_verdict}
use Rattle.rules.specs.declared.Code.{Code}
use Rattle.rules.specs.declared.Code.TheVariants.{Writes, Jump, Escape, Opens, Separator, Closes, Unknown}
use Rattle.rules.specs.declared.Directive.{Directive}
use Rattle.rules.specs.declared.Item.{Item}
use Rattle.rules.specs.declared.Item.TheVariants.{End, Literal, Written, BadNumber, Unfinished}
use Rattle.rules.specs.Verdict.{Verdict}
use Rattle.rules.specs.Verdict.{Accepted, Refused}
use Rattle.rules.proofs.TextLaws.{stands, next_inside, verdict_end, verdict_literal, verdict_bad, verdict_unfinished, verdict_written}

-- 1. The table.

abbrev pub TableFault : Verdict → Type 0
TableFault Accepted = Unit {0}
TableFault (Refused code p) = (code ≡ 1) × (p < 8 + 12 * 1024)

cond_fault : (b : Bool) (x y : Verdict) → (b ≡ true → TableFault x) → (b ≡ false → TableFault y) → TableFault (cond b x y)
cond_fault true x y h k = h refl
cond_fault false x y h k = k refl

entry_fault : (t : List ℕ) (n pool k i : ℕ) → i + k ≤ 1024 → TableFault (first_bad t n pool k i)
unfolding first_bad
entry_fault t n pool zero i h = tt
entry_fault t n pool (suc k) i h =
    cond_fault (is_right n pool i (entry_at t i)) _ _ (λ _. entry_fault t n pool k (suc i) (omega arith))
    (λ _. (refl, omega arith))

pub table_fault : (t : List ℕ) → TableFault (table_verdict t)
unfolding table_verdict
table_fault t =
    cond_fault (ltb (length t) 8) _ _ (λ _. (refl, omega arith))
    (λ _. cond_fault (ltb 1024 (entry_count t)) _ _ (λ _. (refl, omega arith))
    (λ e. cond_fault (ltb (entry_count t) (argument_count t)) _ _ (λ _. (refl, omega arith))
    (λ _. cond_fault (ltb 65536 (pool_length t)) _ _ (λ _. (refl, omega arith))
    (λ _. cond_fault (eqb (length t) (8 + 12 * entry_count t + pool_length t)) _ _
    (λ _. entry_fault t (entry_count t) (pool_length t) (entry_count t) 0 (omega (arith, ltb-false 1024 (entry_count t) e)))
    (λ _. (refl, omega arith))))))

-- 2. The text.

-- a refusal in it, with a code from `least` on
abbrev pub TextFault : List ℕ → ℕ → Verdict → Type 0
TextFault t least Accepted = Unit {0}
TextFault t least (Refused code p) = (least ≤ code) × (code ≤ 5) × (p < length t) × (p ≤ longest)

-- the openers of the open blocks stand in it
abbrev BlocksIn : List ℕ → List Block → Type 0
BlocksIn t [] = Unit {0}
BlocksIn t (o ∷ os) = (o.position < length t) × BlocksIn t os

module _ (t : List ℕ) (short : length t ≤ longest) where
  fault_at : (code p : ℕ) → 3 ≤ code → code ≤ 5 → p < length t → TextFault t 3 (Refused code p)
  fault_at code p l m h = (l, m, h, omega arith)

  unless : (b : Bool) (code p : ℕ) (on : Bool → Verdict) → 3 ≤ code → code ≤ 5 → p < length t → TextFault t 3 (on true)
      → TextFault t 3 (provided b code p on)
  unless true code p on l m h f = f
  unless false code p on l m h f = fault_at code p l m h

  module _ (p : ℕ) (h : p < length t) (d : Directive) (on : List Block → Verdict)
      (f : (os : List Block) → BlocksIn t os → TextFault t 3 (on os)) where
    -- the last test of each directive
    written : (os : List Block) → BlocksIn t os → TextFault t 3 (provided (well_written d) 5 p (λ _. on os))
    written os b = unless (well_written d) 5 p (λ _. on os) (omega arith) (omega arith) h (f os b)

    directive_fault : (c : Code) (os : List Block) → BlocksIn t os → TextFault t 3 (directive_met p d c os on)
    unfolding directive_met
    directive_fault Unknown os b = fault_at 3 p (omega arith) (omega arith) h
    directive_fault (Writes x) os b = written os b
    directive_fault Jump os b = written os b
    directive_fault Escape os b = written os b
    directive_fault (Opens y) os b =
        unless (ltb (length os) deepest) 4 p _ (omega arith) (omega arith) h (written (opened p d ∷ os) (h, b))
    directive_fault Separator [] b = fault_at 4 p (omega arith) (omega arith) h
    directive_fault Separator (o ∷ os) b =
        unless (may_separate o d) 4 p _ (omega arith) (omega arith) h (written (separated o d ∷ os) b)
    directive_fault (Closes y) [] b = fault_at 4 p (omega arith) (omega arith) h
    directive_fault (Closes y) (o ∷ os) b =
        unless (is_closer_of y o) 4 p _ (omega arith) (omega arith) h
        (unless (is_whole y o p) 4 o.position _ (omega arith) (omega arith) b.0 (written os b.1))

  end_fault : (os : List Block) → BlocksIn t os → TextFault t 3 (at_end os)
  end_fault [] b = tt
  end_fault (o ∷ os) b = fault_at 4 o.position (omega arith) (omega arith) b.0

  abbrev FaultsFrom : ℕ → Type 0
  FaultsFrom q = (os : List Block) → BlocksIn t os → TextFault t 3 (verdict_at t os q)

  item_fault : (p : ℕ) → ((q : ℕ) → p < q → q ≤ length t → FaultsFrom q) → FaultsFrom p
  item_fault p on os b = by (item_at t p) refl
    where
      by : (i : Item) → item_at t p ≡ i → TextFault t 3 (verdict_at t os p)
      by End e = rw (verdict_end t os p e) (end_fault os b)
      by (Literal c) e =
          let w : p < length t = stands t p (Literal c) e in
          rw (verdict_literal t os p c e) (on (p + 1) (omega arith) (omega arith) os b)
      by (Written d) e =
          let w = next_inside t p d e in
          rw (verdict_written t os p d e)
          (directive_fault p (omega (arith, w.above, w.most)) d (λ os₂. verdict_at t os₂ d.after)
          (on d.after (omega (arith, w.above)) w.most) d.code os b)
      by BadNumber e = rw (verdict_bad t os p e) (fault_at 5 p (omega arith) (omega arith) (stands t p BadNumber e))
      by Unfinished e = rw (verdict_unfinished t os p e) (fault_at 3 p (omega arith) (omega arith) (stands t p Unfinished e))

  -- n is at least the number of bytes from p on
  faults_from : (n p : ℕ) → length t ≤ p + n → FaultsFrom p
  faults_from zero p h = item_fault p (λ q a b. absurd (omega arith))
  faults_from (suc n) p h = item_fault p (λ q a b. faults_from n q (omega arith))

-- from 2 on
lowered : (t : List ℕ) (x : Verdict) → TextFault t 3 x → TextFault t 2 x
lowered t Accepted f = tt
lowered t (Refused code p) f = (omega (arith, f.0), f.1, f.2, f.3)

pub text_fault : (t : List ℕ) → TextFault t 2 (text_verdict t)
unfolding text_verdict
text_fault t = by (ltb longest (length t)) refl
  where
    by : (b : Bool) → ltb longest (length t) ≡ b → TextFault t 2 (provided (not b) 2 longest (λ _. verdict_at t [] 0))
    by true e = (omega arith, omega arith, ltb-true longest (length t) e, omega arith)
    by false e =
        lowered t (verdict_at t [] 0) (faults_from t (ltb-false longest (length t) e) (length t) 0 (omega arith) [] tt)
