-- What holds of every way through a conditional holds where they meet. Assumes nothing.
use Prim.Native.Nat.{ℕ, ◌+◌, ◌≤◌}
use mathlib.Core.Path.{◌≡◌, refl, subst⁻¹}
use mathlib.Core.Bool.{Bool, true, false}
use mathlib.Core.List.{List}
use lib.Dec.{eqb}
use borrow.Author.Tests.{eqb-true}
use Rattle.rules.specs.Text.{Sequence, Clauses, none, clause}
use Rattle.rules.specs.declared.Directive.{Directive}
use Rattle.rules.proofs.Tests.{not_both_ways}
use Rattle.vet_rules.specs.Ways.{Way, leads, fails, Ways, ending, failing, meeting, with_none, on_way, way_of, ways_of}
use Rattle.vet_rules.specs.Worst.{larger}
use Rattle.vet_rules.specs.declared.Ends.{Ends}
use Rattle.vet_rules.specs.declared.Ends.TheVariants.{Nowhere, Equal, Unequal}
use Rattle.vet_rules.proofs.Clauses.{Each}
use Rattle.vet_rules.proofs.Padding.{larger_left, larger_right}
use Rattle.vet_rules.proofs.Uses.{by_test}

-- what holds of an argument and a number of bytes
abbrev pub Fact : Type 1
Fact = ℕ → ℕ → Type 0

-- a fact of where a way leads
abbrev pub Led : Fact → Way → Type 0
Led P (leads n s) = P n s
Led P (fails code p) = Unit {0}

-- a fact of the argument at which all ways so far end, and of the bytes of the longest
abbrev pub Met : Fact → Ends → Type 0
Met P Nowhere = (n s : ℕ) → P n s
Met P (Equal n s) = P n.0 s
Met P Unequal = Unit {0}

abbrev pub AllMet : Fact → Ways → Type 0
AllMet P (ending e) = Met P e
AllMet P (failing code p) = Unit {0}

-- that a longer way ends there does not change it
abbrev pub Grows : Fact → Type 0
Grows P = (n s more : ℕ) → s ≤ more → P n s → P n more

-- what follows from a fact
module _ (P Q : Fact) (on : (n s : ℕ) → P n s → Q n s) where
  pub led_on : (w : Way) → Led P w → Led Q w
  led_on (leads n s) h = on n s h
  led_on (fails code p) h = tt

  met_on : (e : Ends) → Met P e → Met Q e
  met_on Nowhere h = λ n s. on n s (h n s)
  met_on (Equal n s) h = on n.0 s h
  met_on Unequal h = tt

  all_on : (w : Ways) → AllMet P w → AllMet Q w
  all_on (ending e) h = met_on e h
  all_on (failing code p) h = tt

-- one way more, of which Q holds
meeting_met : (P Q : Fact) → Grows P → Grows Q → (e : Ends) (n s : ℕ) → Met P e → Q n s
    → Met (λ a b. P a b × Q a b) (meeting e n s)
unfolding meeting
meeting_met P Q p q Nowhere n s h k = (h n s, k)
meeting_met P Q p q (Equal a b) n s h k =
    by_test (Met (λ a b. P a b × Q a b)) (eqb a.0 n) _ _
    (λ t. (
      p a.0 b (larger b s) (larger_left b s) h,
      q a.0 s (larger b s) (larger_right b s) (subst⁻¹ (λ (i : ℕ). Q i s) (eqb-true a.0 n t) k),
    ))
    (λ _. tt)
meeting_met P Q p q Unequal n s h k = tt

after_way : (P Q : Fact) (w : Way) (on : ℕ → ℕ → Ways) → Led P w → ((n s : ℕ) → P n s → AllMet Q (on n s))
    → AllMet Q (on_way w on)
after_way P Q (leads n s) on h f = f n s h
after_way P Q (fails code p) on h f = tt

module _ (kinds : List ℕ) (longest start : ℕ) (F : Sequence → Fact) (grows : (x : Sequence) → Grows (F x)) where
  -- Every clause leads where its own fact holds, so that all of them hold where they meet, and with them the fact P of the
  -- ways before them
  ways_met : (cs : Clauses) → Each (λ x. Led (F x) (way_of kinds longest x start 0)) cs → (P : Fact) → Grows P → (e : Ends)
      → Met P e
      → AllMet (λ n s. P n s × Each (λ x. F x n s) cs) (ways_of kinds longest cs start e)
  unfolding way_of
  ways_met none a P p e h = met_on P _ (λ n s h. (h, tt)) e h
  ways_met (clause colon x more) a P p e h =
      let Both : Fact = λ n s. P n s × F x n s in
      after_way (F x) (λ n s. P n s × Each (λ x. F x n s) (clause colon x more)) (way_of kinds longest x start 0) _ a.0
      (λ n s k. all_on (λ n s. Both n s × Each (λ x. F x n s) more) _ (λ n s h. (h.0.0, (h.0.1, h.1)))
      (ways_of kinds longest more start (meeting e n s))
      (ways_met more a.1 Both (λ n s m l h. (p n s m l h.0, grows x n s m l h.1)) (meeting e n s)
      (meeting_met P (F x) p (grows x) e n s h k)))

  -- of all clauses from the first
  pub clauses_met : (cs : Clauses) → Each (λ x. Led (F x) (way_of kinds longest x start 0)) cs
      → AllMet (λ n s. Each (λ x. F x n s) cs) (ways_of kinds longest cs start Nowhere)
  clauses_met cs a =
      all_on (λ n s. Unit {0} × Each (λ x. F x n s) cs) (λ n s. Each (λ x. F x n s) cs) (λ n s h. h.1)
      (ways_of kinds longest cs start Nowhere)
      (ways_met cs a (λ _ _. Unit {0}) (λ n s m l h. h) Nowhere (λ _ _. tt))

-- the way by which none of the clauses runs, if there is one, ends at n
pub record NoneEnds (d : Directive) (fallback : Bool) (start n : ℕ) : Type 0 where
  pub boolean : d.colon ≡ false → d.atsign ≡ true → start + 1 ≡ n
  pub number : d.colon ≡ false → d.atsign ≡ false → fallback ≡ false → start ≡ n

pub none_met : (d : Directive) (fallback : Bool) (start : ℕ) (P : Fact) → Grows P → (e : Ends) → Met P e
    → Met (λ n s. P n s × NoneEnds d fallback start n) (with_none d fallback start e)
none_met d fallback start P p e h =
    by_test Goal d.colon e _
    (λ c. still (λ _. record { boolean = λ z. absurd (not_both_ways c z); number = λ z. absurd (not_both_ways c z) }))
    (λ c. by_test Goal d.atsign _ _
    (λ a. also (start + 1) (record { boolean = λ _ _. refl; number = λ _ z. absurd (not_both_ways a z) }))
    (λ a. by_test Goal fallback e _
    (λ l. still (λ _. record { boolean = λ _ z. absurd (not_both_ways z a); number = λ _ _ z. absurd (not_both_ways l z) }))
    (λ l. also start (record { boolean = λ _ z. absurd (not_both_ways z a); number = λ _ _ _. refl }))))
  where
    Goal : Ends → Type 0
    Goal = Met (λ n s. P n s × NoneEnds d fallback start n)

    -- no way more
    still : ((n : ℕ) → NoneEnds d fallback start n) → Met (λ n s. P n s × NoneEnds d fallback start n) e
    still k = met_on P (λ n s. P n s × NoneEnds d fallback start n) (λ n s h. (h, k n)) e h

    -- one that ends at n
    also : (n : ℕ) → NoneEnds d fallback start n → Met (λ n s. P n s × NoneEnds d fallback start n) (meeting e n 0)
    also n k = meeting_met P (λ n s. NoneEnds d fallback start n) p (λ n s m l h. h) e n 0 h k

-- with a `~:;` one of the clauses always runs, so that running none is no way
pub always_one : (d : Directive) (fallback : Bool) (start : ℕ) (e : Ends) → d.atsign ≡ false → fallback ≡ true
    → with_none d fallback start e ≡ e
always_one d fallback start e a f = by_test (λ (x : Ends). x ≡ e) d.colon e _ (λ _. refl) (λ _. rw (a, f))
