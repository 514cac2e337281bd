-- A mark: it is the directive that the definition reads, and it is well written. Where a clause or a block ends, nothing
-- is left of the innermost sequence. Assumes nothing.
use Prim.Native.Nat.{ℕ, ◌+◌, ◌<◌}
use mathlib.Core.Path.{◌≡◌, refl, sym, ap, subst, ◌∙◌}
use mathlib.Core.Bool.{true, false}
use mathlib.Core.List.{List}
use native.Mathlib.Decide.{dec_lt, ℕ_discrete as dec_eq}
use native.Mathlib.Omega.{arith}
use borrow.Author.Tests.{lt-leb, eq-eqb, ne_eqb}
use lib.ListN.{length, get_or}
use Rattle.rules.specs.Directive.{start, modifiers, goes, ends, step, skips, going, blank, no_parameters, code_named, item_at}
use Rattle.rules.specs.Rows.{well_written}
use Rattle.rules.specs.Text.{end, innermost, levels_at}
use Rattle.rules.specs.declared.Bracket.TheVariants.{Conditional, Iteration}
use Rattle.rules.specs.declared.Directive.{Directive}
use Rattle.rules.proofs.Reading.{scan_on, item_end, item_tilde}
use Rattle.rules.proofs.TextLaws.{levels_end, levels_separator, levels_closer}
use Rattle.std.specs.Prelude.{Option, None, Some}
use Rattle.reader.specs.declared.marks.Mark.{Mark}
use Rattle.reader.specs.declared.marks.Mark.TheVariants.{Separator, EndConditional, EndIteration, Numbered, TwoClauses, OneClause, OverList, OverArguments}
use Rattle.reader.specs.Marks.{means, mark_after_colon, mark_after_at, mark_of, mark_at, mark_size, mark_directive, IsMark, closes_at}
use Rattle.reader.proofs.ScanLaws.{no_both, byte_inside, marked}

-- 1. The bytes of a mark.

module _ (t : List ℕ) (p : ℕ) {a b : ℕ} (first : a ≡ get_or t p 0) (tilde : a ≡ 126) (second : b ≡ get_or t (p + 1) 0) where
  mark_by : (k : ℕ) → b ≡ k → (r : Option Mark) → r ≡ mark_of k (get_or t (p + 2) 0) → r ≡ mark_at t p
  mark_by k e r q = rw (eq-eqb (get_or t p 0) 126 (sym first ∙ tilde), sym second ∙ e) q

-- 2. The directive that is read.

module _ (t : List ℕ) (p : ℕ) (e : get_or t p 0 ≡ 126) where
  within : p < length t
  within = byte_inside t p (λ z. omega (arith, e, z))

  -- the code stands after the tilde, or after a modifier
  two_bytes : (b : ℕ) (d : Directive) → get_or t (p + 1) 0 ≡ b → (b ≡ 0 → ⊥) → step start blank b ≡ ends d
      → skips b d.colon ≡ false → item_at t p ≡ going d (p + 2)
  two_bytes b d q z s k =
      item_tilde t p within e
      ∙ rw (scan_on t (p + 1) start blank (byte_inside t (p + 1) (λ y. z (sym q ∙ y))), q, s, k)
      (ap (going d) (omega arith))

  three_bytes : (b c : ℕ) (d₁ d : Directive) → get_or t (p + 1) 0 ≡ b → (b ≡ 0 → ⊥) → get_or t (p + 2) 0 ≡ c → (c ≡ 0 → ⊥)
      → step start blank b ≡ goes modifiers d₁ → step modifiers d₁ c ≡ ends d → skips c d.colon ≡ false
      → item_at t p ≡ going d (p + 3)
  three_bytes b c d₁ d q z r y s n k =
      let i : p + 1 + 1 ≡ p + 2 = omega arith in
      item_tilde t p within e
      ∙ rw (
        scan_on t (p + 1) start blank (byte_inside t (p + 1) (λ w. z (sym q ∙ w))),
        q,
        s,
        i,
        scan_on t (p + 2) modifiers d₁ (byte_inside t (p + 2) (λ w. y (sym r ∙ w))),
        r,
        n,
        k,
      )
      (ap (going d) (omega arith))

-- 3. A mark is that directive.

meant : (P : Option Mark → Type 0) (b k : ℕ) (x other : Option Mark) → (b ≡ k → P x) → P other → P (means b k x other)
meant P b k x other f g = elim (dec_eq b k) [
  | yes z ↦ rw (eq-eqb b k z) (f z)
  | no z ↦ rw (ne_eqb b k z) g
]

abbrev Stands : List ℕ → ℕ → Option Mark → Type 0
Stands t p None = Unit {0}
Stands t p (Some m) = IsMark t p m

module _ (t : List ℕ) (p : ℕ) (e : get_or t p 0 ≡ 126) where
  two : (m : Mark) (b : ℕ) → (b ≡ 0 → ⊥) → step start blank b ≡ ends (mark_directive m 0)
      → skips b (mark_directive m 0).colon ≡ false → mark_size m ≡ 2
      → ((after : ℕ) → well_written (mark_directive m after) ≡ true) → get_or t (p + 1) 0 ≡ b → IsMark t p m
  unfolding mark_directive
  two m b z s k n w q = record { item = rw n (two_bytes t p e b (mark_directive m 0) q z s k); well = w }

  after_colon : (c : ℕ) → get_or t (p + 1) 0 ≡ 58 → get_or t (p + 2) 0 ≡ c → Stands t p (mark_after_colon c)
  unfolding step code_named mark_directive well_written
  after_colon c q r =
      meant (Stands t p) c 91 (Some TwoClauses) None
      (λ z. record {
        item = three_bytes t p e 58 91 (marked true false no_parameters) (mark_directive TwoClauses 0) q (λ w. omega arith) (r ∙ z) (λ w. omega arith) refl refl refl;
        well = λ n. refl;
      })
      tt

  after_at_lem : (c : ℕ) → get_or t (p + 1) 0 ≡ 64 → get_or t (p + 2) 0 ≡ c → Stands t p (mark_after_at c)
  unfolding step code_named mark_directive well_written
  after_at_lem c q r =
      meant (Stands t p) c 91 (Some OneClause) _
      (λ z. record {
        item = three_bytes t p e 64 91 (marked false true no_parameters) (mark_directive OneClause 0) q (λ w. omega arith) (r ∙ z) (λ w. omega arith) refl refl refl;
        well = λ n. refl;
      })
      (meant (Stands t p) c 123 (Some OverArguments) None
      (λ z. record {
        item = three_bytes t p e 64 123 (marked false true no_parameters) (mark_directive OverArguments 0) q (λ w. omega arith) (r ∙ z) (λ w. omega arith) refl refl refl;
        well = λ n. refl;
      })
      tt)

  by_bytes : (b c : ℕ) → get_or t (p + 1) 0 ≡ b → get_or t (p + 2) 0 ≡ c → Stands t p (mark_of b c)
  unfolding step code_named mark_of mark_directive well_written
  by_bytes b c q r =
      meant (Stands t p) b 59 (Some Separator) _ (λ z. two Separator 59 (λ w. omega arith) refl refl refl (λ n. refl) (q ∙ z))
      (meant (Stands t p) b 93 (Some EndConditional) _ (λ z. two EndConditional 93 (λ w. omega arith) refl refl refl (λ n. refl) (q ∙ z))
      (meant (Stands t p) b 125 (Some EndIteration) _ (λ z. two EndIteration 125 (λ w. omega arith) refl refl refl (λ n. refl) (q ∙ z))
      (meant (Stands t p) b 91 (Some Numbered) _ (λ z. two Numbered 91 (λ w. omega arith) refl refl refl (λ n. refl) (q ∙ z))
      (meant (Stands t p) b 123 (Some OverList) _ (λ z. two OverList 123 (λ w. omega arith) refl refl refl (λ n. refl) (q ∙ z))
      (meant (Stands t p) b 58 (mark_after_colon c) _ (λ z. after_colon c (q ∙ z) r)
      (meant (Stands t p) b 64 (mark_after_at c) _ (λ z. after_at_lem c (q ∙ z) r)
      tt))))))

pub mark_is : (t : List ℕ) (p : ℕ) (m : Mark) → Some m ≡ mark_at t p → IsMark t p m
mark_is t p m is = subst (Stands t p) (sym is) (by (dec_eq (get_or t p 0) 126))
  where
    by : Dec (get_or t p 0 ≡ 126) → Stands t p (mark_at t p)
    by (yes e) = rw (eq-eqb (get_or t p 0) 126 e) (by_bytes t p e (get_or t (p + 1) 0) (get_or t (p + 2) 0) refl refl)
    by (no e) = rw (ne_eqb (get_or t p 0) 126 e) tt

-- 4. Where a clause or a block ends.

-- a mark that parts or closes a block
abbrev Ender : Mark → Type 0
Ender Separator = Unit {0}
Ender EndConditional = Unit {0}
Ender EndIteration = Unit {0}
Ender _ = ⊥

ended : (t : List ℕ) (p : ℕ) (m : Mark) → Ender m → Some m ≡ mark_at t p → (innermost (levels_at t p)).rest ≡ end
unfolding mark_directive
ended t p Separator few is = ap (λ xs. (innermost xs).rest) (levels_separator t p _ (mark_is t p Separator is).item refl)
ended t p EndConditional few is = ap (λ xs. (innermost xs).rest) (levels_closer t p _ (mark_is t p EndConditional is).item Conditional refl)
ended t p EndIteration few is = ap (λ xs. (innermost xs).rest) (levels_closer t p _ (mark_is t p EndIteration is).item Iteration refl)
ended t p _ few is = absurd few

module _ (t : List ℕ) (p : ℕ) where
  pub closes_end : closes_at t p ≡ true → (innermost (levels_at t p)).rest ≡ end
  unfolding mark_of
  closes_end e = elim (dec_lt p (length t)) [
    | no h ↦ ap (λ xs. (innermost xs).rest) (levels_end t p (item_end t p (omega arith)))
    | yes h ↦ elim (dec_eq (get_or t p 0) 126) [
      | no a ↦ absurd (no_both (rw (lt-leb (length t) p h, ne_eqb (get_or t p 0) 126 a) at e))
      | yes a ↦ elim (dec_eq (get_or t (p + 1) 0) 59) [
        | yes b ↦ ended t p Separator tt (mark_by t p refl a refl 59 b (Some Separator) refl)
        | no b ↦ elim (dec_eq (get_or t (p + 1) 0) 93) [
          | yes c ↦ ended t p EndConditional tt (mark_by t p refl a refl 93 c (Some EndConditional) refl)
          | no c ↦ elim (dec_eq (get_or t (p + 1) 0) 125) [
            | yes d ↦ ended t p EndIteration tt (mark_by t p refl a refl 125 d (Some EndIteration) refl)
            | no d ↦ absurd (no_both (rw (lt-leb (length t) p h, eq-eqb (get_or t p 0) 126 a, ne_eqb (get_or t (p + 1) 0) 59 b, ne_eqb (get_or t (p + 1) 0) 93 c, ne_eqb (get_or t (p + 1) 0) 125 d) at e))
          ]
        ]
      ]
    ]
  ]
