-- A short directive: it is the directive that the definition reads, and it is well written. Assumes nothing.
use mathlib.Core.Path.{◌≡◌, refl, sym, ap, subst, ◌∙◌}
use mathlib.Core.Logic.{◌⊎◌, inl, inr}
use mathlib.Core.Bool.{Bool, true, false, cond}
use mathlib.Core.List.{List}
use Prim.Native.Nat.{ℕ, ◌+◌, ◌≤◌, ◌<◌}
use native.Mathlib.Decide.{ℕ_discrete as dec_eq}
use native.Mathlib.Omega.{arith}
use borrow.Author.Tests.{lt-ltb, le-leb, eq-eqb, ne_eqb}
use lib.ListN.{length, get_or, drop}
use Rattle.rules.specs.Directive.{Reading, whole, modifiers, scan, blank, having, closed, pending, with_parameter, no_parameters, is_digit, lower_case, code_of, item_at}
use Rattle.rules.specs.Rows.{well_written}
use Rattle.rules.specs.declared.Code.TheVariants.{Writes}
use Rattle.rules.specs.declared.Directive.{Directive}
use Rattle.rules.specs.declared.Form.{Form}
use Rattle.rules.specs.declared.Item.TheVariants.{Written}
use Rattle.rules.specs.declared.Parameter.TheVariants.{Character}
use Rattle.rules.specs.declared.Parameters.{Parameters}
use Rattle.rules.specs.Setting.{Setting}
use Rattle.std.specs.Prelude.{Option, None, Some}
use Rattle.rules.proofs.Reading.{item_tilde}
use Rattle.reader.specs.Scans.{digit_at, zeros_at, number_from, after_at, Numbers}
use Rattle.reader.specs.declared.directive.NumberRead.{NumberRead}
use Rattle.reader.specs.Shorts.{Brief, object, numeral, repeats, form_of, short_form, short_parameters, short_directive, CharacterIn, ShortIn, ShortAt, leading, NoSign, Leads, LeadRead}
use Rattle.reader.specs.Shorts.{short_kind, short_detail, fits_in, short_of, coded_at, second_at, after_second, lead_to, lead_of, leading_at, short_at, ShortRead}
use Rattle.reader.specs.declared.short.Kind.{Kind}
use Rattle.reader.specs.declared.short.Short.{Short}
use Rattle.reader.proofs.ScanLaws.{byte_inside, test_inside, test_true, test_false, start_digit, start_other, comma_on, comma_none, quote_whole_lem, marked, code_ends}
use Rattle.reader.proofs.KindLaws.{kind_is, short_in_lem}

-- 1. A number that may be left out.

module _ (t : List ℕ) (first : ℕ) where
  pub leads_none : first ≤ length t → digit_at t first ≡ false → LeadRead t first (Some (lead_to None first))
  leads_none h e = record {
    same = rw e;
    leads = record {
      is = λ k s d. start_other t first d k (test_false t first (is_digit (get_or t first 0)) k e)
          s.plus s.minus s.quoted s.taken s.counted;
      within = h;
      few = tt;
    };
  }

  module _ (r : Option NumberRead) (e : digit_at t first ≡ true) (o : zeros_at t first ≡ false) (s : Numbers t first false r) where
    leads_same : lead_of r ≡ leading_at t first
    leads_same =
        let q : r ≡ number_from 4096 0 (drop first t) first = s.same ∙ rw e in
        rw (e, o) (ap lead_of q)

    pub leads_number : (n : NumberRead) → r ≡ Some n → LeadRead t first (Some (lead_to (Some n.value) n.after))
    leads_number n q =
        let u : Numbers t first false (Some n) = subst (Numbers t first false) q s in
        let k = test_inside t first (is_digit (get_or t first 0)) e in
        record {
          same = ap lead_of (sym q) ∙ leads_same;
          leads = record {
            is = λ i o d. start_digit t first d k (test_true t first (is_digit (get_or t first 0)) e) ∙ u.is d;
            within = u.advances.within;
            few = u.few;
          };
        }

-- 2. A letter of a short directive begins no parameter, is no modifier and no newline.

module _ (b : ℕ) (e : short_kind (lower_case b) ≡ None → ⊥) where
  other_than : (k : ℕ) → short_kind (lower_case k) ≡ None → b ≡ k → ⊥
  other_than k u q = e (ap (λ (c : ℕ). short_kind (lower_case c)) q ∙ u)

  no_comma : b ≡ 44 → ⊥
  unfolding short_kind
  no_comma = other_than 44 refl

  no_colon : b ≡ 58 → ⊥
  unfolding short_kind
  no_colon = other_than 58 refl

  no_at : b ≡ 64 → ⊥
  unfolding short_kind
  no_at = other_than 64 refl

  no_newline : b ≡ 10 → ⊥
  unfolding short_kind
  no_newline = other_than 10 refl

  no_sign : (t : List ℕ) (i : ℕ) → get_or t i 0 ≡ b → NoSign t i
  unfolding short_kind
  no_sign t i q = record {
    plus = λ z. other_than 43 refl (sym q ∙ z);
    minus = λ z. other_than 45 refl (sym q ∙ z);
    quoted = λ z. other_than 39 refl (sym q ∙ z);
    taken = λ z. taken z;
    counted = λ z. other_than 35 refl (sym q ∙ z);
  }
    where
      taken : (get_or t i 0 ≡ 86) ⊎ (get_or t i 0 ≡ 118) → ⊥
      taken (inl z) = other_than 86 refl (sym q ∙ z)
      taken (inr z) = other_than 118 refl (sym q ∙ z)

comma_sign : (t : List ℕ) (i : ℕ) → get_or t i 0 ≡ 44 → NoSign t i
comma_sign t i q = record {
  plus = λ z. omega (arith, q, z);
  minus = λ z. omega (arith, q, z);
  quoted = λ z. omega (arith, q, z);
  taken = λ z. taken z;
  counted = λ z. omega (arith, q, z);
}
  where
    taken : (get_or t i 0 ≡ 86) ⊎ (get_or t i 0 ≡ 118) → ⊥
    taken (inl z) = omega (arith, q, z)
    taken (inr z) = omega (arith, q, z)

-- 3. The directive that is read.

-- the code at i, after the parameters ps
module _ (t : List ℕ) (i : ℕ) (f : Form) (h : i < length t) (e : code_of (get_or t i 0) ≡ Writes f)
    (s : short_kind (lower_case (get_or t i 0)) ≡ None → ⊥) where
  code_read : (r : Reading) (d : Directive) (ps : Parameters) → having d (closed r d.parameters) ≡ marked false false ps
      → after_at t r d i ≡ Written (record { code = Writes f; colon = false; atsign = false; parameters = ps; after = i + 1 })
  code_read r d ps q =
      comma_none t i r d (rw (lt-ltb i (length t) h, ne_eqb (get_or t i 0) 44 (no_comma (get_or t i 0) s)))
      ∙ ap (λ (m : Directive). scan modifiers m (drop i t) i) q
      ∙ code_ends t i false false ps h (rw (ne_eqb (get_or t i 0) 58 (no_colon (get_or t i 0) s)))
      (rw (ne_eqb (get_or t i 0) 64 (no_at (get_or t i 0) s))) (Writes f) (sym e) (i + 1)
      (rw (ne_eqb (get_or t i 0) 10 (no_newline (get_or t i 0) s)) (omega arith))

-- without a character, and with one
closed_one : (x : Setting) → having blank (closed (leading x) no_parameters) ≡ marked false false (short_parameters x None)
closed_one None = refl
closed_one (Some n) = refl

closed_two : (x : Setting) (c : ℕ)
    → having (having blank (with_parameter no_parameters (pending (leading x)))) (closed (whole (Character c)) (with_parameter no_parameters (pending (leading x))))
    ≡ marked false false (short_parameters x (Some c))
closed_two None c = refl
closed_two (Some n) c = refl

module _ (t : List ℕ) (p : ℕ) (x : Setting) (i : ℕ) (f : Form) (h : p < length t) (e : get_or t p 0 ≡ 126) (l : Leads t (p + 1) (lead_to x i)) where
  one_read : (k : i < length t) → code_of (get_or t i 0) ≡ Writes f → (short_kind (lower_case (get_or t i 0)) ≡ None → ⊥)
      → item_at t p ≡ Written (short_directive f x None (i + 1))
  one_read k w s =
      item_tilde t p h e ∙ l.is k (no_sign (get_or t i 0) s t i refl) blank
      ∙ code_read t i f k w s (leading x) blank (short_parameters x None) (closed_one x)

  two_read : (c j : ℕ) → j ≡ i + 1 + 1 + 1 → i + 1 + 1 < length t → get_or t i 0 ≡ 44 → get_or t (i + 1) 0 ≡ 39 → c ≡ get_or t (i + 1 + 1) 0
      → j < length t → code_of (get_or t j 0) ≡ Writes f → (short_kind (lower_case (get_or t j 0)) ≡ None → ⊥)
      → item_at t p ≡ Written (short_directive f x (Some c) (j + 1))
  two_read c j is k comma mark q m w s =
      item_tilde t p h e ∙ l.is (omega arith) (comma_sign t i comma) blank
      ∙ comma_on t i (leading x) blank (rw (lt-ltb i (length t) (omega arith), eq-eqb (get_or t i 0) 44 comma))
      ∙ quote_whole_lem t (i + 1) (having blank (with_parameter no_parameters (pending (leading x)))) (omega arith) mark k
      ∙ rw (← q, ← is)
      (code_read t j f m w s (whole (Character c)) (having blank (with_parameter no_parameters (pending (leading x)))) (short_parameters x (Some c)) (closed_two x c))

-- 4. What is read is what the definition reads.

-- a character that is written
record Second (t : List ℕ) (i c : ℕ) : Type 0 where
  comma : get_or t i 0 ≡ 44
  mark : get_or t (i + 1) 0 ≡ 39
  is : c ≡ get_or t (i + 2) 0

second_is : (t : List ℕ) (i c : ℕ) → Some c ≡ second_at t i → Second t i c
second_is t i c e = elim (dec_eq (get_or t i 0) 44) [
  | no a ↦ let z : Some c ≡ None = e ∙ rw (ne_eqb (get_or t i 0) 44 a) in let y : ⊥ = cc in absurd y
  | yes a ↦ elim (dec_eq (get_or t (i + 1) 0) 39) [
    | no b ↦ let z : Some c ≡ None = e ∙ rw (eq-eqb (get_or t i 0) 44 a, ne_eqb (get_or t (i + 1) 0) 39 b) in let y : ⊥ = cc in absurd y
    | yes b ↦
        let z : Some c ≡ Some (get_or t (i + 2) 0) = e ∙ rw (eq-eqb (get_or t i 0) 44 a, eq-eqb (get_or t (i + 1) 0) 39 b) in
        record { comma = a; mark = b; is = cc }
  ]
]

module _ (t : List ℕ) (p : ℕ) (x : Setting) (i : ℕ) (byte : Setting) (h : p < length t) (e : get_or t p 0 ≡ 126) (l : Leads t (p + 1) (lead_to x i))
    (c : byte ≡ second_at t i) (few : CharacterIn byte) where
  -- a letter of the kind stands at j, after the parameters
  module _ (j : ℕ) (kind : Kind) (detail : ℕ) (n : short_kind (lower_case (get_or t j 0)) ≡ None → ⊥)
      (w : code_of (get_or t j 0) ≡ Writes (short_form kind detail)) where
    inside : j < length t
    unfolding short_kind
    inside = byte_inside t j (other_than (get_or t j 0) n 0 refl)

    item : (y : Setting) → y ≡ second_at t i → j ≡ after_second i y → item_at t p ≡ Written (short_directive (short_form kind detail) x y (j + 1))
    item None z k = rw k (one_read t p x i (short_form kind detail) h e l (rw k at inside) (rw k at w) (rw k at n))
    item (Some d) z q =
        let k : j ≡ i + 1 + 1 + 1 = q ∙ omega arith in
        let o : i + 2 ≡ i + 1 + 1 = omega arith in
        let b = second_is t i d z in
        two_read t p x i (short_form kind detail) h e l d j k (omega (arith, inside)) b.comma b.mark (rw o at b.is) inside w n

  coded_means : (j : ℕ) → j ≡ after_second i byte → ShortAt t p (coded_at t x byte j)
  unfolding coded_at
  coded_means j q = by (short_kind (lower_case (get_or t j 0))) refl
    where
      detail : ℕ
      detail = short_detail (lower_case (get_or t j 0))

      fit : (kind : Kind) → short_kind (lower_case (get_or t j 0)) ≡ Some kind → (y : Bool) → fits_in kind byte ≡ y
          → ShortAt t p (cond y (Some (record { kind = kind; detail = detail; number = x; byte = byte; after = j + 1 })) None)
      fit kind f false g = tt
      fit kind f true g = record {
        item = item j kind detail (λ z. cc) (kind_is (lower_case (get_or t j 0)) kind f) byte c q;
        suits = short_in_lem kind detail x byte g l.few few;
      }

      by : (o : Option Kind) → short_kind (lower_case (get_or t j 0)) ≡ o → ShortAt t p (short_of o detail x byte (j + 1))
      by None f = tt
      by (Some kind) f = fit kind f (fits_in kind byte) refl

  pub short_read : Some (lead_to x i) ≡ leading_at t (p + 1) → (j : ℕ) → j ≡ after_second i byte
      → (r : Option Short) → r ≡ coded_at t x byte j → ShortRead t p r
  unfolding short_at
  short_read same j q r k = record {
    is = k ∙ rw (q, c) (sym (rw (eq-eqb (get_or t p 0) 126 e, ← same)));
    means = subst (ShortAt t p) (sym k) (coded_means j q);
  }

pub none_read : (t : List ℕ) (p : ℕ) → (get_or t p 0 ≡ 126 → ⊥) → ShortRead t p None
unfolding short_at
none_read t p e = record { is = rw (ne_eqb (get_or t p 0) 126 e); means = tt }

-- a number that is refused
pub none_led : (t : List ℕ) (p : ℕ) → get_or t p 0 ≡ 126 → None ≡ leading_at t (p + 1) → ShortRead t p None
unfolding short_at
none_led t p e same = record { is = rw (eq-eqb (get_or t p 0) 126 e, ← same); means = tt }

-- 5. It is well written.

pub short_well : (b : Brief) (x y : Setting) (after : ℕ) → ShortIn b x y → well_written (short_directive (form_of b) x y after) ≡ true
unfolding well_written
short_well (object q) None None after s = refl
short_well (object q) (Some n) None after s = rw (le-leb 0 n (omega arith), le-leb n 4096 s.0)
short_well (object q) x (Some c) after s = absurd s.1
short_well (numeral b) None None after s = refl
short_well (numeral b) (Some n) None after s = rw (le-leb 0 n (omega arith), le-leb n 4096 s.0)
short_well (numeral b) None (Some c) after s = refl
short_well (numeral b) (Some n) (Some c) after s = rw (le-leb 0 n (omega arith), le-leb n 4096 s.0)
short_well (repeats b) None None after s = refl
short_well (repeats b) (Some n) None after s = rw (le-leb 0 n (omega arith), le-leb n 4096 s.0)
short_well (repeats b) x (Some c) after s = absurd s.1
