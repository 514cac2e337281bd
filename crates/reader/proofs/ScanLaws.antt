-- How reading a directive goes on from each place where it can stand, by what the code has at hand. Assumes nothing.
use mathlib.Core.Path.{◌≡◌, refl, sym, ◌∙◌}
use mathlib.Core.Logic.{◌⊎◌, inl, inr}
use mathlib.Core.Bool.{Bool, true, false, not}
use mathlib.Core.List.{List}
use Prim.Native.Nat.{ℕ, zero, suc, ◌+◌, ◌-◌, ◌*◌, ◌≤◌, ◌<◌}
use native.Mathlib.Decide.{dec_lt, ℕ_discrete as dec_eq}
use native.Mathlib.Numerals.{add-one}
use native.Mathlib.Omega.{arith}
use borrow.Author.Tests.{lt-ltb, le-ltb, le-leb, lt-leb, ne_eqb, ltb-true, leb-true, eqb-true}
use lib.Dec.{ltb, leb, eqb}
use lib.ListN.{length, get_or, drop, drop_of_length-le, get_or-eq_default}
use lib.Seq.{drop-cons}
use Rattle.rules.specs.Choice.{both}
use Rattle.rules.specs.Directive.{Reading, start, signed, digits, quote, whole, modifiers, step, scan, blank, having}
use Rattle.rules.specs.Directive.{closed, pending, with_parameter, is_digit, one_more}
use Rattle.rules.specs.Directive.{lower_case, code_of, skipped}
use Rattle.rules.specs.declared.Code.{Code}
use Rattle.rules.specs.declared.Code.TheVariants.{Unknown}
use Rattle.rules.specs.declared.Directive.{Directive}
use Rattle.rules.specs.declared.Item.{Item}
use Rattle.rules.specs.declared.Item.TheVariants.{Written, BadNumber, Unfinished}
use Rattle.rules.specs.declared.Parameter.{Parameter}
use Rattle.rules.specs.declared.Parameter.TheVariants.{Default, Number, Character, Next, Remaining}
use Rattle.rules.specs.declared.Parameters.{Parameters}
use Rattle.rules.proofs.Reading.{scan_on, scan_end}
use Rattle.reader.specs.Scans.{digit_at, comma_at, zeros_at, greatest_of, after_at, reading, Numbers}
use Rattle.std.specs.Prelude.{Option, None, Some, Result, Ok}
use Rattle.std.specs.Option.{unwrap_or}
use Rattle.reader.specs.Scans.{number_parameter, number_to, number_from, Ends, Advances, Parametrises}
use Rattle.reader.specs.Spans.{is_zero, span_of}
use Rattle.reader.specs.declared.directive.NumberRead.{NumberRead}
use Rattle.reader.specs.declared.directive.ParameterRead.{ParameterRead}
use Rattle.reader.specs.declared.directive.Misread.{Misread}
use Rattle.reader.proofs.SpanLaws.{span_on, span_inside, span_first}

pub no_both : ◌≡◌ {A = Bool} false true → ⊥
no_both e = let z : ◌≡◌ {A = ℕ} 0 1 = cc in omega arith

both_first : (a b : Bool) → both a b ≡ true → a ≡ true
both_first true b e = refl
both_first false b e = e

both_second : (a b : Bool) → both a b ≡ true → b ≡ true
both_second true b e = e
both_second false b e = absurd (no_both e)

-- only in the text stands a byte that is not 0
pub byte_inside : (t : List ℕ) (i : ℕ) → (get_or t i 0 ≡ 0 → ⊥) → i < length t
byte_inside t i e = elim (dec_lt i (length t)) [
  | yes h ↦ h
  | no h ↦ absurd (e (get_or-eq_default t 0 (omega arith)))
]

module _ (t : List ℕ) (p : ℕ) where
  -- a test of the byte at p, where the text has one
  pub test_inside : (f : Bool) → both (ltb p (length t)) f ≡ true → p < length t
  test_inside f e = ltb-true p (length t) (both_first (ltb p (length t)) f e)

  pub test_true : (f : Bool) → both (ltb p (length t)) f ≡ true → f ≡ true
  test_true f e = both_second (ltb p (length t)) f e

  pub test_false : (f : Bool) → p < length t → both (ltb p (length t)) f ≡ false → f ≡ false
  test_false f h e = rw (lt-ltb p (length t) h) at e

  pub digit_least : digit_at t p ≡ true → 48 ≤ get_or t p 0
  digit_least e =
      let b = get_or t p 0 in leb-true 48 b (both_first (leb 48 b) (leb b 57) (test_true (is_digit b) e))

-- a number
module _ (t : List ℕ) (p : ℕ) (m : Bool) (d : Directive) where
  pub signed_digits : digit_at t p ≡ true → scan (signed m) d (drop p t) p ≡ scan (digits m 0) d (drop p t) p
  unfolding step
  signed_digits e =
      let h : p < length t = test_inside t p (is_digit (get_or t p 0)) e in
      rw (scan_on t p (signed m) d h, scan_on t p (digits m 0) d h, step, test_true t p (is_digit (get_or t p 0)) e)

  pub signed_none : digit_at t p ≡ false → scan (signed m) d (drop p t) p ≡ BadNumber
  unfolding step
  signed_none e =
      elim (dec_lt p (length t)) [
        | yes h ↦ rw (scan_on t p (signed m) d h, step, test_false t p (is_digit (get_or t p 0)) h e)
        | no h ↦ scan_end t p (signed m) d (omega arith)
      ]

module _ (t : List ℕ) (p : ℕ) (m : Bool) (n : ℕ) (d : Directive) where
  pub digits_on : digit_at t p ≡ true → one_more n (get_or t p 0) ≤ greatest_of m
      → scan (digits m n) d (drop p t) p ≡ scan (digits m (one_more n (get_or t p 0))) d (drop (p + 1) t) (p + 1)
  unfolding step
  digits_on e k =
      rw (
        scan_on t p (digits m n) d (test_inside t p (is_digit (get_or t p 0)) e),
        step,
        test_true t p (is_digit (get_or t p 0)) e,
        le-leb _ _ k,
      )

  pub digits_out : digit_at t p ≡ true → greatest_of m < one_more n (get_or t p 0)
      → scan (digits m n) d (drop p t) p ≡ BadNumber
  unfolding step
  digits_out e k =
      rw (
        scan_on t p (digits m n) d (test_inside t p (is_digit (get_or t p 0)) e),
        step,
        test_true t p (is_digit (get_or t p 0)) e,
        lt-leb _ _ k,
      )

  pub digits_end : digit_at t p ≡ false → scan (digits m n) d (drop p t) p ≡ after_at t (whole (Number n)) d p
  unfolding step
  digits_end e =
      elim (dec_lt p (length t)) [
        | yes h ↦ rw (
          scan_on t p (digits m n) d h,
          lt-ltb p (length t) h,
          step,
          test_false t p (is_digit (get_or t p 0)) h e,
        )
        | no h ↦ rw (scan_end t p (digits m n) d (omega arith), le-ltb p (length t) (omega arith))
      ]

module _ (t : List ℕ) (p : ℕ) (n most : ℕ) where
  number_on : digit_at t p ≡ true → one_more n (get_or t p 0) ≤ most
      → number_from most n (drop p t) p ≡ number_from most (one_more n (get_or t p 0)) (drop (p + 1) t) (p + 1)
  unfolding number_from
  number_on e k =
      rw (
        drop-cons t p 0 (test_inside t p (is_digit (get_or t p 0)) e),
        add-one,
        number_from,
        test_true t p (is_digit (get_or t p 0)) e,
        le-leb _ _ k,
      )

  number_over : digit_at t p ≡ true → most < one_more n (get_or t p 0) → number_from most n (drop p t) p ≡ None
  unfolding number_from
  number_over e k =
      rw (
        drop-cons t p 0 (test_inside t p (is_digit (get_or t p 0)) e),
        number_from,
        test_true t p (is_digit (get_or t p 0)) e,
        lt-leb _ _ k,
      )

  number_end : digit_at t p ≡ false → number_from most n (drop p t) p ≡ Some (number_to n p)
  unfolding number_from
  number_end e =
      elim (dec_lt p (length t)) [
        | yes h ↦ rw (drop-cons t p 0 h, number_from, test_false t p (is_digit (get_or t p 0)) h e)
        | no h ↦ let k : length t ≤ p = omega arith in rw (drop_of_length-le t k, number_from)
      ]

-- neither `v` nor `V`
not_next : (b : ℕ) → (b ≡ 118 → ⊥) → (b ≡ 86 → ⊥) → eqb (lower_case b) 118 ≡ false
not_next b small large =
    elim (dec_lt b 65) [
      | yes h ↦ rw (lt-leb 65 b h) (ne_eqb b 118 small)
      | no h ↦
          elim (dec_lt 90 b) [
            | yes k ↦ rw (le-leb 65 b (omega arith), lt-leb b 90 k) (ne_eqb b 118 small)
            | no k ↦
                rw (le-leb 65 b (omega arith), le-leb b 90 (omega arith))
                (ne_eqb (b + 32) 118 (λ z. large (omega arith)))
          ]
    ]

-- a parameter
module _ (t : List ℕ) (p : ℕ) (d : Directive) where
  pub whole_after : (x : Parameter) → scan (whole x) d (drop p t) p ≡ after_at t (whole x) d p
  unfolding step
  whole_after x =
      elim (dec_lt p (length t)) [
        | yes h ↦ rw (scan_on t p (whole x) d h, lt-ltb p (length t) h, step)
        | no h ↦ rw (scan_end t p (whole x) d (omega arith), le-ltb p (length t) (omega arith))
      ]

module _ (t : List ℕ) (p : ℕ) (d : Directive) (h : p < length t) where
  pub start_digit : is_digit (get_or t p 0) ≡ true → scan start d (drop p t) p ≡ scan (signed false) d (drop p t) p
  unfolding step
  start_digit e = rw (scan_on t p start d h, scan_on t p (signed false) d h, step, e)

  pub start_plus : get_or t p 0 ≡ 43 → scan start d (drop p t) p ≡ scan (signed false) d (drop (p + 1) t) (p + 1)
  unfolding step
  start_plus e = rw (scan_on t p start d h, e, step)

  pub start_minus : get_or t p 0 ≡ 45 → scan start d (drop p t) p ≡ scan (signed true) d (drop (p + 1) t) (p + 1)
  unfolding step
  start_minus e = rw (scan_on t p start d h, e, step)

  start_quote : get_or t p 0 ≡ 39 → scan start d (drop p t) p ≡ scan quote d (drop (p + 1) t) (p + 1)
  unfolding step
  start_quote e = rw (scan_on t p start d h, e, step)

  pub quote_cut : get_or t p 0 ≡ 39 → length t ≤ p + 1 → scan start d (drop p t) p ≡ Unfinished
  quote_cut e k = start_quote e ∙ scan_end t (p + 1) quote d k

  pub quote_whole_lem : get_or t p 0 ≡ 39 → p + 1 < length t
      → scan start d (drop p t) p ≡ after_at t (whole (Character (get_or t (p + 1) 0))) d (p + 1 + 1)
  unfolding step
  quote_whole_lem e k =
      start_quote e
      ∙ rw (scan_on t (p + 1) quote d k, step) (whole_after t (p + 1 + 1) d (Character (get_or t (p + 1) 0)))

  pub start_next : (get_or t p 0 ≡ 86) ⊎ (get_or t p 0 ≡ 118) → scan start d (drop p t) p ≡ after_at t (whole Next) d (p + 1)
  unfolding step
  start_next (inl e) = rw (scan_on t p start d h, e, step) (whole_after t (p + 1) d Next)
  start_next (inr e) = rw (scan_on t p start d h, e, step) (whole_after t (p + 1) d Next)

  pub start_remaining : get_or t p 0 ≡ 35 → scan start d (drop p t) p ≡ after_at t (whole Remaining) d (p + 1)
  unfolding step
  start_remaining e = rw (scan_on t p start d h, e, step) (whole_after t (p + 1) d Remaining)

  pub start_other : is_digit (get_or t p 0) ≡ false → (get_or t p 0 ≡ 43 → ⊥) → (get_or t p 0 ≡ 45 → ⊥) → (get_or t p 0 ≡ 39 → ⊥)
      → ((get_or t p 0 ≡ 86) ⊎ (get_or t p 0 ≡ 118) → ⊥) → (get_or t p 0 ≡ 35 → ⊥)
      → scan start d (drop p t) p ≡ after_at t start d p
  unfolding step
  start_other e plus minus quoted after remaining =
      let b = get_or t p 0 in
      rw (
        scan_on t p start d h,
        lt-ltb p (length t) h,
        step,
        e,
        ne_eqb b 43 plus,
        ne_eqb b 45 minus,
        ne_eqb b 39 quoted,
        not_next b (λ z. after (inr z)) (λ z. after (inl z)),
        ne_eqb b 35 remaining,
      )

-- after a parameter
module _ (t : List ℕ) (p : ℕ) (r : Reading) (d : Directive) where
  pub comma_on : comma_at t p ≡ true
      → after_at t r d p ≡ scan start (having d (with_parameter d.parameters (pending r))) (drop (p + 1) t) (p + 1)
  comma_on e =
      rw (lt-ltb p (length t) (test_inside t p (eqb (get_or t p 0) 44) e), test_true t p (eqb (get_or t p 0) 44) e)

  pub comma_none : comma_at t p ≡ false
      → after_at t r d p ≡ scan modifiers (having d (closed r d.parameters)) (drop p t) p
  unfolding step
  comma_none e =
      elim (dec_lt p (length t)) [
        | yes h ↦ rw (scan_on t p modifiers _ h, lt-ltb p (length t) h, test_false t p (eqb (get_or t p 0) 44) h e, step)
        | no h ↦ rw (scan_end t p modifiers _ (omega arith), le-ltb p (length t) (omega arith))
      ]

-- modifiers and code
abbrev pub marked : Bool → Bool → Parameters → Directive
marked colon atsign ps = record { code = Unknown; colon = colon; atsign = atsign; parameters = ps; after = 0 }

-- the byte b is no modifier k, or is seen already
pub no_modifier : (b k : ℕ) (x : Bool) → (b ≡ k → ⊥) → both (eqb b k) (not x) ≡ false
no_modifier b k x e = rw (ne_eqb b k e)

pub seen_modifier : (b k : ℕ) (x : Bool) → x ≡ true → both (eqb b k) (not x) ≡ false
seen_modifier b k x e = rw e (by (eqb b k))
  where
    by : (y : Bool) → both y false ≡ false
    by true = refl
    by false = refl

module _ (t : List ℕ) (p : ℕ) (colon atsign : Bool) (ps : Parameters) (h : p < length t) where
  pub colon_on : both (eqb (get_or t p 0) 58) (not colon) ≡ true
      → scan modifiers (marked colon atsign ps) (drop p t) p ≡ scan modifiers (marked true atsign ps) (drop (p + 1) t) (p + 1)
  unfolding step
  colon_on e = rw (scan_on t p modifiers (marked colon atsign ps) h, step, e)

  pub at_on : both (eqb (get_or t p 0) 58) (not colon) ≡ false → both (eqb (get_or t p 0) 64) (not atsign) ≡ true
      → scan modifiers (marked colon atsign ps) (drop p t) p
      ≡ scan modifiers (marked colon true ps) (drop (p + 1) t) (p + 1)
  unfolding step
  at_on e f = rw (scan_on t p modifiers (marked colon atsign ps) h, step, e, f)

  pub code_ends : both (eqb (get_or t p 0) 58) (not colon) ≡ false → both (eqb (get_or t p 0) 64) (not atsign) ≡ false
      → (code : Code) → code ≡ code_of (get_or t p 0) → (after : ℕ)
      → after ≡ p + 1 + skipped (get_or t p 0) colon (drop (p + 1) t)
      → scan modifiers (marked colon atsign ps) (drop p t) p
      ≡ Written (record { code = code; colon = colon; atsign = atsign; parameters = ps; after = after })
  unfolding step
  code_ends e f code is after onward =
      rw (onward, is) (rw (scan_on t p modifiers (marked colon atsign ps) h, step, e, f))

-- the loop over digits: the number that begins at first, if a digit stands there, is n so far, and goes on at i
pub record Numbering (t : List ℕ) (first : ℕ) (m : Bool) (n i : ℕ) : Type 0 where
  pub same : digit_at t first ≡ true → (d : Directive)
      → scan (signed m) d (drop first t) first ≡ scan (digits m n) d (drop i t) i
  pub through : number_from (greatest_of m) 0 (drop first t) first ≡ number_from (greatest_of m) n (drop i t) i
  pub begun : (i ≡ first → ⊥) → digit_at t first ≡ true
  pub within : (i ≡ first → ⊥) → i ≤ length t
  pub small : n ≤ 4096
  pub forth : first ≤ i

number_first : (t : List ℕ) (p : ℕ) (m : Bool) → Numbering t p m 0 p
number_first t p m = record {
  same = λ e d. signed_digits t p m d e;
  through = refl;
  begun = λ z. absurd (z refl);
  within = λ z. absurd (z refl);
  small = omega arith;
  forth = omega arith;
}

module _ {t : List ℕ} {first : ℕ} {m : Bool} {n i : ℕ} (s : Numbering t first m n i) where
  pub number_none : digit_at t i ≡ false → i ≡ first → Numbers t first m None
  number_none e z = record {
    same = rw (rw z at e);
    is = λ d. signed_none t first m d (rw z at e);
    advances = tt;
    few = tt;
  }

  pub number_whole : digit_at t i ≡ false → (i ≡ first → ⊥) → Numbers t first m (Some (number_to n i))
  number_whole e z = record {
    same = rw (s.begun z) (sym (s.through ∙ number_end t i n (greatest_of m) e));
    is = λ d. s.same (s.begun z) d ∙ digits_end t i m n d e;
    advances = record { on = s.forth; within = s.within z };
    few = s.small;
  }

  -- x is the digit at i
  module _ (x most : ℕ) (e : digit_at t i ≡ true) (is : x ≡ get_or t i 0 - 48)
      (top : (most ≡ greatest_of m) × (most ≤ 4096)) where
    begins : digit_at t first ≡ true
    begins = elim (dec_eq i first) [ yes z ↦ rw z at e | no z ↦ s.begun z ]

    pub number_more : n * 10 + x ≤ most → Numbering t first m (n * 10 + x) (i + 1)
    number_more k =
        let h : i < length t = test_inside t i (is_digit (get_or t i 0)) e in
        let low : one_more n (get_or t i 0) ≤ greatest_of m = omega (arith, is, top.0) in
        record {
          same = λ z d. s.same z d ∙ rw is (digits_on t i m n d e low);
          through = s.through ∙ rw is (number_on t i n (greatest_of m) e low);
          begun = λ z. begins;
          within = λ z. omega arith;
          small = omega (arith, top.1);
          forth = omega (arith, s.forth);
        }

    pub number_out : most < n * 10 + x → Numbers t first m None
    number_out k =
        let high : greatest_of m < one_more n (get_or t i 0) = omega (arith, is, top.0) in
        record {
          same = rw begins (sym (s.through ∙ number_over t i n (greatest_of m) e high));
          is = λ d. s.same begins d ∙ digits_out t i m n d e high;
          advances = tt;
          few = tt;
        }

-- the zeros that a number begins with
pub zeros_inside : (t : List ℕ) (i : ℕ) → zeros_at t i ≡ true → i < length t
zeros_inside t i e =
    let b = get_or t i 0 in
    let q = eqb-true b 48 (both_first (eqb b 48) (eqb (get_or t (i + 1) 0) 48) e) in
    byte_inside t i (λ z. omega (arith, q, z))

zero_byte : (b : ℕ) → is_zero b ≡ true → b ≡ 48
zero_byte b e = eqb-true b 48 e

greatest_few : (m : Bool) → greatest_of m ≤ 4096
greatest_few true = omega arith
greatest_few false = omega arith

abbrev zeros : List ℕ → ℕ → ℕ
zeros t i = span_of is_zero (drop i t)

module _ (t : List ℕ) (first : ℕ) (m : Bool) where
  zeros_passed : (k i : ℕ) → Numbering t first m 0 i → k ≤ zeros t i → Numbering t first m 0 (i + k)
  zeros_passed zero i s e = let none : i + 0 ≡ i = omega arith in rw none s
  zeros_passed (suc k) i s e =
      let some : 1 ≤ zeros t i = omega (arith, e) in
      let h = span_inside is_zero t i some in
      let b = zero_byte (get_or t i 0) (span_first is_zero t i some) in
      let on : k ≤ zeros t (i + 1) = omega (arith, e, span_on is_zero t i h (rw b)) in
      let after : i + 1 + k ≡ i + suc k = omega arith in
      let more = number_more s 0 (greatest_of m) (rw (lt-ltb i (length t) h, b)) (rw b) (refl, greatest_few m) (omega arith) in
      rw after at (zeros_passed k (i + 1) more on)

  pub zeros_first : (i : ℕ) → first ≤ i → i ≤ first + zeros t first → Numbering t first m 0 i
  zeros_first i h k =
      let on : first + (i - first) ≡ i = omega arith in
      rw on at (zeros_passed (i - first) first (number_first t first m) (omega arith))

-- a number that begins at i or after it, where a parameter begins at i
later : (t : List ℕ) (i j : ℕ) → i ≤ j → (r : Option NumberRead) → Advances t j (number_parameter r)
    → Advances t i (number_parameter r)
later t i j h None a = tt
later t i j h (Some r) a = record { on = omega (arith, a.on); within = a.within }

pub number_written : (t : List ℕ) (i j : ℕ) (m : Bool) (r : Option NumberRead) (q : Result ParameterRead Misread)
    → q ≡ number_parameter r
    → i ≤ j → ((d : Directive) → scan start d (drop i t) i ≡ scan (signed m) d (drop j t) j) → Numbers t j m r
    → Parametrises t i q
number_written t i j m r q e h on s =
    rw e (record { is = λ d. on d ∙ s.is d; advances = later t i j h r s.advances })

-- any other parameter that is written
pub parameter_written : (t : List ℕ) (i : ℕ) (x : Parameter) (after : ℕ) (q : Result ParameterRead Misread)
    → q ≡ Ok (record { parameter = Some x; after = after })
    → i ≤ after → after ≤ length t
    → ((d : Directive) → scan start d (drop i t) i ≡ after_at t (whole x) d after)
    → Parametrises t i q
parameter_written t i x after q e h k on =
    rw e (record { is = on; advances = record { on = h; within = k } })

-- the loop over parameters: those before i are ps
pub record Directing (t : List ℕ) (first : ℕ) (ps : Parameters) (i : ℕ) : Type 0 where
  pub same : scan start blank (drop first t) first ≡ scan start (having blank ps) (drop i t) i
  pub few : ps.count ≤ i
  pub within : i ≤ length t

pub pending_read : (o : Option Parameter) → pending (reading o) ≡ unwrap_or o Default
pending_read None = refl
pending_read (Some x) = refl

pub parameter_ends : {t : List ℕ} {i : ℕ} {r : Result ParameterRead Misread} (q : ParameterRead)
    → Parametrises t i r → r ≡ Ok q → Ends t i q
parameter_ends q u e = rw e at u.advances

module _ {t : List ℕ} {first : ℕ} {ps : Parameters} {i : ℕ} {r : Result ParameterRead Misread}
    (s : Directing t first ps i) (u : Parametrises t i r) where
  module _ (q : ParameterRead) (e : r ≡ Ok q) where
    goes_on_lem : scan start blank (drop first t) first ≡ after_at t (reading q.parameter) (having blank ps) q.after
    goes_on_lem = s.same ∙ u.is (having blank ps) ∙ rw e

    pub directive_more : comma_at t q.after ≡ true → (more : Parameters) → more ≡ with_parameter ps (pending (reading q.parameter))
        → Directing t first more (q.after + 1)
    directive_more c more is =
        let end = parameter_ends q u e in
        let h : q.after < length t = test_inside t q.after (eqb (get_or t q.after 0) 44) c in
        rw is (record {
          same = goes_on_lem ∙ comma_on t q.after (reading q.parameter) (having blank ps) c;
          few = omega (arith, end.on, s.few);
          within = omega arith;
        })

    pub directive_whole : comma_at t q.after ≡ false → (all : Parameters) → all ≡ closed (reading q.parameter) ps
        → (item : Item) → item ≡ scan modifiers (having blank all) (drop q.after t) q.after
        → item ≡ scan start blank (drop first t) first
    directive_whole c all is item last =
        last ∙ rw is (sym (goes_on_lem ∙ comma_none t q.after (reading q.parameter) (having blank ps) c))
