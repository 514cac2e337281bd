-- What the parts of the reader of a directive answer, in terms of the definition of reading.
-- Assumes nothing: these are definitions.
use Rattle.std.specs.Prelude.{ℕ, suc, ◌+◌, ◌≤◌, ◌≡◌, Bool, cond, List, [], ◌∷◌, ltb, leb, eqb, length, get_or, drop}
use Rattle.std.specs.Prelude.{Option, None, Some, Result, Ok, Err}
use Rattle.rules.specs.Choice.{both, choose}
use Rattle.rules.specs.Letters.{letter}
use Rattle.rules.specs.Directive.{Reading, start, signed, whole, is_digit, scan, after_step, on_step}
use Rattle.rules.specs.Directive.{going, skipped, one_more}
use Rattle.rules.specs.declared.Directive.{Directive}
use Rattle.rules.specs.declared.Item.{Item}
use Rattle.rules.specs.declared.Item.TheVariants.{Written, BadNumber, Unfinished}
use Rattle.rules.specs.declared.Parameter.{Parameter}
use Rattle.rules.specs.declared.Parameter.TheVariants.{Number}
use Rattle.reader.specs.declared.directive.Misread.{Misread}
use Rattle.reader.specs.declared.directive.Misread.TheVariants.{BadNumber as Bad, Unfinished as Cut}
use Rattle.reader.specs.declared.directive.NumberRead.{NumberRead}
use Rattle.reader.specs.declared.directive.ParameterRead.{ParameterRead}

abbrev pub digit_at : List ℕ → ℕ → Bool
digit_at t i = both (ltb i (length t)) (is_digit (get_or t i 0))

abbrev pub comma_at : List ℕ → ℕ → Bool
comma_at t i = both (ltb i (length t)) (eqb (get_or t i 0) (letter ","))

-- two zeros stand at i
abbrev pub zeros_at : List ℕ → ℕ → Bool
zeros_at t i = both (eqb (get_or t i 0) (letter "0")) (eqb (get_or t (i + 1) 0) (letter "0"))

abbrev pub greatest_of : Bool → ℕ
greatest_of minus = cond minus 0 4096

-- what follows a parameter that reading stands at the end of, from i on
abbrev pub inside : Bool → (Bool → Item) → Item
inside holds on = choose holds on (λ _. Unfinished)

abbrev pub after_at : List ℕ → Reading → Directive → ℕ → Item
after_at t r d i =
    inside (ltb i (length t))
    (λ _. on_step (after_step r d (get_or t i 0)) (λ r₂ d₂. scan r₂ d₂ (drop (i + 1) t) (i + 1))
    (λ d₂. going d₂ (i + 1 + skipped (get_or t i 0) d₂.colon (drop (i + 1) t))))

-- where reading stands after a parameter, written or not
abbrev pub reading : Option Parameter → Reading
reading (Some x) = whole x
reading None = start

-- a number that is read, up to i
abbrev pub number_to : ℕ → ℕ → NumberRead
number_to n i = record { value = n; after = i }

abbrev pub number_parameter : Option NumberRead → Result ParameterRead Misread
number_parameter None = Err Bad
number_parameter (Some r) = Ok (record { parameter = Some (Number r.value); after = r.after })

abbrev pub misread : Misread → Item
misread Bad = BadNumber
misread Cut = Unfinished

-- what is read, as an item
abbrev pub item_read : Result Directive Misread → Item
item_read (Ok d) = Written d
item_read (Err e) = misread e

-- how reading goes on
abbrev pub on_parameter : List ℕ → Directive → Result ParameterRead Misread → Item
on_parameter t d (Ok r) = after_at t (reading r.parameter) d r.after
on_parameter t d (Err e) = misread e

-- a parameter that begins at i ends at r.after
pub record Ends (t : List ℕ) (i : ℕ) (r : ParameterRead) : Type 0 where
  pub on : i ≤ r.after
  pub within : r.after ≤ length t

abbrev pub Advances : List ℕ → ℕ → Result ParameterRead Misread → Type 0
Advances t i (Ok r) = Ends t i r
Advances t i (Err e) = Unit {0}

-- the number whose digits stand at the head of the bytes from i on, n so far and at most `most`
unfoldable pub number_from : ℕ → ℕ → List ℕ → ℕ → Option NumberRead
number_from most n [] i = Some (number_to n i)
number_from most n (b ∷ bs) i =
    cond (is_digit b) (cond (leb (one_more n b) most) (number_from most (one_more n b) bs (suc i)) None)
    (Some (number_to n i))

-- the number whose digits begin at i, after a `-` or not
abbrev pub number_at : List ℕ → Bool → ℕ → Option NumberRead
number_at t minus i = cond (digit_at t i) (number_from (greatest_of minus) 0 (drop i t) i) None

abbrev pub Few : Option NumberRead → Type 0
Few None = Unit {0}
Few (Some r) = r.value ≤ 4096

-- r is the number whose digits begin at i
pub record Numbers (t : List ℕ) (i : ℕ) (minus : Bool) (r : Option NumberRead) : Type 0 where
  pub same : r ≡ number_at t minus i
  pub is : (d : Directive) → scan (signed minus) d (drop i t) i ≡ on_parameter t d (number_parameter r)
  pub advances : Advances t i (number_parameter r)
  pub few : Few r

-- r is the parameter that begins at i
pub record Parametrises (t : List ℕ) (i : ℕ) (r : Result ParameterRead Misread) : Type 0 where
  pub is : (d : Directive) → scan start d (drop i t) i ≡ on_parameter t d r
  pub advances : Advances t i r
