-- Short directives and marks of some texts, by their definitions. Assumes nothing.
use mathlib.Core.Path.{◌≡◌, refl}
use Rattle.rules.specs.Letters.{bytes}
use Rattle.std.specs.Prelude.{ℕ, Option, None, Some}
use Rattle.rules.specs.Setting.{Setting}
use Rattle.reader.specs.Marks.{mark_of, mark_at}
use Rattle.reader.specs.declared.marks.Mark.TheVariants.{TwoClauses}
use Rattle.reader.specs.Scans.{number_from}
use Rattle.reader.specs.Shorts.{short_kind, short_detail, coded_at, short_at}
use Rattle.reader.specs.declared.short.Kind.{Kind}
use Rattle.reader.specs.declared.short.Kind.TheVariants.{Object, Numeral, Repeat}
use Rattle.reader.specs.declared.short.Short.{Short}

abbrev read : Kind → ℕ → Setting → Setting → ℕ → Option Short
read kind detail number byte after =
    Some (record { kind = kind; detail = detail; number = number; byte = byte; after = after })

-- ~a
plain : short_at (bytes "~a") 0 ≡ read Object 0 None None 2
unfolding short_at coded_at short_kind short_detail
plain = refl

-- x~12%
repeated : short_at (bytes "x~12%") 1 ≡ read Repeat 10 (Some 12) None 5
unfolding short_at coded_at short_kind short_detail number_from
repeated = refl

-- ~5,'0X
padded : short_at (bytes "~5,'0X") 0 ≡ read Numeral 16 (Some 5) (Some 48) 6
unfolding short_at coded_at short_kind short_detail number_from
padded = refl

-- ~,'0a: only a numeral may have a character
unfit : short_at (bytes "~,'0a") 0 ≡ None
unfolding short_at coded_at short_kind short_detail
unfit = refl

-- ~:d
modified : short_at (bytes "~:d") 0 ≡ None
unfolding short_at coded_at short_kind short_detail
modified = refl

-- ~4097d
out_of_range : short_at (bytes "~4097d") 0 ≡ None
unfolding short_at number_from
out_of_range = refl

-- ~0a, and ~00a, which is not short
one_zero : short_at (bytes "~0a") 0 ≡ read Object 0 (Some 0) None 3
unfolding short_at coded_at short_kind short_detail number_from
one_zero = refl

two_zeros : short_at (bytes "~00a") 0 ≡ None
unfolding short_at
two_zeros = refl

-- ~0005a: the 5 is found after the zeros
zeros_passed : number_from 4096 0 (bytes "0005a") 1 ≡ number_from 4096 0 (bytes "5a") 4
unfolding number_from
zeros_passed = refl

-- ~:[
two_clauses : mark_at (bytes "~:[") 0 ≡ Some TwoClauses
unfolding mark_of
two_clauses = refl

-- ~:; is no mark
fallback : mark_at (bytes "~:;") 0 ≡ None
unfolding mark_of
fallback = refl
