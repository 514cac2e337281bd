-- What a vet counts on for every form: no piece is longer than its greatest length, some entry has one as long, and none is
-- longer than 16,385 bytes. A new form needs a line in each of these three laws. Assumes nothing.
use Prim.Native.Nat.{ℕ, ◌≤◌}
use mathlib.Core.Path.{◌≡◌, refl, sym, ap, ◌∙◌}
use mathlib.Core.Bool.{Bool, true, false, cond}
use mathlib.Core.List.{List, [], ◌∷◌}
use native.Mathlib.Omega.{arith}
use lib.ListN.{length, length-replicate}
use borrow.Author.Tests.{eqb-true}
use Rattle.rules.specs.Piece.{or_else, bare_of, plural_of, is_one, text_of, kind_of}
use Rattle.rules.specs.Rows.{form_row, accepts}
use Rattle.rules.specs.Table.{Value, value_of}
use Rattle.rules.specs.Working.{WellSetBy}
use Rattle.rules.specs.declared.Form.{Form}
use Rattle.rules.specs.declared.Form.TheVariants.{Object, Numeral, Glyph, Plural, Repeat, Fold}
use Rattle.rules.specs.declared.Origin.TheVariants.{Nowhere, NextOrBack}
use Rattle.rules.specs.declared.Settings.{Settings}
use Rattle.rules.proofs.FormLaws.{takes_none, steps_back}
use Rattle.rules.proofs.Rowed.{number_least, number_most}
use Rattle.vet_rules.specs.Worst.{spans_of, most_piece, worst}
use Rattle.vet_rules.proofs.Choices.{marks, an_entry, any, Filling, object_reached, numeral_reached, glyph_reached}
use Rattle.vet_rules.proofs.Lengths.{shown_kind, kind_most, bare_within, over_bound, object_length, numeral_bound, glyph_bound, plural_bound, fold_bound}
use Rattle.vet_rules.proofs.PieceSizes.{over_most, numeral_most_lem, glyph_most, plural_most, fold_most}
use Rattle.vet_rules.proofs.Values.{Allowed}

-- padinc and commawidth are from 1
padinc_least : {P : ℕ → Type 0} {q : Bool} {s : Settings} → WellSetBy P (Object q) s → 1 ≤ or_else s.second 1
padinc_least {P} {q} {s} w = number_least P 1 4096 s.second 1 w.places.second (omega arith)

commawidth_least : {P : ℕ → Type 0} {base : ℕ} {s : Settings} → WellSetBy P (Numeral base) s → 1 ≤ or_else s.fourth 3
commawidth_least {P} {base} {s} w = number_least P 1 4096 s.fourth 3 w.places.fourth (omega arith)

pub piece_bound : {P : ℕ → Type 0} (longest : ℕ) (f : Form) (colon atsign : Bool) (s : Settings) (v : Value) → WellSetBy P f s
    → accepts f (kind_of v) ≡ true → Allowed longest v
    → length (text_of f colon atsign s v) ≤ worst longest f colon atsign s (kind_of v)
unfolding worst text_of
piece_bound longest (Object q) colon atsign s v w k a =
    rw (object_length q atsign s v)
    (over_bound (or_else s.first 0) (or_else s.second 1) (or_else s.third 0) (padinc_least w) (spans_of longest q (kind_of v)) (length (bare_of q v))
    (bare_within longest q v (shown_kind (kind_of v) (kind_most v) k) a))
piece_bound longest (Numeral base) colon atsign s v w k a =
    numeral_bound longest base colon atsign s v w.base.0 (commawidth_least w) (eqb-true (kind_of v) 1 k) a
piece_bound longest Glyph colon atsign s v w k a = glyph_bound longest colon atsign v (eqb-true (kind_of v) 2 k) a
piece_bound longest Plural colon atsign s v w k a = plural_bound atsign (is_one v)
piece_bound longest (Repeat b) colon atsign s v w k a = omega (arith, length-replicate {A = ℕ} (or_else s.first 1) b)
piece_bound longest Fold colon atsign s v w k a = fold_bound atsign

pub piece_most : {P : ℕ → Type 0} (longest : ℕ) (f : Form) (colon atsign : Bool) (s : Settings) (kind : ℕ) → longest ≤ 4096
    → WellSetBy P f s
    → worst longest f colon atsign s kind ≤ most_piece
unfolding worst
piece_most {P} longest (Object q) colon atsign s kind h w =
    over_most (or_else s.first 0) (or_else s.second 1) (or_else s.third 0)
    (number_most P 0 4096 s.first 0 w.places.first (omega arith)) (padinc_least w)
    (number_most P 1 4096 s.second 1 w.places.second (omega arith))
    (number_most P 0 4096 s.third 0 w.places.third (omega arith)) longest q kind h
piece_most {P} longest (Numeral base) colon atsign s kind h w =
    omega (
      arith,
      numeral_most_lem base s w.base.0 (commawidth_least w) colon atsign
          (number_most P 0 4096 s.first 0 w.places.first (omega arith)),
    )
piece_most longest Glyph colon atsign s kind h w = glyph_most colon atsign
piece_most longest Plural colon atsign s kind h w = plural_most atsign
piece_most {P} longest (Repeat b) colon atsign s kind h w =
    omega (arith, number_most P 0 4096 s.first 1 w.places.first (omega arith))
piece_most longest Fold colon atsign s kind h w = fold_most atsign

module _ (n longest : ℕ) (hn : n ≤ 1024) (hl : longest ≤ 4096) where
  -- any entry of a kind will do that has a piece as long
  by_any : (f : Form) (colon atsign : Bool) (s : Settings) (k : ℕ) → k ≤ 4
      → length (text_of f colon atsign s (value_of (marks longest) (an_entry n k))) ≡ worst longest f colon atsign s k
      → Filling n longest f colon atsign s k
  by_any f colon atsign s k a e = (an_entry n k, any n longest hn hl k a, e)

  -- a plural of what is not 1 is as long as any
  plural_other : (atsign one : Bool) → one ≡ false → length (plural_of atsign one) ≡ cond atsign 3 1
  plural_other true one e = rw e
  plural_other false one e = rw e

  fold_length : (atsign : Bool) → length {A = ℕ} (cond atsign (10 ∷ []) []) ≡ cond atsign 1 0
  fold_length true = refl
  fold_length false = refl

  pub piece_reached : {P : ℕ → Type 0} (f : Form) (colon atsign : Bool) (s : Settings) (k : ℕ) → WellSetBy P f s → k ≤ 4
      → accepts f k ≡ true
      → Filling n longest f colon atsign s k
  unfolding worst text_of
  piece_reached (Object q) colon atsign s k w a b =
      object_reached n longest hn hl q colon atsign s k (padinc_least w) (shown_kind k a b)
  piece_reached (Numeral base) colon atsign s k w a b =
      rw (eqb-true k 1 b) (numeral_reached n longest hn hl base colon atsign s)
  piece_reached Glyph colon atsign s k w a b = rw (eqb-true k 2 b) (glyph_reached n longest hn hl colon atsign s)
  piece_reached Plural colon atsign s k w a b =
      by_any Plural colon atsign s k a
      (plural_other atsign (is_one (value_of (marks longest) (an_entry n k))) (any n longest hn hl k a).other)
  piece_reached (Repeat x) colon atsign s k w a b =
      by_any (Repeat x) colon atsign s k a (length-replicate {A = ℕ} (or_else s.first 1) x)
  piece_reached Fold colon atsign s k w a b = by_any Fold colon atsign s k a (fold_length atsign)

-- So of any form: where no argument is taken, the text that it has for any value is as long
module _ {P : ℕ → Type 0} (longest : ℕ) (hl : longest ≤ 4096) (f : Form) (colon atsign : Bool) (s : Settings) (w : WellSetBy P f s)
    (kind : ℕ) (h : kind ≤ 4) where
  pub none_fills : (form_row f).origin ≡ Nowhere → (v : Value)
      → worst longest f colon atsign s kind ≡ length (text_of f colon atsign s v)
  none_fills o v =
      let t = takes_none f o in
      let r = piece_reached 0 longest (omega arith) hl f colon atsign s kind w h (t.takes kind) in
      sym r.2 ∙ ap (λ (x : List ℕ). length x) (t.text colon atsign s (value_of (marks longest) r.0) v)

  -- and so is that of an argument shown again that is not 1
  pub again_fills : (form_row f).origin ≡ NextOrBack → accepts f kind ≡ true → (v : Value) → is_one v ≡ false
      → length (text_of f colon atsign s v) ≡ worst longest f colon atsign s kind
  again_fills o k v e =
      let r = piece_reached 0 longest (omega arith) hl f colon atsign s kind w h k in
      ap (λ (x : List ℕ). length x)
      (steps_back f o colon atsign s v (value_of (marks longest) r.0) (e ∙ sym r.1.other))
      ∙ r.2
