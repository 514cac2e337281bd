-- A body for each source, and a piece with padding on either side. Assumes nothing.
use mathlib.Core.Path.{◌≡◌, refl, sym, ap, ◌∙◌}
use mathlib.Core.List.{List, ◌++◌}
use Prim.Native.Nat.{ℕ, ◌+◌, ◌-◌, ◌≤◌}
use native.Mathlib.Omega.{arith}
use lib.ListN.{length, replicate, length-append, length-replicate}
use lib.Seq.{take-append_seam}
use Rattle.pieces.specs.Bytes.{part, quoted_of, figure_of, content_of, bytes_of, Inside, GoodFigure, Makes, Gives}
use Rattle.pieces.specs.Given.{StringIn}
use Rattle.pieces.specs.declared.Content.TheVariants.{Run, Copied, Quoted, Figures, Word}
use Rattle.pieces.specs.declared.Body.{Body}
use Rattle.pieces.specs.declared.Figure.{Figure}
use Rattle.pieces.specs.declared.Piece.{Piece}
use Rattle.pieces.proofs.Parts.{length_part}

pub makes_same : {t : List ℕ} {b : Body} {xs ys : List ℕ} → xs ≡ ys → Makes t b xs → Makes t b ys
makes_same e m = record { good = m.good; is = m.is ∙ e }

pub gives_same : {t : List ℕ} {p : Piece} {xs ys : List ℕ} → xs ≡ ys → Gives t p xs → Gives t p ys
gives_same e g = record { good = g.good; is = g.is ∙ e }

pub makes_size : {t : List ℕ} {b : Body} {xs : List ℕ} → Makes t b xs → b.size ≡ length xs
makes_size m = m.good.size ∙ ap length m.is

-- a part of a table that is lent is as long as it says
lent_length : {start end : ℕ} (t : List ℕ) → start ≤ end → end ≤ length t
    → length (part start (end - start) t) ≡ end - start
lent_length {start} {end} t h k = length_part start (end - start) t (omega arith)

pub made_word : (t text rest : List ℕ) → length text ≤ 12
    → Makes t (record { size = length text; word = text ++ rest; content = Word (length text) }) text
unfolding content_of Inside
made_word t text rest h = record {
  good = record {
    size = sym (ap length (take-append_seam text rest));
    small = omega arith;
    inside = omega (arith, length-append text rest);
  };
  is = take-append_seam text rest;
}

module _ (t word : List ℕ) where
  pub made_run : (byte n : ℕ) → n ≤ 4096
      → Makes t (record { size = n; word = word; content = Run byte n }) (replicate n byte)
  unfolding content_of Inside
  made_run byte n h = record {
    good = record { size = sym (length-replicate n byte); small = omega arith; inside = omega arith };
    is = refl;
  }

  pub made_copied : (start end : ℕ) → StringIn t start end
      → Makes t (record { size = end - start; word = word; content = Copied start end }) (part start (end - start) t)
  unfolding content_of Inside
  made_copied start end s = record {
    good = record {
      size = sym (lent_length t s.order s.inside);
      small = omega (arith, s.short);
      inside = (s.order, s.inside);
    };
    is = refl;
  }

  -- the size is that of the part p that is lent of the table
  pub made_quoted : (start end size : ℕ) {p : List ℕ} → StringIn t start end → p ≡ part start (end - start) t
      → size ≡ length (quoted_of p) → size ≤ 131074
      → Makes t (record { size = size; word = word; content = Quoted start end }) (quoted_of (part start (end - start) t))
  unfolding content_of Inside
  made_quoted start end size s l e h = record {
    good = record {
      size = e ∙ ap (λ (x : List ℕ). length (quoted_of x)) l;
      small = h;
      inside = (s.order, s.inside);
    };
    is = refl;
  }

  pub made_figures : (x : Figure) (size : ℕ) → GoodFigure x → size ≡ length (figure_of x) → size ≤ 128
      → Makes t (record { size = size; word = word; content = Figures x }) (figure_of x)
  unfolding content_of Inside
  made_figures x size g e h = record { good = record { size = e; small = omega arith; inside = g }; is = refl }

-- padding on its two sides
pub made_piece : {t : List ℕ} {b : Body} {text : List ℕ} (l r pad : ℕ) → l + r ≤ 16384 → Makes t b text
    → Gives t (record { before = l; behind = r; pad = pad; body = b }) (replicate l pad ++ (text ++ replicate r pad))
unfolding bytes_of
made_piece l r pad h m = record { good = record { body = m.good; padding = omega arith }; is = rw m.is }
