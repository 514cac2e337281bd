-- What a good body says of each of its sources, and the length of a piece. Assumes nothing.
use mathlib.Core.Path.{◌≡◌, sym, ap, ◌∙◌}
use mathlib.Core.List.{List, ◌++◌}
use Prim.Native.Nat.{ℕ, ◌+◌, ◌-◌, ◌≤◌}
use lib.ListN.{length, take, replicate, length-append, length-replicate}
use Rattle.pieces.specs.Bytes.{part, quoted_of, figure_of, content_of, body_of, bytes_of, Inside, GoodFigure, GoodBody}
use Rattle.pieces.specs.declared.Content.TheVariants.{Run, Copied, Quoted, Figures, Word}
use Rattle.pieces.specs.declared.Body.{Body}
use Rattle.pieces.specs.declared.Figure.{Figure}
use Rattle.pieces.specs.declared.Piece.{Piece}

pub length_bytes : (t : List ℕ) (p : Piece) → length (bytes_of t p) ≡ p.before + (length (body_of t p.body) + p.behind)
unfolding bytes_of
length_bytes t p =
    let body = body_of t p.body in
    let right = replicate p.behind p.pad in
    length-append (replicate p.before p.pad) (body ++ right)
    ∙ rw (length-append body right, length-replicate p.before p.pad, length-replicate p.behind p.pad)

-- a source's text and places
pub record Is (t : List ℕ) (b : Body) (bytes : List ℕ) (Places : Type 0) : Type 0 where
  pub size : b.size ≡ length bytes
  pub text : body_of t b ≡ bytes
  pub places : Places

module _ {t : List ℕ} {b : Body} (g : GoodBody t b) where
  pub is_run : (byte n : ℕ) → b.content ≡ Run byte n → Is t b (replicate n byte) (b.size ≡ n)
  unfolding content_of
  is_run byte n e = record {
    size = rw e at g.size;
    text = rw e;
    places = rw (e, length-replicate n byte) at g.size;
  }

  -- of a string, as the part p that is lent of the table
  pub is_copied : (start end : ℕ) {p : List ℕ} → p ≡ part start (end - start) t → b.content ≡ Copied start end
      → Is t b p ((start ≤ end) × (end ≤ length t))
  unfolding content_of Inside
  is_copied start end l e = record {
    size = rw (e, ← l) at g.size;
    text = rw e (sym l);
    places = rw e at g.inside;
  }

  pub is_quoted : (start end : ℕ) {p : List ℕ} → p ≡ part start (end - start) t → b.content ≡ Quoted start end
      → Is t b (quoted_of p) ((start ≤ end) × (end ≤ length t))
  unfolding content_of Inside
  is_quoted start end l e = record {
    size = rw (e, ← l) at g.size;
    text = rw e (ap quoted_of (sym l));
    places = rw e at g.inside;
  }

  pub is_figures : (x : Figure) → b.content ≡ Figures x → Is t b (figure_of x) (GoodFigure x)
  unfolding content_of Inside
  is_figures x e = record { size = rw e at g.size; text = rw e; places = rw e at g.inside }

  -- as the part that is lent of the word
  pub is_word : (n : ℕ) → b.content ≡ Word n → Is t b (take n b.word) (n ≤ length b.word)
  unfolding content_of Inside
  is_word n e = record {
    size = rw e at g.size;
    text = rw e;
    places = rw e at g.inside;
  }
