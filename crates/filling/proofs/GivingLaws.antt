-- A piece that goes into the window, whole or cut at its end. Assumes nothing.
use Prim.Native.Nat.{ℕ, ◌+◌, ◌-◌, ◌≤◌, ◌<◌}
use mathlib.Core.Path.{◌≡◌, refl, sym, ap, subst, ◌∙◌}
use mathlib.Core.List.{List, [], ◌++◌, append-nil, append_assoc}
use native.Mathlib.Omega.{arith}
use borrow.Rule.Slice.PartMut.{put_mid}
use lib.ListN.{length, take, drop, length-append, length-take, length-drop, take-append-drop, drop_of_length-le}
use lib.Seq.{drop-drop, length-take-le, take_all}
use Rattle.pieces.specs.Bytes.{Good, Inside, bytes_of}
use Rattle.pieces.specs.Rest.{rest_of, RestIn, Appends, WritesRest}
use Rattle.pieces.specs.declared.Piece.{Piece}
use Rattle.pieces.specs.declared.Content.TheVariants.{Quoted}
use Rattle.pieces.specs.declared.resuming.QuoteRest.{QuoteRest}
use Rattle.pieces.specs.declared.resuming.RestWritten.{RestWritten}
use Rattle.pieces.proofs.Rests.{quote_rest, rest_piece, rest_done, append_none}
use Rattle.pieces.proofs.Bodies.{length_bytes}
use Rattle.actions.proofs.Buffer.{Put as Placed, lent_between, put_between, lent_length, put_lent}
use Rattle.nesting.specs.declared.moves.Here.{Here}
use Rattle.filling.specs.declared.giving.Reach.TheVariants.{Full}
use Rattle.filling.specs.declared.giving.Put.{Put}
use Rattle.filling.specs.Filling.{put_on, put_full, Given, whole, cut, quoted}

-- a piece is short, so that no sum with its length is too large
pub piece_small : (t : List ℕ) (p : Piece) → Good t p → length (bytes_of t p) ≤ 262144
piece_small t p g = omega (arith, length_bytes t p, g.body.size, g.body.small, g.padding)

-- what is put into the buffer is the front of a text
appends_put : {b e : List ℕ} {at : ℕ} (x rest : List ℕ) → Placed b at x e → Appends (x ++ rest) at b e (at + length x) rest
appends_put {b} {e} {at} x rest u = record {
  joined = rw u.front (sym (append_assoc (take at b) x rest));
  size = u.size;
  behind = u.rest;
  least = omega arith;
  most = u.room;
}

-- the part of the buffer from a place to its end was lent, and comes back as so much of a text
appends_cut : (b : List ℕ) (at : ℕ) (text y : List ℕ) → at ≤ length b → length b - at ≤ length text
    → y ≡ take (length (take (length b - at) (drop at b))) text
    → Appends text at b (put_mid at (length b - at) b y) (length b) (drop (length b - at) text)
appends_cut b at text y h k e =
    let n = length b - at in
    let x = take n text in
    let size : length x ≡ n = length-take-le n text k in
    let same : y ≡ x = e ∙ ap (λ (i : ℕ). take i text) (lent_between b at (length b) h (omega arith)) in
    let end : at + length x ≡ length b = omega arith in
    let all : x ++ drop n text ≡ text = take-append-drop n text in
    let w = appends_put x (drop n text) (put_between b at (length b) y x h (omega arith) (sym size) same) in
    rw (end, all) at w

-- the part of k places was lent, and comes back as all of a text
appends_all : (b : List ℕ) (at k : ℕ) (y text : List ℕ) → k ≡ length text → k ≤ length b - at → at ≤ length b → y ≡ text
    → Appends text at b (put_mid at (at + k - at) b y) (at + k) []
appends_all b at k y text q h l e =
    let w = appends_put text [] (put_lent b at k y text q h l e) in
    rw (append-nil text, ← q) at w

-- of a piece of n bytes so many are given, and the buffer has room for the others
pub record LeftFits (w : List ℕ) (given at : ℕ) (b : List ℕ) (n : ℕ) : Type 0 where
  pub all : n ≡ length w
  pub some : given ≤ n
  pub room : n - given ≤ length b - at
  pub inside : at ≤ length b

-- the part that is lent for them is as long as they are. It comes back as the whole piece or as a part of it
module _ (w : List ℕ) (given at : ℕ) (b : List ℕ) {n : ℕ} (f : LeftFits w given at b n) where
  left_size : n - given ≡ length (drop given w)
  left_size = omega (arith, f.all, length-drop given w)

  pub left_lent : length (take (at + (n - given) - at) (drop at b)) ≡ length (drop given w)
  left_lent = lent_length b at (n - given) (drop given w) left_size f.room f.inside

  pub left_whole : (y : List ℕ) → given ≡ 0 → y ≡ w → Appends (drop given w) at b (put_mid at (at + (n - given) - at) b y) (at + (n - given)) []
  left_whole y z e = appends_all b at (n - given) y (drop given w) left_size f.room f.inside (e ∙ rw z)

  pub left_part : (y : List ℕ) → y ≡ take (length (take (at + (n - given) - at) (drop at b))) (drop given w)
      → Appends (drop given w) at b (put_mid at (at + (n - given) - at) b y) (at + (n - given)) []
  left_part y e =
      appends_all b at (n - given) y (drop given w) left_size f.room f.inside
      (e ∙ ap (λ (i : ℕ). take i (drop given w)) left_lent ∙ take_all (length (drop given w)) (drop given w) (omega arith))

module _ (w : List ℕ) (before after : Here) (given at : ℕ) (b table : List ℕ) where
  -- all of it was given before
  pub given_before : {n : ℕ} {r : Put} → n ≡ length w → n ≤ given → at ≤ length b → r ≡ put_on after (given - n) at
      → Given w before after given at b b table r
  given_before {n} {r} q h l e =
      let none : drop given w ≡ [] = drop_of_length-le w {i = given} (omega arith) in
      subst (Given w before after given at b b table) (sym e) (whole (rw q) (rw none (append_none [] at b l)))

  -- what is left of it has room
  pub given_whole : {n : ℕ} {e : List ℕ} {r : Put} → n ≡ length w → given ≤ n → r ≡ put_on after 0 (at + (n - given))
      → Appends (drop given w) at b e (at + (n - given)) [] → Given w before after given at b e table r
  given_whole {n} {e} {r} q h k u =
      let none : given - length w ≡ 0 = omega arith in
      subst (Given w before after given at b e table) (sym k) (whole (rw none) u)

  -- it has not
  pub given_cut : {r : Put} (y : List ℕ) → at ≤ length b → given + (length b - at) < length w → r ≡ put_full before (given + (length b - at)) (length b)
      → y ≡ take (length (take (length b - at) (drop at b))) (drop given w)
      → Given w before after given at b (put_mid at (length b - at) b y) table r
  given_cut {r} y h k q e =
      let n = length b - at in
      let u = appends_cut b at (drop given w) y h (rw (length-drop given w) (omega arith)) e in
      subst (Given w before after given at b (put_mid at (length b - at) b y) table) (sym q)
      (cut refl k (rw (drop-drop n given w) at u))

-- a string in quotes lies in the table
pub quote_in : (t : List ℕ) (p : Piece) {start end : ℕ} {q : QuoteRest} → Good t p → p.body.content ≡ Quoted start end
    → q ≡ quote_rest 1 p.before start end p.behind p.pad → RestIn t q
unfolding Inside
quote_in t p {start} {end} {q} g e k =
    let i : Inside t p.body.word (Quoted start end) = rw e at g.body.inside in
    rw k (record { order = i.0; inside = i.1; before = omega (arith, g.padding); behind = omega (arith, g.padding) })

-- and of one that has no room something is left
pub given_quoted : (t : List ℕ) (p : Piece) {start end : ℕ} {q : QuoteRest} (before after : Here) (at : ℕ) {b e : List ℕ} {v : RestWritten}
    → p.body.content ≡ Quoted start end → q ≡ quote_rest 1 p.before start end p.behind p.pad → at ≤ length b
    → length b - at < length (bytes_of t p) → WritesRest t q at b e v
    → Given (bytes_of t p) before after 0 at b e t (record { reach = Full; progress = record { here = after; given = 0; at = v.at }; rest = v.rest })
given_quoted t p {start} {end} {q} before after at {b} {e} {v} s k h l u =
    let w = bytes_of t p in
    let is : w ≡ rest_of t q = rest_piece t p start end s ∙ ap (rest_of t) (sym k) in
    let rest = rest_of t v.rest in
    let more : v.rest.stage ≡ 0 → ⊥ =
    λ z. omega (
      arith,
      ap length (rest_done t v.rest z),
      ap length is,
      ap length u.joined,
      length-append (take at b) (rest_of t q),
      length-append (take v.at e) rest,
      length-take-le at b h,
      length-take v.at e,
      u.most,
    ) in
    let full : v.at ≡ length b = (u.stops more).0 in
    let a : Appends w at b e v.at rest = record {
      joined = rw is u.joined;
      size = u.size;
      behind = u.behind;
      least = u.least;
      most = u.most;
    } in
    quoted refl (rw full) u.inside (u.stops more).1 (rw full at a)
