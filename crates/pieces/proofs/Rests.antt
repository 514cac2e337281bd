-- What is left of a string in quotes: its text at each stage, and the turns of its writer. Assumes nothing.
use mathlib.Core.Path.{◌≡◌, refl, sym, ap, ◌∙◌}
use mathlib.Core.Logic.{◌≢◌}
use mathlib.Core.Bool.{Bool, true, false, cond}
use mathlib.Core.List.{List, [], ◌∷◌, ◌++◌, append_assoc}
use Prim.Native.Nat.{ℕ, zero, suc, ◌+◌, ◌-◌, ◌≤◌, ◌<◌, min}
use native.Mathlib.Nat.{not-suc-le-zero, zero-sub, suc-sub-suc, sub-zero}
use native.Mathlib.Numerals.{add-one}
use native.Mathlib.Decide.{ℕ_discrete as dec_eq}
use native.Mathlib.Omega.{arith}
use borrow.Author.Tests.{eq-eqb, ne_eqb}
use borrow.Rule.Slice.PartMut.{put_mid}
use lib.ListN.{length, take, drop, set, replicate, length-append, length-set, length-replicate, length-take}
use lib.ListN.{length-drop, take-append-drop, replicate-append-replicate}
use lib.Seq.{drop-drop, take-nil, take_all, take_at, drop_at, take-suc-set, drop-set-lt, append_snoc, length-take-le}
use Rattle.rules.specs.Piece.{escaped}
use Rattle.pieces.specs.Bytes.{part, owed, quoted_of, beside, content_of, bytes_of}
use Rattle.pieces.specs.Rest.{string_of, closing_of, rest_of, RestIn, Appends, Pads, Escapes, WritesRest}
use Rattle.pieces.specs.declared.Piece.{Piece}
use Rattle.pieces.specs.declared.Content.TheVariants.{Quoted}
use Rattle.pieces.specs.declared.resuming.QuoteRest.{QuoteRest}
use Rattle.pieces.specs.declared.resuming.RestWritten.{RestWritten}
use Rattle.pieces.proofs.Segments.{Begun, begun_more, lent}
use Rattle.pieces.proofs.Escapes.{ends, length_quoted}
use Rattle.pieces.proofs.Parts.{length_part}

-- the text at each stage
module _ (t : List ℕ) (q : QuoteRest) where
  pub rest_done : q.stage ≡ 0 → rest_of t q ≡ []
  unfolding rest_of
  rest_done e = rw (eq-eqb q.stage 0 e)

  pub rest_whole : q.stage ≡ 1 → rest_of t q ≡ beside q.before q.behind q.pad (quoted_of (string_of t q))
  unfolding rest_of
  rest_whole e = rw (ne_eqb q.stage 0 (omega arith), eq-eqb q.stage 1 e)

  pub rest_inside : (gone : Bool) → q.stage ≡ cond gone 3 2 → rest_of t q ≡ owed gone (string_of t q) ++ closing_of q
  unfolding rest_of owed
  rest_inside false e = rw e
  rest_inside true e = rw e

  pub rest_padding : 3 < q.stage → rest_of t q ≡ replicate q.behind q.pad
  unfolding rest_of
  rest_padding h =
      rw (
        ne_eqb q.stage 0 (omega arith),
        ne_eqb q.stage 1 (omega arith),
        ne_eqb q.stage 2 (omega arith),
        ne_eqb q.stage 3 (omega arith),
      )

abbrev pub quote_rest : (stage before start end behind pad : ℕ) → QuoteRest
quote_rest stage before start end behind pad = record {
  stage = stage;
  before = before;
  start = start;
  end = end;
  behind = behind;
  pad = pad;
}

-- the same string
pub still_in : {t : List ℕ} {q : QuoteRest} {stage before behind pad : ℕ} → RestIn t q → before ≤ q.before → behind ≤ q.behind
    → RestIn t (quote_rest stage before q.start q.end behind pad)
still_in k l r = record { order = k.order; inside = k.inside; before = omega (arith, l, k.before); behind = omega (arith, r, k.behind) }

-- all of a piece is left before any of it is written
pub rest_piece : (t : List ℕ) (p : Piece) (start end : ℕ) → p.body.content ≡ Quoted start end
    → bytes_of t p ≡ rest_of t (quote_rest 1 p.before start end p.behind p.pad)
unfolding bytes_of content_of
rest_piece t p start end e = rw e (sym (rest_whole t (quote_rest 1 p.before start end p.behind p.pad) refl))

drop_later : (m n : ℕ) (xs ys : List ℕ) → m ≤ n → drop m xs ≡ drop m ys → drop n xs ≡ drop n ys
drop_later m n xs ys h e =
    let k : m + (n - m) ≡ n = omega arith in
    rw (← k) (sym (drop-drop (n - m) m xs) ∙ ap (drop (n - m)) e ∙ drop-drop (n - m) m ys)

pub append_none : (text : List ℕ) (from : ℕ) (b : List ℕ) → from ≤ length b → Appends text from b b from text
append_none text from b h = record { joined = refl; size = refl; behind = refl; least = omega arith; most = h }

module _ {text : List ℕ} {from : ℕ} {b c : List ℕ} {m : ℕ} {rest : List ℕ} (w : Appends text from b c m rest) where
  -- and then a front of the rest
  pub append_more : {e : List ℕ} {at : ℕ} {last : List ℕ} → Appends rest m c e at last → Appends text from b e at last
  append_more {e} {at} v = record {
    joined = w.joined ∙ v.joined;
    size = v.size ∙ w.size;
    behind = v.behind ∙ drop_later m at c b v.least w.behind;
    least = omega (arith, w.least, v.least);
    most = omega (arith, w.size, v.most);
  }

  pub append_one : (x : ℕ) {last : List ℕ} → m < length c → rest ≡ x ∷ last
      → Appends text from b (set c m x) (m + 1) last
  append_one x {last} h e =
      append_more (record {
        joined = rw (e, add-one, take-suc-set c m x h) (sym (append_snoc (take m c) x last));
        size = length-set c m x;
        behind = drop-set-lt (m + 1) c m x (omega arith);
        least = omega arith;
        most = omega arith;
      })

  -- with a text after it
  pub append_before : (after : List ℕ) → Appends (text ++ after) from b c m (rest ++ after)
  append_before after = record {
    joined = sym (append_assoc (take from b) text after) ∙ ap (λ (l : List ℕ). l ++ after) w.joined
        ∙ append_assoc (take m c) rest after;
    size = w.size;
    behind = w.behind;
    least = w.least;
    most = w.most;
  }

-- a part of the buffer that is lent comes back as x
append_part : {b out : List ℕ} (x : List ℕ) {from end : ℕ} (rest : List ℕ) → Begun b (take from b ++ x) out end
    → from ≤ end → end ≤ length b → Appends (x ++ rest) from b out end rest
append_part {b} {out} x {from} {end} rest s h k =
    let front = take from b ++ x in
    record {
      joined = rw (s.is, take_at front (drop end b) end s.size) (sym (append_assoc (take from b) x rest));
      size = ap length s.is ∙ length-append front (drop end b)
          ∙ omega (arith, s.size, length-drop end b);
      behind = ap (drop end) s.is ∙ drop_at front (drop end b) end s.size;
      least = h;
      most = k;
    }

begun_from : (b : List ℕ) (from : ℕ) → from ≤ length b → Begun b (take from b) b from
begun_from b from h = record { is = sym (take-append-drop from b); size = length-take-le from b h }

pub pads : (count pad from n : ℕ) (b x : List ℕ) → from ≤ length b → n ≡ min count (length b - from)
    → x ≡ replicate (length (take (from + n - from) (drop from b))) pad
    → Pads count pad from b (put_mid from (from + n - from) b x) (count - n) (from + n)
pads count pad from n b x h e ex =
    let s₀ = begun_from b from h in
    let k : from + n ≤ length b = omega arith in
    let z : from + n - from ≡ n = omega arith in
    let ex₁ : x ≡ replicate n pad =
    ex ∙ ap (λ (k : ℕ). replicate k pad) (lent (from + n) s₀ (omega arith) k ∙ z) in
    let s₁ = begun_more (from + n) x s₀ (omega arith) (ap length ex₁ ∙ length-replicate n pad ∙ sym z) in
    let all : n + (count - n) ≡ count = omega arith in
    let text : x ++ replicate (count - n) pad ≡ replicate count pad =
    rw ex₁ (replicate-append-replicate n (count - n) pad ∙ rw all) in
    record {
      written = rw (← text) (append_part x (replicate (count - n) pad) s₁ (omega arith) k);
      place = rw e;
      over = omega arith;
    }

-- the end of a part of a text
drop_take : (i n : ℕ) (xs : List ℕ) → drop i (take n xs) ≡ take (n - i) (drop i xs)
drop_take zero n xs = rw sub-zero
drop_take (suc i) zero xs = rw zero-sub
drop_take (suc i) (suc n) [] = sym (take-nil (suc n - suc i))
drop_take (suc i) (suc n) (x ∷ xs) = rw suc-sub-suc (drop_take i n xs)

later_part : (start end i : ℕ) (xs : List ℕ)
    → part (start + i) (end - (start + i)) xs ≡ drop i (part start (end - start) xs)
later_part start end i xs =
    let e : end - (start + i) ≡ end - start - i = omega arith in
    rw (e, ← drop-drop i start xs) (sym (drop_take i (end - start) (drop start xs)))

-- the first quote
quote_first : (s padding : List ℕ) → quoted_of s ++ padding ≡ 34 ∷ (owed false s ++ (34 ∷ padding))
unfolding quoted_of owed
quote_first s padding = ap (λ (l : List ℕ). 34 ∷ l) (append_snoc (escaped s) 34 padding)

-- a part of an escaped text, in a buffer that has room for no more than is left of it; the string is lent from k on
pub escapes_part : (src : List ℕ) (from k : ℕ) {gone₀ : Bool} {b e : List ℕ} {i : ℕ} {gone : Bool} {at : ℕ}
    → drop from (owed false src) ≡ owed gone₀ (drop k src) → length b ≤ length (owed false src) - from
    → Escapes (take (length src - k) (drop k src)) gone₀ 0 b e i gone at → e ≡ part from (length b) (owed false src)
escapes_part src from k {gone₀} {b} {e} {i} {gone} {at} q h w₀ =
    let s = drop k src in
    let lent : take (length src - k) s ≡ s = take_all (length src - k) s (omega (arith, length-drop k src)) in
    let w : Escapes s gone₀ 0 b e i gone at = rw lent at w₀ in
    let rest = owed gone (drop i s) in
    let whole : owed gone₀ s ≡ take at e ++ rest = w.written.joined in
    let full : at ≡ length b =
    elim (dec_eq at (length b)) [
      | yes z ↦ z
      | no n ↦
          let none : rest ≡ [] = ends s i gone (w.ends (omega (arith, n, w.written.most))) in
          omega (
            arith,
            n,
            w.written.most,
            ap length none,
            ap length q,
            length-drop from (owed false src),
            ap length whole,
            length-append (take at e) rest,
            length-take at e,
          )
    ] in
    let all : take at e ≡ e = take_all at e (omega (arith, w.written.size)) in
    rw (q, whole, all) (sym (take_at e rest (length b) w.written.size))

-- what a writer of the rest answers, also where another has written before it
module _ (t : List ℕ) (q : QuoteRest) {from : ℕ} {b e : List ℕ} (r : RestWritten) where
  rest_written : Appends (rest_of t q) from b e r.at (rest_of t r.rest) → RestIn t r.rest
      → ((r.rest.stage ≡ 0 → ⊥) → (r.at ≡ length b) × (0 < length (rest_of t r.rest))) → WritesRest t q from b e r
  rest_written w i s = record {
    joined = w.joined;
    size = w.size;
    behind = w.behind;
    least = w.least;
    most = w.most;
    inside = i;
    stops = s;
  }

  rest_goes_on : (q' : QuoteRest) {c : List ℕ} {m : ℕ} → Appends (rest_of t q) from b c m (rest_of t q')
      → WritesRest t q' m c e r → WritesRest t q from b e r
  rest_goes_on q' w v =
      rest_written
      (append_more w
      (record { joined = v.joined; size = v.size; behind = v.behind; least = v.least; most = v.most })) v.inside
      (λ n. ((v.stops n).0 ∙ w.size, (v.stops n).1))

-- nothing is left at stage 0 alone
pub rest_empty : {t : List ℕ} {q : QuoteRest} {from : ℕ} {b e : List ℕ} {r : RestWritten} → WritesRest t q from b e r
    → rest_of t r.rest ≡ [] → r.rest.stage ≡ 0
rest_empty {r = r} w e =
    elim (dec_eq r.rest.stage 0) [
      | yes z ↦ z
      | no n ↦ absurd (not-suc-le-zero (rw e at (w.stops n).1))
    ]

-- the padding on the right
module _ (t : List ℕ) (q : QuoteRest) {from : ℕ} {b e : List ℕ} {missing at : ℕ} (h : 3 < q.stage) (k : RestIn t q)
    (p : Pads q.behind q.pad from b e missing at) where
  in_padding : Appends (rest_of t q) from b e at (replicate missing q.pad)
  in_padding = rw (rest_padding t q h) p.written

  pub padding_left : (stage : ℕ) → (missing ≡ 0 → stage ≡ 0) → (missing ≢ 0 → 3 < stage)
      → WritesRest t q from b e
      (record { rest = quote_rest stage q.before q.start q.end missing q.pad; at = at })
  padding_left stage done more =
      let rest = quote_rest stage q.before q.start q.end missing q.pad in
      let in_table : RestIn t rest = still_in k (omega arith) (omega (arith, p.over)) in
      elim (dec_eq missing 0) [
        | yes z ↦
            rest_written t q _ (rw (rest_done t rest (done z)) (rw z at in_padding)) in_table
            (λ n. absurd (n (done z)))
        | no z ↦
            let is : rest_of t rest ≡ replicate missing q.pad = rest_padding t rest (more z) in
            rest_written t q _ (rw is in_padding) in_table
            (λ _. (
              omega (arith, z, p.place, p.over, p.written.most, p.written.least),
              rw (is, length-replicate missing q.pad) (omega (arith, z)),
            ))
      ]

-- inside the quotes
module _ (t : List ℕ) (q : QuoteRest) {src : List ℕ} (gone₀ : Bool) {from : ℕ} {b c : List ℕ} {i : ℕ} {gone : Bool}
    {at : ℕ} (l : q.stage ≡ cond gone₀ 3 2) (k : RestIn t q) (s : src ≡ string_of t q)
    (w : Escapes src gone₀ from b c i gone at) where
  in_string : Appends (rest_of t q) from b c at (owed gone (drop i src) ++ closing_of q)
  in_string = rw (rest_inside t q gone₀ l, ← s) (append_before w.written (closing_of q))

  pub string_closed : {e : List ℕ} {r : RestWritten} {stage : ℕ} → stage ≡ 4 → at < length c
      → WritesRest t (quote_rest stage q.before q.start q.end q.behind q.pad) (at + 1) (set c at 34) e r
      → WritesRest t q from b e r
  string_closed {e} {r} {stage} four h v =
      let rest = quote_rest stage q.before q.start q.end q.behind q.pad in
      let ended : length src ≤ i = w.ends (omega (arith, w.written.size)) in
      rest_goes_on t q r rest
      (rw (rest_padding t rest (omega arith)) (append_one in_string 34 h (rw (ends src i gone ended)))) v

  pub string_more : length c ≤ at → {stage : ℕ} → stage ≡ cond gone 3 2
      → WritesRest t q from b c
      (record { rest = quote_rest stage q.before (q.start + i) q.end q.behind q.pad; at = at })
  string_more h {stage} e =
      let rest = quote_rest stage q.before (q.start + i) q.end q.behind q.pad in
      let size : length src ≡ q.end - q.start =
      ap length s ∙ length_part q.start (q.end - q.start) t (omega (arith, k.inside)) in
      let is : rest_of t rest ≡ owed gone (drop i src) ++ closing_of q =
      rest_inside t rest gone e ∙ rw (later_part q.start q.end i t, s) in
      rest_written t q _ (rw is in_string)
      (record { order = omega (arith, w.inside, size, k.order); inside = k.inside; before = k.before; behind = k.behind })
      (λ _. (
        omega (arith, w.written.most, w.written.size),
        rw (is, length-append (owed gone (drop i src)) (closing_of q)) (omega arith),
      ))

-- the padding on the left
module _ (t : List ℕ) (q : QuoteRest) {from : ℕ} {b c : List ℕ} {missing at : ℕ} (one : q.stage ≡ 1) (k : RestIn t q)
    (p : Pads q.before q.pad from b c missing at) where
  in_front : Appends (rest_of t q) from b c at (beside missing q.behind q.pad (quoted_of (string_of t q)))
  in_front = rw (rest_whole t q one) (append_before p.written _)

  pub string_opened : {e : List ℕ} {r : RestWritten} {stage : ℕ} → stage ≡ 2 → at < length c
      → WritesRest t (quote_rest stage q.before q.start q.end q.behind q.pad) (at + 1) (set c at 34) e r
      → WritesRest t q from b e r
  string_opened {e} {r} {stage} two h v =
      let rest = quote_rest stage q.before q.start q.end q.behind q.pad in
      let none : missing ≡ 0 = omega (arith, p.place, p.over, p.written.size) in
      rest_goes_on t q r rest
      (rw (rest_inside t rest false two)
      (append_one in_front 34 h (rw none (quote_first (string_of t q) (replicate q.behind q.pad))))) v

  pub front_more : length c ≤ at
      → WritesRest t q from b c
      (record { rest = quote_rest q.stage missing q.start q.end q.behind q.pad; at = at })
  front_more h =
      let rest = quote_rest q.stage missing q.start q.end q.behind q.pad in
      let text = quoted_of (string_of t q) in
      let padding = replicate q.behind q.pad in
      let is : rest_of t rest ≡ beside missing q.behind q.pad text = rest_whole t rest one in
      rest_written t q _ (rw is in_front) (still_in k (omega (arith, p.over)) (omega arith))
      (λ _. (
        omega (arith, p.written.most, p.written.size),
        rw (is, length-append (replicate missing q.pad) (text ++ padding), length-append text padding)
            (omega (arith, length_quoted (string_of t q))),
      ))
