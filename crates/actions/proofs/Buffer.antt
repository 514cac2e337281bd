-- A piece that is put into the buffer, and one that does not fit, to the flow that gives it. Assumes nothing.
use Prim.Native.Nat.{ℕ, suc, ◌+◌, ◌-◌, ◌<◌, ◌≤◌}
use mathlib.Core.Path.{◌≡◌, refl, sym, ap, ◌∙◌}
use mathlib.Core.List.{List, [], ◌∷◌, ◌++◌, append-nil, append_assoc}
use native.Mathlib.Numerals.{add-one}
use native.Mathlib.Omega.{arith}
use lib.ListN.{length, take, drop, set, replicate, length-append, length-drop, length-set, length-replicate}
use lib.Seq.{drop-drop, length-take-le, take-suc-set, drop-set-lt, take_at, drop_at, take_all}
use borrow.Rule.Slice.PartMut.{put_mid}
use Rattle.rules.specs.Flow.{Flow, put, Gives, Lacks}
use Rattle.rules.proofs.FlowLaws.{gives_still, gives_piece}
use Rattle.actions.proofs.Joining.{agree}

-- e is the buffer b with w put at the place `at`
pub record Put (b : List ℕ) (at : ℕ) (w e : List ℕ) : Type 0 where
  pub size : length e ≡ length b
  pub front : take (at + length w) e ≡ take at b ++ w
  pub rest : drop (at + length w) e ≡ drop (at + length w) b
  pub room : at + length w ≤ length b

-- one byte
pub put_byte : (b : List ℕ) (at byte : ℕ) → at < length b → Put b at (byte ∷ []) (set b at byte)
put_byte b at byte h =
    record {
      size = length-set b at byte;
      front = rw add-one (take-suc-set b at byte h);
      rest = rw add-one (drop-set-lt (suc at) b at byte (omega arith));
      room = omega arith;
    }

-- a part of the buffer that was lent and came back as w
pub put_part : (b : List ℕ) (at : ℕ) (w : List ℕ) → at + length w ≤ length b → Put b at w (take at b ++ (w ++ drop (at + length w) b))
put_part b at w h =
    let a : length (take at b) ≡ at = length-take-le at b (omega arith) in
    let k : length (take at b ++ w) ≡ at + length w = length-append (take at b) w ∙ ap (λ (i : ℕ). i + length w) a in
    record {
      size = rw (length-append, length-append, a, length-drop) (omega arith);
      front = rw (← append_assoc (take at b) w (drop (at + length w) b)) (take_at (take at b ++ w) (drop (at + length w) b) (at + length w) k);
      rest = rw (← append_assoc (take at b) w (drop (at + length w) b)) (drop_at (take at b ++ w) (drop (at + length w) b) (at + length w) k);
      room = h;
    }

module _ (b w : List ℕ) (x m at : ℕ) (f : Flow) where
  pub put_gives : {e : List ℕ} → Put b at w e → Gives (take at b) (put x m w f) (take (at + length w) e) f
  put_gives u = rw u.front (gives_piece (take at b) x m w f)

  pub put_lacks : at ≤ length b → length b < at + length w → Lacks (length b) (take at b) (put x m w f) (take at b) x m
  put_lacks h k =
      record { piece = w; more = f; gives = gives_still (take at b) (put x m w f); full = rw (length-take-le at b h) k }

-- the part of k places that was lent at a place is as long as it says
pub lent_length : (b : List ℕ) (at k : ℕ) (w : List ℕ) → k ≡ length w → k ≤ length b - at → at ≤ length b → length (take (at + k - at) (drop at b)) ≡ length w
lent_length b at k w q h l =
    let m : at + k - at ≡ k = omega arith in
    rw m (length-take-le k (drop at b) (rw (length-drop at b) h) ∙ q)

-- and comes back as w
pub put_lent : (b : List ℕ) (at k : ℕ) (y w : List ℕ) → k ≡ length w → k ≤ length b - at → at ≤ length b → y ≡ w → Put b at w (put_mid at (at + k - at) b y)
put_lent b at k y w q h l e =
    let m : at + k - at ≡ k = omega arith in
    rw (m, e, q, drop-drop (length w) at b) (put_part b at w (omega arith))

-- the part from i to j is as long as that, and comes back as w
pub lent_between : (b : List ℕ) (i j : ℕ) → i ≤ j → j ≤ length b → length (take (j - i) (drop i b)) ≡ j - i
lent_between b i j h l = length-take-le (j - i) (drop i b) (rw (length-drop i b) (omega arith))

pub put_between : (b : List ℕ) (i j : ℕ) (y w : List ℕ) → i ≤ j → j ≤ length b → j - i ≡ length w → y ≡ w → Put b i w (put_mid i (j - i) b y)
put_between b i j y w h l q e = rw (q, e, drop-drop (length w) i b) (put_part b i w (omega arith))

-- it is filled with a byte
pub fill_between : (b : List ℕ) (i j n byte : ℕ) (y : List ℕ) → i ≤ j → j ≤ length b → j - i ≡ n → y ≡ replicate (length (take (j - i) (drop i b))) byte
    → Put b i (replicate n byte) (put_mid i (j - i) b y)
fill_between b i j n byte y h l q e =
    put_between b i j y (replicate n byte) h l (q ∙ sym (length-replicate n byte)) (e ∙ ap (λ (k : ℕ). replicate k byte) (lent_between b i j h l ∙ q))

-- or with the whole of a text
pub copy_between : (b : List ℕ) (i j : ℕ) (y w : List ℕ) → i ≤ j → j ≤ length b → j - i ≡ length w → y ≡ take (length (take (j - i) (drop i b))) w
    → Put b i w (put_mid i (j - i) b y)
copy_between b i j y w h l q e =
    put_between b i j y w h l q (e ∙ ap (λ (k : ℕ). take k w) (lent_between b i j h l ∙ q) ∙ take_all (length w) w (omega arith))

pub put_none : (b : List ℕ) (at : ℕ) → at ≤ length b → Put b at [] b
put_none b at h =
    let n : at + 0 ≡ at = omega arith in
    record { size = refl; front = rw (n, append-nil (take at b)); rest = refl; room = omega arith }

-- one text after another
pub put_then : {b w e x e' : List ℕ} {at at' : ℕ} → Put b at w e → at' ≡ at + length w → Put e at' x e' → Put b at (w ++ x) e'
put_then {b} {w} {e} {x} {e'} {at} {at'} u q v =
    let n : at + length (w ++ x) ≡ at' + length x = omega (arith, length-append w x) in
    record {
      size = v.size ∙ u.size;
      front =
          ap (λ (k : ℕ). take k e') n ∙ v.front ∙ ap (λ (t : List ℕ). t ++ x) (ap (λ (k : ℕ). take k e) q ∙ u.front)
          ∙ append_assoc (take at b) w x;
      rest = ap (λ (k : ℕ). drop k e') n ∙ v.rest ∙ agree e b (at + length w) (at' + length x) (omega arith) u.rest ∙ ap (λ (k : ℕ). drop k b) (sym n);
      room = omega (arith, v.room, u.size, length-append w x);
    }
