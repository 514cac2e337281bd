-- Texts that are put straight into the buffer: what is put, and that it is what the definition writes. Assumes nothing.
use Prim.Native.Nat.{ℕ, zero, suc, max, ◌+◌, ◌-◌, ◌<◌, ◌≤◌}
use mathlib.Core.Path.{◌≡◌, refl, sym, ap, subst, ◌∙◌}
use mathlib.Core.Bool.{false}
use mathlib.Core.List.{List, ◌++◌, append_assoc}
use native.Mathlib.Omega.{arith}
use borrow.Rule.Slice.PartMut.{put_mid}
use lib.IntN.{ℤ, pos, negsuc}
use lib.ListN.{length, take, drop, set, replicate, length-append, length-drop, length-replicate}
use lib.Seq.{length-take-le}
use Rattle.rules.specs.Number.{digits_of, magnitude_of, sign_of, pad_left}
use Rattle.rules.specs.Table.{Value, boolean, integer, string, Holds, meant, view_of}
use Rattle.rules.specs.Piece.{or_else, decimal_of}
use Rattle.rules.specs.Working.{argument_in, own, source_of}
use Rattle.rules.specs.Run.{Flow, put, write, write_from}
use Rattle.rules.specs.declared.Argument.{Argument}
use Rattle.rules.specs.declared.Argument.TheVariants.{Integer, Text}
use Rattle.rules.specs.declared.Directive.{Directive}
use Rattle.rules.specs.declared.Form.{Form}
use Rattle.rules.specs.declared.Form.TheVariants.{Object, Numeral, Repeat}
use Rattle.std.specs.Prelude.{None}
use Rattle.rules.specs.declared.Settings.{Settings}
use Rattle.rules.specs.declared.refusal.Refusal.TheVariants.{NoRoom}
use Rattle.rules.proofs.Padding.{left_length}
use Rattle.rules.proofs.ShortTexts.{object_text, decimal_text, repeat_text}
use Rattle.pieces.specs.Bytes.{part}
use Rattle.pieces.specs.Given.{StringIn, Reachable}
use Rattle.parameters.specs.Settling.{hand_at}
use Rattle.parameters.specs.declared.arguments.Hand.{Hand}
use Rattle.actions.specs.declared.state.Ran.{Ran}
use Rattle.actions.specs.declared.state.Spot.{Spot}
use Rattle.actions.specs.Acting.{Performed}
use Rattle.actions.specs.Ran.{refused_ran, ended_ran}
use Rattle.actions.proofs.ActLaws.{performed_as, performed_put, performed_full, write_yes, from_own, from_given}
use Rattle.actions.proofs.Buffer.{Put, put_byte, put_none, put_then, put_between, fill_between, copy_between}
use Rattle.actions.proofs.Sources.{reachable}

-- a text of n bytes that is put, and one for which there is no room
module _ (spot : Spot) (next count n : ℕ) (b w : List ℕ) (q : n ≡ length w) (r : Ran) where
  pub direct_put : {e : List ℕ} → r ≡ ended_ran next spot.left (spot.at + n) spot.place → Put b spot.at w e → next ≤ count
      → Performed (λ on. put spot.position spot.left w (on next)) count spot b e r
  direct_put h u k =
      performed_put spot next count b w r (h ∙ ap (λ (m : ℕ). ended_ran next spot.left (spot.at + m) spot.place) q) u k

  pub direct_full : (i : ℕ) → r ≡ refused_ran NoRoom spot.position i spot.left spot.at spot.place
      → spot.at ≤ length b → length b - spot.at < n → i ≤ count → Performed (λ on. put spot.position spot.left w (on next)) count spot b b r
  direct_full i h l m k = performed_full spot next count b w r i h l (omega arith) k

-- a byte n times
pub run_put : (b : List ℕ) (at n byte : ℕ) (y : List ℕ) → at ≤ length b → n ≤ length b - at
    → y ≡ replicate (length (take (at + n - at) (drop at b))) byte
    → Put b at (replicate n byte) (put_mid at (at + n - at) b y)
run_put b at n byte y l h e = fill_between b at (at + n) n byte y (omega arith) (omega arith) (omega arith) e

pub string_length : {t : List ℕ} {start end : ℕ} → StringIn t start end → length (part start (end - start) t) ≡ end - start
string_length {t} {start} {end} s =
    length-take-le (end - start) (drop start t) (rw (length-drop start t) (omega (arith, s.order, s.inside)))

-- a string and then spaces, in n bytes
module _ {t : List ℕ} {start end : ℕ} (s : StringIn t start end) (width n : ℕ) (q : n ≡ max (end - start) width) where
  pub text_length : n ≡ length (part start (end - start) t ++ replicate (width - (end - start)) 32)
  text_length =
      omega (
        arith,
        length-append (part start (end - start) t) (replicate (width - (end - start)) 32),
        string_length s,
        length-replicate {A = ℕ} (width - (end - start)) 32,
      )

  pub text_put : (b : List ℕ) (at : ℕ) (y z : List ℕ) → at ≤ length b → n ≤ length b - at
      → y ≡ take (length (take (at + (end - start) - at) (drop at b))) (part start (end - start) t)
      → z ≡ replicate (length (take (at + n - (at + (end - start))) (drop (at + (end - start)) (put_mid at (at + (end - start) - at) b y)))) 32
      → Put b at (part start (end - start) t ++ replicate (width - (end - start)) 32)
      (put_mid (at + (end - start)) (at + n - (at + (end - start))) (put_mid at (at + (end - start) - at) b y) z)
  text_put b at y z l h ey ez =
      let m = at + (end - start) in
      let w = part start (end - start) t in
      let u : Put b at w (put_mid at (m - at) b y) = copy_between b at m y w (omega arith) (omega arith) (omega (arith, string_length s)) ey in
      put_then u (omega (arith, string_length s))
      (fill_between (put_mid at (m - at) b y) m (at + n) (width - (end - start)) 32 z (omega arith) (omega (arith, u.size)) (omega arith) ez)

-- the sign, where there is one
pub sign_put : (z : ℤ) (b : List ℕ) (at to : ℕ) {e : List ℕ}
    → to ≡ at + length (sign_of false z) → to ≤ length b → at < to → e ≡ set b at 45 → Put b at (sign_of false z) e
sign_put (pos zero) b at to q l h x = absurd (omega arith)
sign_put (pos (suc n)) b at to q l h x = absurd (omega arith)
sign_put (negsuc n) b at to q l h x = rw x (put_byte b at 45 (omega arith))

pub sign_none : (z : ℤ) (b : List ℕ) (at to : ℕ) {e : List ℕ}
    → to ≡ at + length (sign_of false z) → to ≤ length b → to ≤ at → e ≡ b → Put b at (sign_of false z) e
sign_none (pos zero) b at to q l h x = rw x (put_none b at (omega arith))
sign_none (pos (suc n)) b at to q l h x = rw x (put_none b at (omega arith))
sign_none (negsuc n) b at to q l h x = absurd (omega arith)

-- the sizes of a number's digits and of its sign, and of the whole with its padding
pub record Counted (width : ℕ) (z : ℤ) (count sign n : ℕ) : Type 0 where
  pub digits : count ≡ length (digits_of 10 (magnitude_of z))
  pub signs : sign ≡ length (sign_of false z)
  pub all : n ≡ max (sign + count) width

pub counted : {width : ℕ} {z : ℤ} {m count sign n : ℕ}
    → m ≡ magnitude_of z → count ≡ length (digits_of 10 m) → sign ≡ length (sign_of false z)
    → n ≡ max (sign + count) width → Counted width z count sign n
counted e c s q = record { digits = c ∙ ap (λ (k : ℕ). length (digits_of 10 k)) e; signs = s; all = q }

-- a number to the right of its padding
module _ (width pad : ℕ) {z : ℤ} {count sign n : ℕ} (q : Counted width z count sign n) where
  pub decimal_length : n ≡ length (pad_left width pad (decimal_of z))
  decimal_length =
      omega (
        arith,
        q.digits,
        q.signs,
        q.all,
        left_length width pad (decimal_of z),
        length-append (sign_of false z) (digits_of 10 (magnitude_of z)),
      )

  decimal_parts : (replicate (width - (sign + count)) pad ++ sign_of false z) ++ digits_of 10 (magnitude_of z)
      ≡ pad_left width pad (decimal_of z)
  unfolding pad_left
  decimal_parts =
      let ds = digits_of 10 (magnitude_of z) in
      let m : width - (sign + count) ≡ width - length (decimal_of z) =
      omega (arith, q.digits, q.signs, length-append (sign_of false z) ds) in
      append_assoc (replicate (width - (sign + count)) pad) (sign_of false z) ds
      ∙ ap (λ (k : ℕ). replicate k pad ++ decimal_of z) m

  module _ (b : List ℕ) (at : ℕ) (l : at ≤ length b) (h : n ≤ length b - at) where
    pub pad_put : (y : List ℕ) → y ≡ replicate (length (take (at + n - (sign + count) - at) (drop at b))) pad
        → Put b at (replicate (width - (sign + count)) pad) (put_mid at (at + n - (sign + count) - at) b y)
    pad_put y e =
        fill_between b at (at + n - (sign + count)) (width - (sign + count)) pad y (omega (arith, q.all)) (omega (arith, q.all)) (omega (arith, q.all)) e

    pub signed_put : {e o : List ℕ} → Put b at (replicate (width - (sign + count)) pad) e → Put e (at + n - (sign + count)) (sign_of false z) o
        → Put b at (replicate (width - (sign + count)) pad ++ sign_of false z) o
    signed_put u v = put_then u (omega (arith, q.all, length-replicate (width - (sign + count)) pad)) v

    pub decimal_put : {o : List ℕ} (y : List ℕ) → Put b at (replicate (width - (sign + count)) pad ++ sign_of false z) o → y ≡ digits_of 10 (magnitude_of z)
        → Put b at (pad_left width pad (decimal_of z)) (put_mid (at + n - count) (at + n - (at + n - count)) o y)
    decimal_put {o} y u e =
        let k : at + n - count ≡ at + length (replicate (width - (sign + count)) pad ++ sign_of false z) =
        omega (arith, q.signs, q.all, length-append (replicate (width - (sign + count)) pad) (sign_of false z), length-replicate (width - (sign + count)) pad) in
        subst (λ (w : List ℕ). Put b at w (put_mid (at + n - count) (at + n - (at + n - count)) o y)) decimal_parts
        (put_then u k (put_between o (at + n - count) (at + n) y (digits_of 10 (magnitude_of z)) (omega arith) (omega (arith, u.size)) (omega (arith, q.digits, q.all)) e))

-- a string that was read lies in its table
pub string_held : {t : List ℕ} {j start end : ℕ} {x : Argument} → x ≡ Text start end → Holds t j x → StringIn t start end
string_held {t} {x = x} q h = subst (Reachable t) q (reachable x h)

-- what is put so is what the definition writes
module _ (t : List ℕ) (hand : Hand) (s : Settings) (spot : Spot) (i : ℕ) (d : Directive) where
  -- the text w is put, and then comes an argument; a form is written
  abbrev pub Puts : List ℕ → ℕ → ℕ → List ℕ → List ℕ → Ran → Type 0
  Puts w next count b e r = Performed (λ on. put spot.position spot.left w (on next)) count spot b e r

  abbrev pub FormWritten : Form → ℕ → List ℕ → List ℕ → Ran → Type 0
  FormWritten f count b e r =
      Performed (λ on. write_from (view_of t) spot.position spot.left f d (hand_at hand 0) s i on (source_of f false s)) count spot b e r

  pub run_written : (byte n : ℕ) {count : ℕ} {b e : List ℕ} {r : Ran}
      → n ≡ or_else s.first 1 → Puts (replicate n byte) i count b e r → FormWritten (Repeat byte) count b e r
  run_written byte n q k =
      performed_as _
      (λ on. from_given (view_of t) spot.position spot.left d (hand_at hand 0) (Repeat byte) s on i (boolean false)
      ∙ write_yes (view_of t) spot.position spot.left d (hand_at hand 0) (Repeat byte) s on (boolean false) i refl refl refl
      ∙ ap (λ (w : List ℕ). put spot.position spot.left w (on i))
      (repeat_text d.colon s d.atsign byte (boolean false) ∙ ap (λ (m : ℕ). replicate m byte) (sym q)))
      k

  module _ (x : Argument) (h : i < hand.count) (y : meant t x ≡ argument_in (view_of t) (hand_at hand 0) i) where
    -- the argument that is taken
    own_taken : (f : Form) (on : ℕ → Flow) {v : Argument} → x ≡ v
        → write_from (view_of t) spot.position spot.left f d (hand_at hand 0) s i on own
        ≡ write spot.position spot.left f d s (meant t v) (i + 1) on
    own_taken f on q =
        from_own (view_of t) spot.position spot.left d (hand_at hand 0) f s on i h
        ∙ ap (λ (z : Value). write spot.position spot.left f d s z (i + 1) on) (sym y ∙ ap (meant t) q)

    pub text_written : (start end width : ℕ) {count : ℕ} {b e : List ℕ} {r : Ran} → x ≡ Text start end → StringIn t start end → d.atsign ≡ false
        → s.second ≡ None → s.third ≡ None → s.fourth ≡ None → width ≡ or_else s.first 0
        → Puts (part start (end - start) t ++ replicate (width - (end - start)) 32) (i + 1) count b e r
        → FormWritten (Object false) count b e r
    text_written start end width q l a e₂ e₃ e₄ w k =
        let its_string = part start (end - start) t in
        let n : or_else s.first 0 - length its_string ≡ width - (end - start) = omega (arith, string_length l, w) in
        performed_as _
        (λ on. own_taken (Object false) on q
        ∙ write_yes (view_of t) spot.position spot.left d (hand_at hand 0) (Object false) s on (string its_string) (i + 1) refl a refl
        ∙ ap (λ (w : List ℕ). put spot.position spot.left w (on (i + 1)))
        (object_text d.colon s its_string e₂ e₃ e₄ ∙ ap (λ (m : ℕ). its_string ++ replicate m 32) n))
        k

    -- z' is the number that the machine reads back from the bits of z
    pub decimal_written : (z z' : ℤ) (width pad : ℕ) {count : ℕ} {b e : List ℕ} {r : Ran} → x ≡ Integer z → z' ≡ z → d.colon ≡ false → d.atsign ≡ false
        → width ≡ or_else s.first 0 → pad ≡ or_else s.second 32
        → Puts (pad_left width pad (decimal_of z')) (i + 1) count b e r → FormWritten (Numeral 10) count b e r
    decimal_written z z' width pad q v c a w p k =
        performed_as _
        (λ on. own_taken (Numeral 10) on q
        ∙ write_yes (view_of t) spot.position spot.left d (hand_at hand 0) (Numeral 10) s on (integer z) (i + 1) c a refl
        ∙ ap (λ (w : List ℕ). put spot.position spot.left w (on (i + 1)))
        (decimal_text s z ∙ rw (v, w, p)))
        k
