-- Runs that do nothing, that are said otherwise, and that follow one another. Assumes nothing.
use Prim.Native.Nat.{ℕ, ◌+◌, ◌-◌, ◌≤◌}
use mathlib.Core.Path.{◌≡◌, refl, sym, ap, ◌∙◌, subst}
use mathlib.Core.List.{List}
use native.Mathlib.Nat.{add-sub_of_le}
use native.Mathlib.Omega.{arith}
use lib.ListN.{length, take, drop}
use lib.Seq.{drop-drop}
use Rattle.rules.specs.Flow.{Flow, refused, Gives, Lacks}
use Rattle.rules.specs.Refusals.{code_of}
use Rattle.rules.specs.declared.refusal.Fault.{Fault}
use Rattle.rules.specs.declared.refusal.Refusal.TheVariants.{NoRoom}
use Rattle.rules.specs.Answer.{fit}
use Rattle.rules.proofs.FlowLaws.{gives_still, gives_join, gives_lacks, gives_fit, lacks_fit}
use Rattle.actions.specs.declared.state.Stop.{Stop}
use Rattle.actions.specs.declared.state.Stop.TheVariants.{Ended, Escaped, Refused}
use Rattle.actions.specs.declared.state.Ran.{Ran}
use Rattle.actions.specs.Ran.{no_room, onward, Same, gives, lacks, Does}

-- two lists that agree from i on agree from a later place on
pub agree : (x y : List ℕ) (i j : ℕ) → i ≤ j → drop i x ≡ drop i y → drop j x ≡ drop j y
agree x y i j h e =
    let s : i + (j - i) ≡ j = add-sub_of_le h in
    subst (λ (k : ℕ). drop k x ≡ drop k y) s (sym (drop-drop (j - i) i x) ∙ ap (drop (j - i)) e ∙ drop-drop (j - i) i y)

-- nothing is written
pub stays : {S : Type 0} {count left at : ℕ} {b : List ℕ} (r : Ran) → S → r.at ≡ at → r.left ≤ left → at ≤ length b → r.next.0 ≤ count
    → Does S count left at b b r
stays r s q h l n = record { same = s; size = refl; rest = refl; least = omega arith; most = omega arith; falls = h; inside = n }

-- the flow that comes after a run that wrote nothing is its own
pub here : {f : Flow} {on out : ℕ → ℕ → Flow} {at : ℕ} {b : List ℕ} (r : Ran) → r.at ≡ at → f ≡ onward on out r.stop r.left r.next.0
    → Same f on out at b b r
here {f} {on} {out} {at} {b} r q e =
    gives
    (subst (λ (i : ℕ). Gives (take at b) f (take i b) (onward on out r.stop r.left r.next.0)) (sym q)
    (subst (Gives (take at b) f (take at b)) e (gives_still (take at b) f)))

-- one run after another, over other arguments perhaps
pub joined : {S S' S'' : Type 0} {count count' l l' at : ℕ} {b e e' : List ℕ} {r r' : Ran} → Does S count l' at b e r → l' ≤ l → Does S' count' r.left r.at e e' r' → S'' → Does S'' count' l at b e' r'
joined {at = at} {b = b} {e = e} {r = r} {r' = r'} d h d' s =
    record {
      same = s;
      size = d'.size ∙ d.size;
      rest = d'.rest ∙ agree e b r.at r'.at d'.least d.rest;
      least = omega (arith, d.least, d'.least);
      most = omega (arith, d'.most, d.size);
      falls = omega (arith, d.falls, d'.falls);
      inside = d'.inside;
    }

-- the same run, said otherwise
pub said : {S S' : Type 0} {count count' l l' at : ℕ} {b e : List ℕ} {r : Ran} (r' : Ran) → Does S count l at b e r → r'.at ≡ r.at → r'.left ≡ r.left → l ≤ l' → r'.next.0 ≤ count' → S'
    → Does S' count' l' at b e r'
said {b = b} {e = e} r' d q p h n s =
    record {
      same = s;
      size = d.size;
      rest = subst (λ (i : ℕ). drop i e ≡ drop i b) (sym q) d.rest;
      least = omega (arith, d.least);
      most = omega (arith, d.most);
      falls = omega (arith, d.falls);
      inside = n;
    }

-- no run stops in two ways
pub no_end : {o : Stop} {f : Fault} → o ≡ Refused f → o ≡ Ended → ⊥
no_end q r = let z : ◌≡◌ {A = ℕ} 0 1 = cc in omega arith

pub no_end_left : {o : Stop} → o ≡ Escaped → o ≡ Ended → ⊥
no_end_left q r = let z : ◌≡◌ {A = ℕ} 0 1 = cc in omega arith

pub no_left : {o : Stop} {f : Fault} → o ≡ Refused f → o ≡ Escaped → ⊥
no_left q r = let z : ◌≡◌ {A = ℕ} 0 1 = cc in omega arith

-- and a run is refused for one fault
pub same_refusal : {o : Stop} {f g : Fault} → o ≡ Refused f → o ≡ Refused g → f ≡ g
same_refusal q w = cc

-- what comes after a stop, by the stop
module _ (on out : ℕ → ℕ → Flow) (left i : ℕ) where
  pub onward_ended : {o : Stop} → o ≡ Ended → onward on out o left i ≡ on left i
  onward_ended q = ap (λ (o : Stop). onward on out o left i) q

  pub onward_left : {o : Stop} → o ≡ Escaped → onward on out o left i ≡ out left i
  onward_left q = ap (λ (o : Stop). onward on out o left i) q

module _ (on out on' out' : ℕ → ℕ → Flow) (left i : ℕ) where
  pub onward_refused : {o : Stop} (f : Fault) → o ≡ Refused f → onward on out o left i ≡ onward on' out' o left i
  onward_refused f q =
      ap (λ (o : Stop). onward on out o left i) q ∙ sym (ap (λ (o : Stop). onward on' out' o left i) q)

module _ {f : Flow} {on out : ℕ → ℕ → Flow} {at : ℕ} {b e : List ℕ} {r : Ran} where
  -- by another name of its flow
  pub from : {f' : Flow} → f' ≡ f → Same f on out at b e r → Same f' on out at b e r
  from q s = subst (λ (k : Flow). Same k on out at b e r) (sym q) s

  -- where it did not stop for want of room, the flow gives what was written, whatever the room
  pub gave : Same f on out at b e r → ((p : ℕ) → r.stop ≡ no_room p → ⊥)
      → Gives (take at b) f (take r.at e) (onward on out r.stop r.left r.next.0)
  gave (gives u) h = u
  gave (lacks {p = p} q u) h = absurd (h p q)

  pub gave_on : Same f on out at b e r → r.stop ≡ Ended → Gives (take at b) f (take r.at e) (on r.left r.next.0)
  gave_on s q = subst (Gives (take at b) f (take r.at e)) (onward_ended on out r.left r.next.0 q) (gave s (λ p w. no_end w q))

  pub gave_left : Same f on out at b e r → r.stop ≡ Escaped → Gives (take at b) f (take r.at e) (out r.left r.next.0)
  gave_left s q = subst (Gives (take at b) f (take r.at e)) (onward_left on out r.left r.next.0 q) (gave s (λ p w. no_left w q))

  pub gave_refused : Same f on out at b e r → (fault : Fault) → r.stop ≡ Refused fault → (fault.refusal ≡ NoRoom → ⊥)
      → Gives (take at b) f (take r.at e) (refused (code_of fault.refusal) fault.position r.left)
  gave_refused s fault q h =
      subst (Gives (take at b) f (take r.at e)) (ap (λ (o : Stop). onward on out o r.left r.next.0) q) (gave s (λ x w. h (ap (λ (z : Fault). z.refusal) (same_refusal q w))))

  -- and in the buffer it comes to what comes after it
  pub same_fit : Same f on out at b e r → length (take r.at e) ≤ length b
      → fit (length b) (take at b) f ≡ fit (length b) (take r.at e) (onward on out r.stop r.left r.next.0)
  same_fit (gives u) h = gives_fit u (length b) h
  same_fit (lacks q u) h =
      lacks_fit u h ∙ sym (ap (λ (o : Stop). fit (length b) (take r.at e) (onward on out o r.left r.next.0)) q)

module _ {f f' : Flow} {on out : ℕ → ℕ → Flow} {at : ℕ} {b e e' : List ℕ} {r' : Ran} where
  -- what the flow gives, and then a run of what it is after that
  after : {m : ℕ} → Gives (take at b) f (take m e) f' → length e ≡ length b → Same f' on out m e e' r' → Same f on out at b e' r'
  after u z (gives v) = gives (gives_join u v)
  after {m} u z (lacks {p = p} q v) =
      lacks q (gives_lacks u (subst (λ (room : ℕ). Lacks room (take m e) f' (take r'.at e') p r'.left) z v))

module _ {f : Flow} {on out on' out' : ℕ → ℕ → Flow} {at : ℕ} {b e : List ℕ} {r : Ran} where
  -- where it ended, by another run that follows it
  pub then_on : Same f on out at b e r → {f' : Flow} {e' : List ℕ} {r' : Ran} → r.stop ≡ Ended → length e ≡ length b → on r.left r.next.0 ≡ f' → Same f' on' out' r.at e e' r' → Same f on' out' at b e' r'
  then_on s q z y n = after (subst (Gives (take at b) f (take r.at e)) y (gave_on s q)) z n

  -- where it stopped, by what comes after it under another name
  pub renamed : Same f on out at b e r → (r' : Ran) → r'.at ≡ r.at → r'.left ≡ r.left → ((p : ℕ) → r.stop ≡ no_room p → r'.stop ≡ no_room p)
      → onward on out r.stop r.left r.next.0 ≡ onward on' out' r'.stop r'.left r'.next.0 → Same f on' out' at b e r'
  renamed (gives u) r' q l h y =
      gives
      (subst (λ (i : ℕ). Gives (take at b) f (take i e) (onward on' out' r'.stop r'.left r'.next.0)) (sym q)
      (subst (Gives (take at b) f (take r.at e)) y u))
  renamed (lacks {p = p} k u) r' q l h y =
      lacks (h p k)
      (subst (λ (i : ℕ). Lacks (length b) (take at b) f (take i e) p r'.left) (sym q)
      (subst (Lacks (length b) (take at b) f (take r.at e) p) (sym l) u))
