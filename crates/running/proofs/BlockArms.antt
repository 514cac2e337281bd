-- What the runners of blocks make of a conditional, of an iteration and of its passes. Assumes nothing.
use Prim.Native.Nat.{ℕ, ◌+◌, ◌-◌, ◌≤◌}
use mathlib.Core.Path.{◌≡◌, refl, sym, ap, ◌∙◌}
use mathlib.Core.Bool.{true, false}
use mathlib.Core.List.{List, ◌∷◌}
use native.Mathlib.Omega.{arith}
use lib.ListN.{length}
use Rattle.rules.specs.Choice.{either}
use Rattle.rules.specs.Table.{View}
use Rattle.rules.specs.Text.{Sequence, end, Level, innermost, outer, as_clauses, deepest}
use Rattle.rules.specs.Working.{Context, none_remain}
use Rattle.rules.specs.Run.{Flow, refused, begin, nested, Frame, iteration, conditional, Outside, same_arguments, other, afterwards, used_up, one_less, run}
use Rattle.rules.specs.declared.Directive.{Directive}
use Rattle.rules.specs.Setting.{Setting}
use Rattle.rules.specs.Refusals.{code_of}
use Rattle.rules.specs.declared.refusal.Fault.{Fault}
use Rattle.rules.specs.declared.refusal.Refusal.{Refusal}
use Rattle.rules.specs.declared.refusal.Refusal.TheVariants.{StepLimit}
use Rattle.rules.proofs.RunLaws.{begin_yes, begin_no, run_clause_end, run_passes_over, run_pass, run_chooses, run_iterates}
use Rattle.actions.specs.declared.state.Stop.{Stop}
use Rattle.actions.specs.declared.state.Stop.TheVariants.{Ended, Escaped, Refused}
use Rattle.actions.specs.declared.state.Ran.{Ran}
use Rattle.actions.specs.Ran.{refused_ran, onward, Same, hand}
use Rattle.actions.proofs.Joining.{stays, here, joined, said, from, then_on, renamed, no_end, no_end_left, no_left, onward_ended, onward_left, onward_refused}
use Rattle.running.specs.Runs.{ChoosesAt, IteratesAt, After, rest_at, leaving, Runs, Blocks, Passes, opening}

-- what follows a block, by the place after it
pub rest_is : {s : ℕ → List Level} {n q place : ℕ} → After s n q place → (innermost (outer (s q))).rest ≡ rest_at s place
rest_is a = ap (λ (x : List Level). (innermost x).rest) (sym a.is)

-- the passes of an iteration
module _ (s : ℕ → List Level) (n : ℕ) (v : View) (first count level p q i : ℕ) (passes : Setting) (left at : ℕ) (b : List ℕ) where
  abbrev body : Sequence
  body = rest_at s q

  abbrev rest : Sequence
  rest = (innermost (outer (s q))).rest

  -- none remain, or the passes are used up
  pub passes_over : either (none_remain (hand first count i)) (used_up passes) ≡ true → (place : ℕ) → After s n q place → at ≤ length b → i ≤ count
      → Passes s n v (hand first count) level p q i passes left at b b (record { stop = Ended; next = record { 0 = i }; left = left; at = at; place = place })
  passes_over h place a l k =
      record {
        does =
            stays _
            (λ ks out away _. here _ refl
            (run_passes_over v (hand first count i) p passes body rest out ks left h
            ∙ ap (λ (x : Sequence). run v left x ks (afterwards out (hand first count i))) (rest_is a)))
            refl (omega arith) l k;
        after = λ _. a;
      }

  module _ (h : either (none_remain (hand first count i)) (used_up passes) ≡ false) where
    -- no step is left for the next pass
    pub passes_none : left ≡ 0 → (place : ℕ) → at ≤ length b → i ≤ count
        → Passes s n v (hand first count) level p q i passes left at b b (refused_ran StepLimit p i left at place)
    passes_none z place l k =
        record {
          does =
              stays _ (λ ks out away _. here _ refl (run_pass v (hand first count i) p passes body rest out ks left h ∙ begin_no p left _ z)) refl (omega arith) l k;
          after = λ e. absurd (no_end refl e);
        }

    module _ {e : List ℕ} {r : Ran} (z : left ≡ 0 → ⊥) (u : Runs s n v (hand first count) level q i (left - 1) at b e r) where
      pass_is : (ks : List Frame) (out : Outside) → length ks + (level + 1) ≡ deepest
          → Same (run v left end (iteration p passes body rest out ∷ ks) (hand first count i))
          (λ l j. run v l end (iteration p (one_less passes) body rest out ∷ ks) (hand first count j))
          (λ l j. run v l rest ks (afterwards out (hand first count j))) at b e r
      pass_is ks out m =
          from (run_pass v (hand first count i) p passes body rest out ks left h ∙ begin_yes p left _ z)
          (u.does.same (iteration p (one_less passes) body rest out ∷ ks) (omega arith))

      pub passes_on : {e' : List ℕ} {r' : Ran} → r.stop ≡ Ended → Passes s n v (hand first count) level p q r.next.0 (one_less passes) r.left r.at e e' r'
          → Passes s n v (hand first count) level p q i passes left at b e' r'
      passes_on y k =
          record {
            does =
                joined u.does (omega arith) k.does
                (λ ks out away m. then_on (pass_is ks out m) y u.does.size refl (k.does.same ks out away m));
            after = k.after;
          }

      pub passes_left : r.stop ≡ Escaped → (place : ℕ) → After s n q place
          → Passes s n v (hand first count) level p q i passes left at b e (record { stop = Ended; next = r.next; left = r.left; at = r.at; place = place })
      passes_left y place a =
          record {
            does =
                said _ u.does refl refl (omega arith) u.does.inside
                (λ ks out away m. renamed (pass_is ks out m) _ refl refl (λ p w. absurd (no_left w y))
                (onward_left _ _ r.left r.next.0 y
                ∙ ap (λ (x : Sequence). run v r.left x ks (afterwards out (hand first count r.next.0))) (rest_is a)));
            after = λ _. a;
          }

      pub passes_refused : (fault : Fault) → r.stop ≡ Refused fault → Passes s n v (hand first count) level p q i passes left at b e r
      passes_refused fault y =
          record {
            does =
                said r u.does refl refl (omega arith) u.does.inside
                (λ ks out away m. renamed (pass_is ks out m) r refl refl (λ p w. w) (onward_refused _ _ _ _ r.left r.next.0 fault y));
            after = λ e. absurd (no_end y e);
          }

-- a block that is refused as it begins
module _ (s : ℕ → List Level) (n : ℕ) (v : View) (first count level q : ℕ) (f : List Frame → Flow) (left at : ℕ) (b : List ℕ) where
  pub blocks_refused : (refusal : Refusal) (x i place : ℕ) → ((ks : List Frame) → f ks ≡ refused (code_of refusal) x left) → at ≤ length b → i ≤ count
      → Blocks s n v (hand first count) level q f left at b b (refused_ran refusal x i left at place)
  blocks_refused refusal x i place h l k =
      record {
        does = stays _ (λ ks _. here _ refl (h ks)) refl (omega arith) l k;
        after = λ e. absurd (no_end refl e);
      }

  -- a conditional that runs no clause
  pub blocks_nothing : (j place : ℕ) → ((ks : List Frame) → f ks ≡ run v left end (conditional (innermost (outer (s q))).rest ∷ ks) (hand first count j)) → After s n q place → at ≤ length b → j ≤ count
      → Blocks s n v (hand first count) level q f left at b b (record { stop = Ended; next = record { 0 = j }; left = left; at = at; place = place })
  blocks_nothing j place h a l k =
      record {
        does =
            stays _
            (λ ks _. here _ refl (h ks ∙ run_clause_end v (hand first count j) _ ks left ∙ ap (λ (x : Sequence). run v left x ks (hand first count j)) (rest_is a)))
            refl (omega arith) l k;
        after = λ _. a;
      }

  -- a conditional that runs the clause at z
  module _ (z j : ℕ) {e : List ℕ} {r : Ran} (h : (ks : List Frame) → f ks ≡ run v left (rest_at s z) (conditional (innermost (outer (s q))).rest ∷ ks) (hand first count j))
      (u : Runs s n v (hand first count) level z j left at b e r) where
    clause_is : (ks : List Frame) → length ks + (level + 1) ≡ deepest
        → Same (f ks) (λ l j. run v l end (conditional (innermost (outer (s q))).rest ∷ ks) (hand first count j)) (leaving v ks (hand first count)) at b e r
    clause_is ks m = from (h ks) (u.does.same (conditional (innermost (outer (s q))).rest ∷ ks) (omega arith))

    pub blocks_clause : r.stop ≡ Ended → (place : ℕ) → After s n q place
        → Blocks s n v (hand first count) level q f left at b e (record { stop = Ended; next = r.next; left = r.left; at = r.at; place = place })
    blocks_clause y place a =
        record {
          does =
              said _ u.does refl refl (omega arith) u.does.inside
              (λ ks m. renamed (clause_is ks m) _ refl refl (λ p w. absurd (no_end w y))
              (onward_ended _ _ r.left r.next.0 y ∙ run_clause_end v (hand first count r.next.0) _ ks r.left
              ∙ ap (λ (x : Sequence). run v r.left x ks (hand first count r.next.0)) (rest_is a)));
          after = λ _. a;
        }

    pub blocks_clause_left : r.stop ≡ Escaped → Blocks s n v (hand first count) level q f left at b e r
    blocks_clause_left y =
        record {
          does =
              said r u.does refl refl (omega arith) u.does.inside
              (λ ks m. renamed (clause_is ks m) r refl refl (λ p w. w) (onward_left _ _ r.left r.next.0 y ∙ sym (onward_left _ _ r.left r.next.0 y)));
          after = λ e. absurd (no_end_left y e);
        }

    pub blocks_clause_refused : (fault : Fault) → r.stop ≡ Refused fault → Blocks s n v (hand first count) level q f left at b e r
    blocks_clause_refused fault y =
        record {
          does =
              said r u.does refl refl (omega arith) u.does.inside
              (λ ks m. renamed (clause_is ks m) r refl refl (λ p w. w) (onward_refused _ _ _ _ r.left r.next.0 fault y));
          after = λ e. absurd (no_end y e);
        }

  -- an iteration over the arguments in hand
  pub blocks_same : (p j : ℕ) (passes : Setting) {e : List ℕ} {r : Ran}
      → ((ks : List Frame) → f ks ≡ run v left end (iteration p passes (rest_at s q) (innermost (outer (s q))).rest same_arguments ∷ ks) (hand first count j))
      → Passes s n v (hand first count) level p q j passes left at b e r → Blocks s n v (hand first count) level q f left at b e r
  blocks_same p j passes {e} {r} h u =
      record {
        does = said r u.does refl refl (omega arith) u.does.inside (λ ks m. from (h ks) (u.does.same ks same_arguments (leaving v ks (hand first count)) m));
        after = u.after;
      }

  -- an iteration over a list: the arguments in hand outside come back after it
  fixed : (on out : ℕ → ℕ → Flow) (j : ℕ) (o : Stop) (l i : ℕ) → onward (λ l _. on l j) (λ l _. out l j) o l i ≡ onward on out o l j
  fixed on out j Ended l i = refl
  fixed on out j Escaped l i = refl
  fixed on out j (Refused fault) l i = refl

  pub blocks_list : (p j first' count' : ℕ) (passes : Setting) {e : List ℕ} {r : Ran}
      → ((ks : List Frame) → f ks ≡ run v left end (iteration p passes (rest_at s q) (innermost (outer (s q))).rest (other (hand first count j)) ∷ ks) (hand first' count' 0))
      → Passes s n v (hand first' count') level p q 0 passes left at b e r → j ≤ count
      → Blocks s n v (hand first count) level q f left at b e (record { stop = r.stop; next = record { 0 = j }; left = r.left; at = r.at; place = r.place })
  blocks_list p j first' count' passes {e} {r} h u k =
      record {
        does =
            said _ u.does refl refl (omega arith) k
            (λ ks m. renamed (from (h ks) (u.does.same ks (other (hand first count j)) (λ l _. leaving v ks (hand first count) l j) m)) _ refl refl (λ p w. w)
            (fixed (λ l j₂. run v l (rest_at s r.place) ks (hand first count j₂)) (leaving v ks (hand first count)) j r.stop r.left r.next.0));
        after = u.after;
      }

-- what stands at the place of a conditional and of an iteration, as the runner of blocks takes it
module _ (s : ℕ → List Level) (v : View) (first count p x i left : ℕ) (d : Directive) (q : ℕ) where
  pub chooses_run : ChoosesAt s p x d q → (ks : List Frame)
      → run v left (rest_at s p) ks (hand first count i) ≡ nested v x left ks (λ _. begin x left (λ m. opening false s v (hand first count) x d q i m ks))
  chooses_run a ks =
      ap (λ (y : List Level). run v left (innermost y).rest ks (hand first count i)) a.is
      ∙ run_chooses v (hand first count i) x (innermost (outer (s q))).rest d (as_clauses false (s q)) ks left

  pub iterates_run : IteratesAt s p x d q → (ks : List Frame)
      → run v left (rest_at s p) ks (hand first count i) ≡ nested v x left ks (λ _. begin x left (λ m. opening true s v (hand first count) x d q i m ks))
  iterates_run a ks =
      ap (λ (y : List Level). run v left (innermost y).rest ks (hand first count i)) a.is
      ∙ run_iterates v (hand first count i) x (innermost (outer (s q))).rest d (rest_at s q) ks left

-- a block by another name of what it does
pub blocks_as : {s : ℕ → List Level} {n : ℕ} {v : View} {c : ℕ → Context} {level q : ℕ} (f g : List Frame → Flow) {left at : ℕ} {b e : List ℕ} {r : Ran}
    → ((ks : List Frame) → f ks ≡ g ks) → Blocks s n v c level q g left at b e r → Blocks s n v c level q f left at b e r
blocks_as f g {r = r} h u =
    record {
      does = said r u.does refl refl (omega arith) u.does.inside (λ ks m. from (h ks) (u.does.same ks m));
      after = u.after;
    }
