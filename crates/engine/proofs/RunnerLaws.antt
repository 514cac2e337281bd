-- What the runners make of the answers that their parts give. Assumes nothing.
use Prim.Native.Nat.{ℕ, ◌+◌, ◌-◌, ◌<◌, ◌≤◌}
use mathlib.Core.Path.{◌≡◌, refl, sym, ap, subst, ◌∙◌}
use mathlib.Core.Bool.{Bool, true, false, cond}
use mathlib.Core.List.{List, [], ◌∷◌}
use native.Mathlib.Omega.{arith}
use denote.Enum.Declared.{tag_of}
use types.Run.{OneOf, miss}
use lib.ListN.{length}
use Rattle.rules.specs.Choice.{either}
use Rattle.rules.specs.Directive.{CodeRight, item_at}
use Rattle.rules.specs.Table.{View}
use Rattle.rules.specs.Text.{Level, innermost, outer, end, levels_at}
use Rattle.rules.specs.Working.{Context, none_remain}
use Rattle.rules.specs.Run.{Flow, refused, Frame, iteration, same_arguments, other, used_up, one_less, run}
use Rattle.rules.specs.declared.Bracket.TheVariants.{Conditional, Iteration}
use Rattle.rules.specs.declared.Code.{Code}
use Rattle.rules.specs.declared.Code.TheVariants.{Writes, Jump, Escape, Opens, Separator, Closes, Unknown}
use Rattle.rules.specs.declared.ArgumentPosition.{ArgumentPosition}
use Rattle.rules.specs.declared.Directive.{Directive}
use Rattle.rules.specs.declared.Item.{Item}
use Rattle.rules.specs.declared.Item.TheVariants.{Literal, Written}
use Rattle.rules.specs.Setting.{Setting}
use Rattle.rules.specs.Refusals.{code_of}
use Rattle.rules.specs.declared.refusal.Fault.{Fault}
use Rattle.rules.specs.declared.refusal.Refusal.{Refusal}
use Rattle.rules.specs.declared.refusal.Refusal.TheVariants.{BadBlock, StepLimit}
use Rattle.rules.proofs.TextLaws.{next_inside, stands}
use Rattle.syntax.specs.Ends.{AfterBlock}
use Rattle.parameters.specs.Settling.{hand_at}
use Rattle.parameters.specs.declared.arguments.Hand.{Hand}
use Rattle.actions.specs.declared.state.Ran.{Ran}
use Rattle.actions.specs.declared.state.Spot.{Spot}
use Rattle.actions.specs.declared.state.Stop.{Stop}
use Rattle.actions.specs.declared.state.Stop.TheVariants.{Ended, Escaped, Refused}
use Rattle.actions.specs.Ran.{refused_ran, ended_ran, begun, hand}
use Rattle.actions.proofs.Joining.{no_end_left}
use Rattle.actions.specs.contracts.state.Stop as stop_declared
use Rattle.running.specs.Runs.{EndsAt, EndsBlock, After, rest_at, Runs, Steps, Strides, Blocks, Passes, RunsClause, opening}
use Rattle.blocks.specs.Clauses.{InsideAt}
use Rattle.blocks.specs.Parts.{ends_sequence, opens_block, iterates, outside_of, OverIn}
use Rattle.std.specs.Prelude.{Ok}
use Rattle.stepping.specs.Stepping.{ActsAlone}
use Rattle.engine.specs.Runners.{LeavesPasses, spot_at}
use Rattle.running.proofs.Arms.{runs_end, steps_deep, steps_block_none, steps_block}
use Rattle.running.proofs.BlockArms.{chooses_run, iterates_run, blocks_refused, blocks_clause, blocks_clause_left, blocks_clause_refused, blocks_same, blocks_list, passes_over, passes_none, passes_on, passes_left, passes_refused}
use Rattle.running.proofs.Strides.{strides, strides_runs_on, strides_runs_left, strides_runs_refused}
use Rattle.running.proofs.Places.{iteration_at, conditional_at}

pub not_both : {b : Bool} → b ≡ true → b ≡ false → ⊥
not_both p q = let z : ◌≡◌ {A = ℕ} 0 1 = cc in omega arith

-- a literal byte stands inside the text
module _ (t : List ℕ) (p : ℕ) where
  pub literal_inside : {x : Item} {b : ℕ} → item_at t p ≡ x → x ≡ Literal b → p < length t
  literal_inside {x} {b} e q = stands t p (Literal b) (e ∙ q)

-- a run over any number of items that did not end, or at the end of which the sequence ends
pub sequence_stops : (s : ℕ → List Level) (n : ℕ) (v : View) (first count level p i left at : ℕ) (b : List ℕ) {e : List ℕ} {r : Ran}
    → Strides s n v (hand first count) level p i left at b e r → (r.stop ≡ Ended → rest_at s r.place ≡ end) → Runs s n v (hand first count) level p i left at b e r
sequence_stops s n v first count level p i left at b {e} {r} u h = by r.stop refl
  where
    ended_as : r.stop ≡ Ended → ended_ran r.next.0 r.left r.at r.place ≡ r
    ended_as q = ap (λ (x : Stop). record { stop = x; next = r.next; left = r.left; at = r.at; place = r.place }) (sym q)

    by : (x : Stop) → r.stop ≡ x → Runs s n v (hand first count) level p i left at b e r
    by Ended q =
        strides_runs_on s n v first count level p i left at b u q
        (subst (Runs s n v (hand first count) level r.place r.next.0 r.left r.at e e) (ended_as q)
        (runs_end s n v first count level r.place r.next.0 r.left r.at e (h q) (u.most q) (omega (arith, u.does.most, u.does.size)) u.does.inside))
    by Escaped q = strides_runs_left s n v first count level p i left at b u q
    by (Refused f) q = strides_runs_refused s n v first count level p i left at b u f q

-- an item at which the run stops
pub steps_stopped : (s : ℕ → List Level) (n : ℕ) (v : View) (first count level p i left at : ℕ) (b : List ℕ) {e : List ℕ} {r : Ran}
    → Steps s n v (hand first count) level p i left at b e r → (r.stop ≡ Ended → ⊥) → Runs s n v (hand first count) level p i left at b e r
steps_stopped s n v first count level p i left at b u h =
    sequence_stops s n v first count level p i left at b (strides s n v first count level p i left at b u) (λ q. absurd (h q))

-- what stands at a spot, by the spot's other name
pub refused_at_lem : {r : Ran} {x y : Spot} {refusal : Refusal} {i : ℕ} → r ≡ refused_ran refusal x.position i x.left x.at x.place → x ≡ y → r ≡ refused_ran refusal y.position i y.left y.at y.place
refused_at_lem {refusal = refusal} {i = i} e o = e ∙ ap (λ (z : Spot). refused_ran refusal z.position i z.left z.at z.place) o

pub written_inside : {x y : Spot} {n : ℕ} → x ≡ y → y.at ≤ n → x.at ≤ n
written_inside {n = n} o h = subst (λ (z : Spot). z.at ≤ n) (sym o) h

pub left_at : {x y : Spot} → x ≡ y → x.left ≡ y.left
left_at o = ap (λ (z : Spot). z.left) o

pub place_at : {t : List ℕ} {q : ℕ} {x y : Spot} → x ≡ y → InsideAt t q y.place → InsideAt t q x.place
place_at {t} {q} o h = subst (λ (z : Spot). InsideAt t q z.place) (sym o) h

pub acts_alone_lem : (c : Code) → CodeRight c → opens_block c ≡ false → ends_sequence c ≡ false → ActsAlone c
acts_alone_lem (Writes f) r o e = r
acts_alone_lem Jump r o e = tt
acts_alone_lem Escape r o e = tt
acts_alone_lem (Opens b) r o e = absurd (not_both refl o)
acts_alone_lem Separator r o e = absurd (not_both refl e)
acts_alone_lem (Closes b) r o e = absurd (not_both refl e)
acts_alone_lem Unknown r o e = absurd (not_both refl e)

module _ (t : List ℕ) (v : View) (first count level p i left at : ℕ) (b : List ℕ) (d : Directive) (e : item_at t p ≡ Written d) where
  abbrev StepsHere : List ℕ → Ran → Type 0
  StepsHere b₂ r = Steps (levels_at t) (length t) v (hand first count) level p i left at b b₂ r

  pub block_deep : (r : Ran) → opens_block d.code ≡ true → level ≡ 0 → r ≡ refused_ran BadBlock p i left at d.after → at ≤ length b → i ≤ count → StepsHere b r
  block_deep r o z q l k = subst (StepsHere b) (sym q) (by d.code refl o)
    where
      by : (c : Code) → d.code ≡ c → opens_block c ≡ true → StepsHere b (refused_ran BadBlock p i left at d.after)
      by (Writes f) w o = absurd (not_both o refl)
      by Jump w o = absurd (not_both o refl)
      by Escape w o = absurd (not_both o refl)
      by (Opens Conditional) w o = steps_deep (levels_at t) (length t) v first count level p i left at b p _ z (chooses_run (levels_at t) v first count p p i left d d.after (conditional_at t p d e w)) d.after l k
      by Separator w o = absurd (not_both o refl)
      by (Opens Iteration) w o = steps_deep (levels_at t) (length t) v first count level p i left at b p _ z (iterates_run (levels_at t) v first count p p i left d d.after (iteration_at t p d e w)) d.after l k
      by (Closes c) w o = absurd (not_both o refl)
      by Unknown w o = absurd (not_both o refl)

  pub block_none : (r : Ran) → opens_block d.code ≡ true → (level ≡ 0 → ⊥) → left ≡ 0 → r ≡ refused_ran StepLimit p i left at d.after → at ≤ length b → i ≤ count → StepsHere b r
  block_none r o lv z q l k = subst (StepsHere b) (sym q) (by d.code refl o)
    where
      by : (c : Code) → d.code ≡ c → opens_block c ≡ true → StepsHere b (refused_ran StepLimit p i left at d.after)
      by (Writes f) w o = absurd (not_both o refl)
      by Jump w o = absurd (not_both o refl)
      by Escape w o = absurd (not_both o refl)
      by (Opens Conditional) w o = steps_block_none (levels_at t) (length t) v first count level p i left at b p _ lv z (chooses_run (levels_at t) v first count p p i left d d.after (conditional_at t p d e w)) d.after l k
      by Separator w o = absurd (not_both o refl)
      by (Opens Iteration) w o = steps_block_none (levels_at t) (length t) v first count level p i left at b p _ lv z (iterates_run (levels_at t) v first count p p i left d d.after (iteration_at t p d e w)) d.after l k
      by (Closes c) w o = absurd (not_both o refl)
      by Unknown w o = absurd (not_both o refl)

  pub block_opens : (level ≡ 0 → ⊥) → (left ≡ 0 → ⊥) → {b₂ : List ℕ} {r : Ran} → opens_block d.code ≡ true → {spot : Spot} → spot ≡ begun (spot_at p d.after left at)
      → Blocks (levels_at t) (length t) v (hand first count) (level - 1) d.after (opening (iterates d.code) (levels_at t) v (hand first count) spot.position d d.after i spot.left) spot.left spot.at b b₂ r
      → StepsHere b₂ r
  block_opens lv z {b₂} {r} o q u =
      by d.code refl o (subst (λ (y : Spot). Blocks (levels_at t) (length t) v (hand first count) (level - 1) d.after (opening (iterates d.code) (levels_at t) v (hand first count) y.position d d.after i y.left) y.left y.at b b₂ r) q u)
    where
      by : (c : Code) → d.code ≡ c → opens_block c ≡ true
          → Blocks (levels_at t) (length t) v (hand first count) (level - 1) d.after (opening (iterates c) (levels_at t) v (hand first count) p d d.after i (left - 1)) (left - 1) at b b₂ r
          → StepsHere b₂ r
      by (Writes f) w o u = absurd (not_both o refl)
      by Jump w o u = absurd (not_both o refl)
      by Escape w o u = absurd (not_both o refl)
      by (Opens Conditional) w o u =
          steps_block (levels_at t) (length t) v first count level p i left at b p d.after (λ m ks. opening false (levels_at t) v (hand first count) p d d.after i m ks) lv z
          (chooses_run (levels_at t) v first count p p i left d d.after (conditional_at t p d e w)) (ap outer (conditional_at t p d e w).is) (omega (arith, (next_inside t p d e).above)) u
      by (Opens Iteration) w o u =
          steps_block (levels_at t) (length t) v first count level p i left at b p d.after (λ m ks. opening true (levels_at t) v (hand first count) p d d.after i m ks) lv z
          (iterates_run (levels_at t) v first count p p i left d d.after (iteration_at t p d e w)) (ap outer (iteration_at t p d e w).is) (omega (arith, (next_inside t p d e).above)) u
      by Separator w o u = absurd (not_both o refl)
      by (Closes y) w o u = absurd (not_both o refl)
      by Unknown w o u = absurd (not_both o refl)

-- a block that is refused, as it is told
pub blocks_told : (s : ℕ → List Level) (n : ℕ) (v : View) (first count level q : ℕ) (f : List Frame → Flow) (left at : ℕ) (b : List ℕ) (r : Ran) (refusal : Refusal) (x i place : ℕ)
    → r ≡ refused_ran refusal x i left at place → ((ks : List Frame) → f ks ≡ refused (code_of refusal) x left) → at ≤ length b → i ≤ count → Blocks s n v (hand first count) level q f left at b b r
blocks_told s n v first count level q f left at b r refusal x i place e h l k =
    subst (Blocks s n v (hand first count) level q f left at b b) (sym e) (blocks_refused s n v first count level q f left at b refusal x i place h l k)

-- the place after a block, as a run has it
pub closes_after : {t : List ℕ} {q place : ℕ} → AfterBlock t q place → After (levels_at t) (length t) q place
closes_after a = record { is = a.is; least = a.least; most = a.most }

-- where a sequence of the block whose inside is at q ends
pub ends_inside : {t : List ℕ} {q z p : ℕ} → InsideAt t q z → EndsAt (levels_at t) (length t) z p → InsideAt t q p
ends_inside h e = record { outside = e.around ∙ h.outside; least = omega (arith, h.least, e.least); most = e.most }

-- an iteration over the entries inner, after which the arguments in hand outside come back
pub over_blocks : (s : ℕ → List Level) (n : ℕ) (v : View) (t : List ℕ) (level p q : ℕ) (f : List Frame → Flow) (left atsign : ℕ) (b : List ℕ) (hand inner : Hand) (with_at : Bool) (i : ℕ) (first : ArgumentPosition) (passes : Setting)
    {e : List ℕ} {r : Ran} (o : ArgumentPosition) → OverIn t hand with_at i (Ok (record { hand = inner; first = first })) → o.0 ≡ cond with_at r.next.0 (i + 1)
    → ((ks : List Frame) → f ks ≡ run v left end (iteration p passes (rest_at s q) (innermost (outer (s q))).rest (outside_of with_at hand i) ∷ ks) (hand_at inner first.0))
    → Passes s n v (hand_at inner) level p q first.0 passes left atsign b e r
    → Blocks s n v (hand_at hand) level q f left atsign b e (record { stop = r.stop; next = o; left = r.left; at = r.at; place = r.place })
over_blocks s n v t level p q f left atsign b hand inner true i first passes {e} {r} o w k h u =
    let u₂ : Passes s n v (hand_at hand) level p q first.0 passes left atsign b e r = subst (λ (x : Hand). Passes s n v (hand_at x) level p q first.0 passes left atsign b e r) w.0 u in
    let h₂ : (ks : List Frame) → f ks ≡ run v left end (iteration p passes (rest_at s q) (innermost (outer (s q))).rest same_arguments ∷ ks) (hand_at hand first.0) =
    λ ks. h ks ∙ ap (λ (x : Hand). run v left end (iteration p passes (rest_at s q) (innermost (outer (s q))).rest same_arguments ∷ ks) (hand_at x first.0)) w.0 in
    subst (λ (x : ℕ). Blocks s n v (hand_at hand) level q f left atsign b e (record { stop = r.stop; next = record { 0 = x }; left = r.left; at = r.at; place = r.place })) (sym k)
    (blocks_same s n v hand.first.0 hand.count level q f left atsign b p first.0 passes h₂ u₂)
over_blocks s n v t level p q f left atsign b hand inner false i first passes {e} {r} o w k h u =
    let u₂ : Passes s n v (hand_at inner) level p q 0 passes left atsign b e r = subst (λ (x : ℕ). Passes s n v (hand_at inner) level p q x passes left atsign b e r) w.1.0 u in
    let h₂ : (ks : List Frame) → f ks ≡ run v left end (iteration p passes (rest_at s q) (innermost (outer (s q))).rest (other (hand_at hand (i + 1))) ∷ ks) (hand_at inner 0) =
    λ ks. h ks ∙ ap (λ (x : ℕ). run v left end (iteration p passes (rest_at s q) (innermost (outer (s q))).rest (other (hand_at hand (i + 1))) ∷ ks) (hand_at inner x)) w.1.0 in
    subst (λ (x : ℕ). Blocks s n v (hand_at hand) level q f left atsign b e (record { stop = r.stop; next = record { 0 = x }; left = r.left; at = r.at; place = r.place })) (sym k)
    (blocks_list s n v hand.first.0 hand.count level q f left atsign b p (i + 1) inner.first.0 inner.count passes h₂ u₂ (omega (arith, w.1.1)))

-- a clause whose sequence ended, after which the text goes on after the block
pub clause_ended : (s : ℕ → List Level) (n : ℕ) (v : View) (first count level q z i left at : ℕ) (b : List ℕ) {e : List ℕ} {r : Ran}
    → Runs s n v (hand first count) level z i left at b e r → r.stop ≡ Ended → (place : ℕ) → After s n q place
    → RunsClause s n v (hand first count) level q z i left at b e (record { stop = r.stop; next = r.next; left = r.left; at = r.at; place = place })
clause_ended s n v first count level q z i left at b {e} {r} u y place a =
    subst (λ (x : Stop). RunsClause s n v (hand first count) level q z i left at b e (record { stop = x; next = r.next; left = r.left; at = r.at; place = place })) (sym y)
    (record { is = λ g h. blocks_clause s n v first count level q g left at b z i h u y place a })

-- and one whose sequence did not end
pub clause_stopped : (s : ℕ → List Level) (n : ℕ) (v : View) (first count level q z i left at : ℕ) (b : List ℕ) {e : List ℕ} {r : Ran}
    → Runs s n v (hand first count) level z i left at b e r → (r.stop ≡ Ended → ⊥) → RunsClause s n v (hand first count) level q z i left at b e r
clause_stopped s n v first count level q z i left at b {e} {r} u f = by r.stop refl
  where
    by : (x : Stop) → r.stop ≡ x → RunsClause s n v (hand first count) level q z i left at b e r
    by Ended y = absurd (f y)
    by Escaped y = record { is = λ g h. blocks_clause_left s n v first count level q g left at b z i h u y }
    by (Refused fault) y = record { is = λ g h. blocks_clause_refused s n v first count level q g left at b z i h u fault y }

-- passes by another name of the spot where they begin
pub passes_from : {s : ℕ → List Level} {n : ℕ} {v : View} {c : ℕ → Context} {level q i : ℕ} {passes : Setting} {b e : List ℕ} {r : Ran} {x y : Spot} → x ≡ y
    → Passes s n v c level x.position q i passes x.left x.at b e r → Passes s n v c level y.position q i passes y.left y.at b e r
passes_from {s} {n} {v} {c} {level} {q} {i} {passes} {b} {e} {r} o u = subst (λ (z : Spot). Passes s n v c level z.position q i passes z.left z.at b e r) o u

module _ (s : ℕ → List Level) (n : ℕ) (v : View) (first count level q i : ℕ) (passes : Setting) (on : Spot) (b : List ℕ) where
  abbrev PassesHere : List ℕ → Ran → Type 0
  PassesHere e r = Passes s n v (hand first count) level on.position q i passes on.left on.at b e r

  -- they are over, and the text goes on after the block
  pub passes_over_told : {r : Ran} → either (none_remain (hand first count i)) (used_up passes) ≡ true → EndsBlock s n on q i r → on.at ≤ length b → i ≤ count → PassesHere b r
  passes_over_told {r} h w l k =
      subst (PassesHere b) (sym w.is) (passes_over s n v first count level on.position q i passes on.left on.at b h r.place w.after l k)

  module _ (h : either (none_remain (hand first count i)) (used_up passes) ≡ false) where
    -- no step is left for the next pass
    pub passes_none_told : {r : Ran} → r ≡ refused_ran StepLimit on.position i on.left on.at on.place → on.left ≡ 0 → on.at ≤ length b → i ≤ count → PassesHere b r
    passes_none_told e z l k =
        subst (PassesHere b) (sym e) (passes_none s n v first count level on.position q i passes on.left on.at b h z on.place l k)

    module _ (z : on.left ≡ 0 → ⊥) {begins : Spot} (o : begins ≡ begun on) {e : List ℕ} {r : Ran} (u : Runs s n v (hand first count) level q i begins.left begins.at b e r) where
      pass : Runs s n v (hand first count) level q i (on.left - 1) on.at b e r
      pass = subst (λ (y : Spot). Runs s n v (hand first count) level q i y.left y.at b e r) o u

      -- the next pass follows, with the passes left as they are told
      pub passes_on_told : {e' : List ℕ} {r' : Ran} {ps : Setting} {to : Spot} → r.stop ≡ Ended → ps ≡ one_less passes → to ≡ spot_at on.position r.place r.left r.at
          → Passes s n v (hand first count) level to.position q r.next.0 ps to.left to.at e e' r' → PassesHere e' r'
      passes_on_told {e'} {r'} y w x k =
          passes_on s n v first count level on.position q i passes on.left on.at b h z pass y
          (subst (λ (ps : Setting). Passes s n v (hand first count) level on.position q r.next.0 ps r.left r.at e e' r') w (passes_from x k))

      -- a pass that did not end
      pub passes_stopped : {o : Ran} → (r.stop ≡ Ended → ⊥) → LeavesPasses s n q r o → PassesHere e o
      passes_stopped {o} f w = by r.stop refl
        where
          by : (x : Stop) → r.stop ≡ x → PassesHere e o
          by Ended y = absurd (f y)
          by Escaped y =
              let m = w.left y in
              subst (PassesHere e) (sym m.is) (passes_left s n v first count level on.position q i passes on.left on.at b h z pass y o.place m.after)
          by (Refused fault) y =
              subst (PassesHere e) (sym (w.refused fault y)) (passes_refused s n v first count level on.position q i passes on.left on.at b h z pass fault y)

-- which stops are answered as they are
pub left_not_refused : {x : Stop} {f : Fault} → x ≡ Escaped → x ≡ Refused f → ⊥
left_not_refused q r = let z : ◌≡◌ {A = ℕ} 0 1 = cc in omega arith

pub not_left : (keys : List ℕ) (x : Stop) → keys ≡ 0 ∷ 2 ∷ [] → OneOf keys (tag_of stop_declared.the_type x) → x ≡ Escaped → ⊥
not_left keys Ended q o e = no_end_left e refl
not_left keys Escaped q o e = miss (0 ∷ 2 ∷ []) 1 tt (subst (λ (k : List ℕ). OneOf k 1) q o)
not_left keys (Refused f) q o e = left_not_refused e refl
