-- Blocks that are opened, and blocks that an escape leaves. Assumes nothing.
use Prim.Native.Nat.{ℕ, ◌+◌, ◌-◌, ◌<◌, ◌≤◌}
use mathlib.Core.Path.{◌≡◌, refl, sym, ap, subst, ◌∙◌}
use mathlib.Core.Bool.{Bool, true, false, cond}
use mathlib.Core.List.{List, ◌∷◌}
use native.Mathlib.Omega.{arith}
use lib.ListN.{length}
use borrow.Author.Tests.{le-leb}
use Rattle.rules.specs.Directive.{item_at}
use Rattle.rules.specs.Choice.{either}
use Rattle.rules.specs.Working.{InPlace, InPlaces}
use Rattle.rules.specs.Rows.{any_number, row_of, places_in, well_written}
use Rattle.rules.specs.Flow.{Flow}
use Rattle.rules.specs.Table.{view_of, table_verdict}
use Rattle.rules.specs.Text.{Level, Sequence, end, innermost, outer, levels_at}
use Rattle.rules.specs.Run.{Frame, iteration, conditional, run, nested, begin}
use Rattle.rules.specs.declared.ArgumentPosition.{ArgumentPosition}
use Rattle.rules.specs.declared.Bracket.TheVariants.{Conditional as ConditionalBlock, Iteration}
use Rattle.rules.specs.declared.Code.{Code}
use Rattle.rules.specs.declared.Code.TheVariants.{Writes, Jump, Escape, Opens, Separator, Closes as ClosesBlock, Unknown}
use Rattle.rules.specs.declared.Directive.{Directive}
use Rattle.rules.specs.declared.Item.TheVariants.{Written}
use Rattle.rules.specs.Setting.{Setting}
use Rattle.std.specs.Prelude.{None, Some}
use Rattle.rules.specs.declared.Settings.{Settings}
use Rattle.rules.specs.declared.refusal.Refusal.{Refusal}
use Rattle.rules.specs.declared.refusal.Refusal.TheVariants.{BadBlock, BadParameter, StepLimit}
use Rattle.rules.specs.Verdict.{Accepted}
use Rattle.rules.proofs.RunLaws.{begin_yes, begin_no, nested_yes, nested_no, run_clause_end}
use Rattle.rules.proofs.Tests.{not_both_ways, true_both}
use Rattle.rules.proofs.TextLaws.{next_inside}
use Rattle.syntax.specs.Ends.{AfterBlock}
use Rattle.parameters.specs.Settling.{InHand, hand_at, SettlesDirective}
use Rattle.parameters.proofs.Answers.{run_settled, run_refused}
use Rattle.parameters.specs.declared.arguments.Hand.{Hand}
use Rattle.std.specs.Prelude.{Ok, Err}
use Rattle.rules.specs.declared.refusal.Refusal.{Refusal}
use Rattle.parameters.specs.declared.settling.SettledOut.{SettledOut}
use Rattle.actions.proofs.ActLaws.{settings_ill}
use Rattle.blocks.specs.Clauses.{Chooses}
use Rattle.blocks.specs.Parts.{opens_block, iterates, outside_of, OverIn, GoesOver}
use Rattle.blocks.specs.declared.clauses.Chosen.TheVariants.{At, Nothing}
use Rattle.blocks.proofs.PassLaws.{over_hand}
use Rattle.running.specs.Runs.{rest_at, leaving, picking, entering, inside, opening}
use Rattle.running.proofs.BlockArms.{chooses_run, iterates_run}
use Rattle.running.proofs.Places.{iteration_at, conditional_at}
use Rattle.nesting.specs.declared.moves.Here.{Here}
use Rattle.nesting.specs.declared.moves.Moved.{Moved}
use Rattle.nesting.specs.declared.nests.Block.{Block}
use Rattle.nesting.specs.declared.nests.Kind.{Kind}
use Rattle.nesting.specs.declared.nests.Kind.TheVariants.{Conditional}
use Rattle.nesting.specs.declared.nests.Nest.{Nest}
use Rattle.nesting.specs.Nest.{block_at, frame_of, frames_of, block_lies, Pushes, Fits, FitsPasses}
use Rattle.nesting.specs.Moves.{here_at, on_at, ended_at, refused_at, kind_of, told, comes, Sound, weight, Moves, Ready, after_block}
use Rattle.nesting.proofs.NestLaws.{fewer, frames_length, frames_top, lie_top}
use Rattle.nesting.proofs.MoveLaws.{hand_in, next_in, lies, moves_refused, moves_over, moves_as, moves_in, moves_out, closes_is, end_rest, clause_frame, loop_frame, fits, told_done}

-- the number of passes of an iteration can be written down
pub passes_fit : (d : Directive) (s : Settings) → iterates d.code ≡ true → InPlaces (places_in d) s → FitsPasses s.first
passes_fit d s h r = by d.code refl h
  where
    small : (x : Setting) → InPlace any_number x → FitsPasses x
    small None i = tt
    small (Some n) i = omega (arith, i.1)

    by : (c : Code) → d.code ≡ c → iterates c ≡ true → FitsPasses s.first
    by (Writes f) q h = absurd (not_both_ways h refl)
    by Jump q h = absurd (not_both_ways h refl)
    by Escape q h = absurd (not_both_ways h refl)
    by (Opens ConditionalBlock) q h = absurd (not_both_ways h refl)
    by (Opens Iteration) q h = small s.first (subst (λ (c : Code). InPlace (row_of c (either d.colon d.atsign)).places.first s.first) q r.first)
    by Separator q h = absurd (not_both_ways h refl)
    by (ClosesBlock b) q h = absurd (not_both_ways h refl)
    by Unknown q h = absurd (not_both_ways h refl)

-- the frame of an iteration, with `@` or not
frame_over : (s : ℕ → List Level) (atsign : Bool) (hand : Hand) (i : ℕ) (b : Block) → b.kind ≡ kind_of atsign → b.next.0 ≡ cond atsign i (i + 1) → b.hand ≡ hand
    → frame_of s b ≡ iteration b.place b.passes (rest_at s b.inside) (innermost (outer (s b.inside))).rest (outside_of atsign hand i)
frame_over s true hand i b k n h = rw k refl
frame_over s false hand i b k n h = rw (k, n, h) refl

module _ (t table : List ℕ) (h : Here) (o : Nest) (d : Directive) (y : Ready t table h o d) where
  abbrev ks : List Frame
  ks = frames_of (levels_at t) o o.depth

  pub ready_hand : InHand table h.hand
  ready_hand = hand_in table h.hand h.next.0 y.accepted y.sound.hand

  pub ready_next : h.next.0 ≤ h.hand.count
  ready_next = next_in table h.hand h.next.0 y.sound.hand

  -- where it is opened, with other arguments in hand
  stands : (place : ℕ) (hand : Hand) (next : ArgumentPosition) → place ≤ length t → InHand table hand → next.0 ≤ hand.count → Sound (length t) table (here_at place h.left hand next) o
  stands place hand next p i l =
      let s = y.sound in
      record { short = s.short; depth = s.depth; left = s.left; place = p; hand = lies table hand next.0 i l; blocks = s.blocks }

  block_lies_lem : (b : Block) → b.inside ≡ d.after → b.hand ≡ h.hand → b.next.0 ≤ h.hand.count → block_lies (length t) table b ≡ true
  block_lies_lem b q r n =
      true_both (le-leb b.inside (length t) (omega (arith, q, y.inside)))
      (lies table b.hand b.next.0 (subst (InHand table) (sym r) ready_hand) (omega (arith, ap (λ (x : Hand). x.count) r)))

  module _ (st : Settings) (i : ArgumentPosition) (l : i.0 ≤ h.hand.count) where
    abbrev enters : ℕ → Flow
    enters j = entering (levels_at t) (view_of table) (hand_at h.hand) h.place d d.after j h.left st i.0 ks

    pub iteration_wrong : {refusal : Refusal} {r : Moved} (j : ℕ) → GoesOver table h.hand d.atsign i.0 (Err refusal) → r ≡ refused_at refusal h.place h o → Moves t table (enters j) h.left (weight h o + 2) r
    iteration_wrong j g q = moves_refused t table q (g.is h.place h.left j d refl st (rest_at (levels_at t) d.after) (innermost (outer (levels_at t d.after))).rest (λ k x. run (view_of table) h.left end (k ∷ ks) x)) (omega arith)

    module _ {inner : Hand} {first : ArgumentPosition} (g : GoesOver table h.hand d.atsign i.0 (Ok (record { hand = inner; first = first }))) {kind : Kind} {next : ArgumentPosition} (k : kind ≡ kind_of d.atsign) (n : next.0 ≡ cond d.atsign i.0 (i.0 + 1)) where
      abbrev loop : Block
      loop = record { kind = kind; place = h.place; inside = d.after; passes = st.first; hand = h.hand; next = next }

      after_in : (atsign : Bool) → OverIn table h.hand atsign i.0 (Ok (record { hand = inner; first = first })) → next.0 ≡ cond atsign i.0 (i.0 + 1) → next.0 ≤ h.hand.count
      after_in true w e = omega (arith, e, l)
      after_in false w e = omega (arith, e, w.1.1)

      loop_lies : block_lies (length t) table loop ≡ true
      loop_lies = block_lies_lem loop refl refl (after_in d.atsign g.inside n)

      pub loop_fits : FitsPasses st.first → Fits loop
      loop_fits f = fits t table loop y.accepted y.sound.short loop_lies (omega (arith, y.sound.place, y.sound.short)) f

      pub iteration_on : {o' : Nest} {r : Moved} (j : ℕ) → Pushes o loop o' → r ≡ on_at (here_at (length t) h.left inner first) o'
          → Moves t table (enters j) h.left (weight h o + 2) r
      iteration_on {o'} {r} j u e =
          let w = over_hand table h.hand inner d.atsign i.0 first g.inside ready_hand l in
          moves_in t table {h = here_at (length t) h.left inner first} e u
          (g.is h.place h.left j d refl st (rest_at (levels_at t) d.after) (innermost (outer (levels_at t d.after))).rest (λ k x. run (view_of table) h.left end (k ∷ ks) x)
          ∙ ap (λ (z : Frame). run (view_of table) h.left end (z ∷ ks) (hand_at inner first.0)) (sym (frame_over (levels_at t) d.atsign h.hand i.0 loop k n refl))
          ∙ ap (λ (z : Sequence). run (view_of table) h.left z (frame_of (levels_at t) loop ∷ ks) (hand_at inner first.0)) (sym (end_rest t)))
          (omega arith) (stands (length t) inner first (omega arith) w.0 w.1) y.level loop_lies (omega arith)

    -- a conditional
    abbrev picks : ℕ → Flow
    picks j = picking (levels_at t) (view_of table) (hand_at h.hand) h.place d d.after j h.left st i.0 ks

    pub conditional_wrong : {refusal : Refusal} {r : Moved} (j : ℕ) → Chooses t table h.hand d st i.0 (Err refusal) → r ≡ refused_at refusal h.place h o → Moves t table (picks j) h.left (weight h o + 2) r
    conditional_wrong j g q = moves_refused t table q (g.is h.place h.left j (λ x after. run (view_of table) h.left x (conditional (innermost (outer (levels_at t d.after))).rest ∷ ks) (hand_at h.hand after))) (omega arith)

    pub conditional_none : {z place : ℕ} {next : ArgumentPosition} {r : Moved} (j : ℕ) → Chooses t table h.hand d st i.0 (Ok (Nothing z next)) → AfterBlock t d.after place
        → r ≡ on_at (here_at place h.left h.hand next) o → Moves t table (picks j) h.left (weight h o + 2) r
    conditional_none {z} {place} {next} {r} j g a e =
        let n = g.inside.1 in
        moves_out t table {h = here_at d.after h.left h.hand next} (closes_is e a)
        (g.is h.place h.left j (λ x after. run (view_of table) h.left x (conditional (innermost (outer (levels_at t d.after))).rest ∷ ks) (hand_at h.hand after)) ∙ run_clause_end (view_of table) (hand_at h.hand next.0) _ ks h.left)
        (omega arith) (stands d.after h.hand next y.inside ready_hand n) (lies table h.hand next.0 ready_hand n) (omega arith)

    module _ {z : ℕ} {next : ArgumentPosition} (g : Chooses t table h.hand d st i.0 (Ok (At z next))) where
      abbrev clause : Block
      clause = record { kind = Conditional; place = h.place; inside = d.after; passes = None; hand = h.hand; next = next }

      clause_lies : block_lies (length t) table clause ≡ true
      clause_lies = block_lies_lem clause refl refl g.inside.1

      pub clause_fits : Fits clause
      clause_fits = fits t table clause y.accepted y.sound.short clause_lies (omega (arith, y.sound.place, y.sound.short)) tt

      pub conditional_on : {o' : Nest} {r : Moved} (j : ℕ) → Pushes o clause o' → r ≡ on_at (here_at z h.left h.hand next) o'
          → Moves t table (picks j) h.left (weight h o + 2) r
      conditional_on {o'} {r} j u e =
          moves_in t table {h = here_at z h.left h.hand next} e u
          (g.is h.place h.left j (λ x after. run (view_of table) h.left x (conditional (innermost (outer (levels_at t d.after))).rest ∷ ks) (hand_at h.hand after)))
          (omega arith) (stands z h.hand next g.inside.0.most ready_hand g.inside.1) y.level clause_lies (omega arith)

  -- its parameters
  abbrev opens : Flow
  opens = opening (iterates d.code) (levels_at t) (view_of table) (hand_at h.hand) h.place d d.after h.next.0 h.left ks

  pub open_ill : {r : Moved} → well_written d ≡ false → r ≡ refused_at BadParameter h.place h o → Moves t table opens h.left (weight h o + 2) r
  open_ill w q = moves_refused t table q (settings_ill (view_of table) h.place h.left d (hand_at h.hand h.next.0) _ w) (omega arith)

  pub open_unsettled : {refusal : Refusal} {r : Moved} → well_written d ≡ true → SettlesDirective table h.hand d h.next.0 (Err refusal) → r ≡ refused_at refusal h.place h o → Moves t table opens h.left (weight h o + 2) r
  open_unsettled w g q =
      moves_refused t table q (run_refused g w h.place h.left _ refl) (omega arith)

  pub open_settled : {s : SettledOut} {r : Moved} (looped : Bool) → iterates d.code ≡ looped → well_written d ≡ true → SettlesDirective table h.hand d h.next.0 (Ok s)
      → Moves t table (inside looped (levels_at t) (view_of table) (hand_at h.hand) h.place d d.after h.next.0 h.left s.settings s.next.0 ks) h.left (weight h o + 2) r → Moves t table opens h.left (weight h o + 2) r
  open_settled {s} looped b w g m =
      moves_as t table
      (ap (λ (z : Bool). opening z (levels_at t) (view_of table) (hand_at h.hand) h.place d d.after h.next.0 h.left ks) b
      ∙ run_settled g w h.place h.left _ refl)
      (omega arith) (omega arith) m

-- a block that is met
module _ (t table : List ℕ) (h : Here) (o : Nest) (d : Directive) (e : item_at t h.place ≡ Written d) (b : opens_block d.code ≡ true) where
  abbrev met : ℕ → Flow
  met m = opening (iterates d.code) (levels_at t) (view_of table) (hand_at h.hand) h.place d d.after h.next.0 m (frames_of (levels_at t) o o.depth)

  meets : comes t table h o ≡ nested (view_of table) h.place h.left (frames_of (levels_at t) o o.depth) (λ _. begin h.place h.left (λ m. met m))
  meets = by d.code refl b
    where
      by : (c : Code) → d.code ≡ c → opens_block c ≡ true
          → comes t table h o ≡ nested (view_of table) h.place h.left (frames_of (levels_at t) o o.depth) (λ _. begin h.place h.left
          (λ m. opening (iterates c) (levels_at t) (view_of table) (hand_at h.hand) h.place d d.after h.next.0 m (frames_of (levels_at t) o o.depth)))
      by (Writes f) q k = absurd (not_both_ways k refl)
      by Jump q k = absurd (not_both_ways k refl)
      by Escape q k = absurd (not_both_ways k refl)
      by (Opens ConditionalBlock) q k = (chooses_run (levels_at t) (view_of table) h.hand.first.0 h.hand.count h.place h.place h.next.0 h.left d d.after (conditional_at t h.place d e q) (frames_of (levels_at t) o o.depth))
      by (Opens Iteration) q k = (iterates_run (levels_at t) (view_of table) h.hand.first.0 h.hand.count h.place h.place h.next.0 h.left d d.after (iteration_at t h.place d e q) (frames_of (levels_at t) o o.depth))
      by Separator q k = absurd (not_both_ways k refl)
      by (ClosesBlock c) q k = absurd (not_both_ways k refl)
      by Unknown q k = absurd (not_both_ways k refl)

  depth_is : length (frames_of (levels_at t) o o.depth) ≡ o.depth
  depth_is = frames_length (levels_at t) o o.depth

  pub met_deep : {r : Moved} → 8 ≤ o.depth → r ≡ refused_at BadBlock h.place h o → Moves t table (comes t table h o) h.left (weight h o) r
  met_deep l q = moves_refused t table q (meets ∙ nested_no (view_of table) h.place h.left (frames_of (levels_at t) o o.depth) _ (omega (arith, depth_is, l))) (omega arith)

  module _ (l : o.depth < 8) where
    meets_on : comes t table h o ≡ begin h.place h.left (λ m. met m)
    meets_on = meets ∙ nested_yes (view_of table) h.place h.left (frames_of (levels_at t) o o.depth) _ (omega (arith, depth_is, l))

    pub met_none : {r : Moved} → h.left ≡ 0 → r ≡ refused_at StepLimit h.place h o → Moves t table (comes t table h o) h.left (weight h o) r
    met_none z q = moves_refused t table q (meets_on ∙ begin_no h.place h.left _ z) (omega arith)

    module _ (z : h.left ≡ 0 → ⊥) where
      abbrev begun : Here
      begun = here_at h.place (h.left - 1) h.hand h.next

      pub met_ready : table_verdict table ≡ Accepted → Sound (length t) table h o → Ready t table begun o d
      met_ready a s =
          record {
            accepted = a;
            sound = record { short = s.short; depth = s.depth; left = omega (arith, s.left); place = s.place; hand = s.hand; blocks = s.blocks };
            level = l;
            inside = (next_inside t h.place d e).most;
          }

      pub met_on : {r : Moved} → Moves t table (met (h.left - 1)) (h.left - 1) (weight begun o + 2) r → Moves t table (comes t table h o) h.left (weight h o) r
      met_on {r} m = moves_as t table (meets_on ∙ begin_yes h.place h.left _ z) (omega arith) (omega arith) m

-- an escape: blocks are left from the innermost on
module _ (t table : List ℕ) (h : Here) where
  abbrev left_at : Nest → Flow
  left_at o = leaving (view_of table) (frames_of (levels_at t) o o.depth) (hand_at h.hand) h.left h.next.0

  pub record Leaving (first o : Nest) : Type 0 where
    pub same : left_at first ≡ left_at o
    pub sound : Sound (length t) table h o
    pub fewest : o.depth ≤ first.depth

  pub leaving_first : (o : Nest) → Sound (length t) table h o → Leaving o o
  leaving_first o s = record { same = refl; sound = s; fewest = omega arith }

  module _ {first o : Nest} (w : Leaving first o) where
    pub leaving_none : {k : Nest} {r : Moved} → o.depth ≡ 0 → r ≡ ended_at h k → Moves t table (left_at first) h.left (weight h first + 1) r
    unfolding frames_of
    leaving_none z q =
        moves_over t table q
        (ap told (w.same ∙ ap (λ (d : ℕ). leaving (view_of table) (frames_of (levels_at t) o d) (hand_at h.hand) h.left h.next.0) z) ∙ told_done h.left (h.hand.count - h.next.0))
        (omega arith)

    module _ (z : o.depth ≡ 0 → ⊥) {b : Block} {k : Nest} (q : b ≡ block_at o (o.depth - 1)) (u : k ≡ fewer o) where
      top_is : left_at o ≡ leaving (view_of table) (frame_of (levels_at t) b ∷ frames_of (levels_at t) k k.depth) (hand_at h.hand) h.left h.next.0
      top_is =
          ap (λ (x : List Frame). leaving (view_of table) x (hand_at h.hand) h.left h.next.0) (frames_top o z (levels_at t))
          ∙ ap (λ (x : Block). leaving (view_of table) (frame_of (levels_at t) x ∷ frames_of (levels_at t) (fewer o) (o.depth - 1)) (hand_at h.hand) h.left h.next.0) (sym q)
          ∙ ap (λ (x : Nest). leaving (view_of table) (frame_of (levels_at t) b ∷ frames_of (levels_at t) x x.depth) (hand_at h.hand) h.left h.next.0) (sym u)

      lighter : k.depth + 1 ≡ o.depth
      lighter = let d : k.depth ≡ o.depth - 1 = ap (λ (x : Nest). x.depth) u in omega (arith, d)

      pub leaving_clause : b.kind ≡ Conditional → Leaving first k
      leaving_clause y =
          let s = w.sound in
          record {
            same = w.same ∙ top_is ∙ ap (λ (x : Frame). leaving (view_of table) (x ∷ frames_of (levels_at t) k k.depth) (hand_at h.hand) h.left h.next.0) (clause_frame (levels_at t) b y);
            sound = subst (Sound (length t) table h) (sym u) (record { short = s.short; depth = omega (arith, s.depth); left = s.left; place = s.place; hand = s.hand; blocks = (lie_top o z (length t) table s.blocks).1 });
            fewest = omega (arith, lighter, w.fewest);
          }

      pub leaving_loop : {r : Moved} → (b.kind ≡ Conditional → ⊥) → Moves t table (after_block t table h b k) h.left (weight h k + 1) r → Moves t table (left_at first) h.left (weight h first + 1) r
      leaving_loop y m =
          moves_as t table
          (w.same ∙ top_is ∙ ap (λ (x : Frame). leaving (view_of table) (x ∷ frames_of (levels_at t) k k.depth) (hand_at h.hand) h.left h.next.0) (loop_frame (levels_at t) b y))
          (omega arith) (omega (arith, lighter, w.fewest)) m
