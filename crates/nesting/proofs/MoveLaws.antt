-- Moves: one that is over, one that goes on, and what each block makes of them. Assumes nothing.
use Prim.Native.Nat.{ℕ, ◌+◌, ◌-◌, ◌<◌, ◌≤◌}
use mathlib.Core.Path.{◌≡◌, refl, sym, ap, subst, ◌∙◌}
use mathlib.Core.Bool.{Bool, true, false}
use mathlib.Core.List.{List, ◌∷◌}
use native.Mathlib.Omega.{arith}
use lib.Dec.{leb}
use lib.ListN.{length}
use borrow.Author.Tests.{le-leb, leb-true}
use Rattle.rules.specs.Flow.{Flow, done, refused, given_text}
use Rattle.rules.specs.Table.{view_of, table_verdict, entry_count}
use Rattle.rules.specs.Text.{Level, Sequence, end, innermost, outer, levels_at}
use Rattle.rules.specs.Working.{Context, none_remain}
use Rattle.rules.specs.Choice.{either}
use Rattle.rules.specs.Run.{Frame, iteration, conditional, afterwards, used_up, one_less, begin, run}
use Rattle.rules.specs.declared.ArgumentPosition.{ArgumentPosition}
use Rattle.rules.specs.Setting.{Setting}
use Rattle.std.specs.Prelude.{Option, None, Some, Result, ⊤}
use Rattle.rules.specs.Refusals.{code_of}
use Rattle.rules.specs.declared.refusal.Fault.{Fault}
use Rattle.rules.specs.declared.refusal.Refusal.{Refusal}
use Rattle.rules.specs.declared.refusal.Refusal.TheVariants.{StepLimit}
use Rattle.rules.specs.Verdict.{Accepted}
use Rattle.rules.proofs.Reading.{item_end}
use Rattle.rules.proofs.RunLaws.{begin_yes, begin_no, run_done, run_clause_end, run_passes_over, run_pass}
use Rattle.syntax.specs.Ends.{AfterBlock}
use Rattle.rules.proofs.Tests.{both_true, true_both}
use Rattle.parameters.specs.Settling.{InHand, hand_at}
use Rattle.parameters.specs.declared.arguments.Hand.{Hand}
use Rattle.parameters.proofs.WorkLaws.{hand_small}
use Rattle.running.specs.Runs.{rest_at}
use Rattle.running.proofs.Places.{end_at}
use Rattle.nesting.specs.declared.moves.Here.{Here}
use Rattle.nesting.specs.declared.moves.Moved.{Moved}
use Rattle.nesting.specs.declared.nests.Block.{Block}
use Rattle.nesting.specs.declared.nests.Kind.{Kind}
use Rattle.nesting.specs.declared.nests.Kind.TheVariants.{Conditional, OverList, OverArguments}
use Rattle.nesting.specs.declared.nests.Nest.{Nest}
use Rattle.nesting.specs.Nest.{block_at, frame_of, frames_of, hand_lies, block_lies, Pushes, Fits, FitsPasses}
use Rattle.nesting.specs.Moves.{here_at, on_at, over_at, ended_at, refused_at, told, told_over, told_end, comes, Sound, weight, Moves, Closes, Passing, outside_by, ends_block, after_block}
use Rattle.nesting.proofs.NestLaws.{fewer, frames_pushed, lie_pushed, frames_top, lie_top}

over_on : {out : Result ⊤ Fault} → ◌≡◌ {A = Option (Result ⊤ Fault)} (Some out) None → ⊥
over_on e = let z : ◌≡◌ {A = ℕ} 0 1 = cc in omega arith

-- arguments that lie in an accepted table
module _ (table : List ℕ) (h : Hand) (next : ℕ) where
  pub hand_in : table_verdict table ≡ Accepted → hand_lies table h next ≡ true → InHand table h
  hand_in a l = record { accepted = a; within = leb-true _ _ (both_true _ (leb next h.count) l).0 }

  pub next_in : hand_lies table h next ≡ true → next ≤ h.count
  next_in l = leb-true _ _ (both_true (leb (h.first.0 + h.count) (entry_count table)) (leb next h.count) l).1

  pub lies : InHand table h → next ≤ h.count → hand_lies table h next ≡ true
  lies i l = true_both (le-leb _ _ i.within) (le-leb _ _ l)

-- a refusal, and the end of the run
pub told_refused : (code p left : ℕ) → told (refused code p left) ≡ told_over code p left
unfolding given_text
told_refused code p left = refl

pub told_done : (left over : ℕ) → told (done left over) ≡ told_over 0 0 left
unfolding given_text
told_done left over = refl

module _ (t table : List ℕ) {f : Flow} {left heavy : ℕ} where
  pub moves_over : {out : Result ⊤ Fault} {h : Here} {o : Nest} {r : Moved} → r ≡ over_at out h o → told f ≡ told_end out h.left → h.left ≤ left → Moves t table f left heavy r
  moves_over {out} {h} {o} {r} q e l =
      subst (Moves t table f left heavy) (sym q)
      (record { same = e; steps = l; sound = λ z. absurd (over_on z); falls = λ z. absurd (over_on z) })

  pub moves_refused : {refusal : Refusal} {p : ℕ} {h : Here} {o : Nest} {r : Moved} → r ≡ refused_at refusal p h o → f ≡ refused (code_of refusal) p h.left → h.left ≤ left → Moves t table f left heavy r
  moves_refused {refusal} {p} {h} q e l = moves_over q (ap told e ∙ told_refused (code_of refusal) p h.left) l

  pub moves_on : {h : Here} {o : Nest} {r : Moved} → r ≡ on_at h o → f ≡ comes t table h o → h.left ≤ left → Sound (length t) table h o
      → weight h o < heavy → Moves t table f left heavy r
  moves_on {h} {o} q e l s w =
      subst (Moves t table f left heavy) (sym q) (record { same = ap told e; steps = l; sound = λ _. s; falls = λ _. w })

  pub moves_as : {f' : Flow} {left' heavy' : ℕ} {r : Moved} → f ≡ f' → left' ≤ left → heavy' ≤ heavy → Moves t table f' left' heavy' r → Moves t table f left heavy r
  moves_as e l w m =
      record { same = ap told e ∙ m.same; steps = omega (arith, m.steps); sound = m.sound; falls = λ z. omega (arith, m.falls z) }

-- what stands at the end of the text
pub end_rest : (t : List ℕ) → rest_at (levels_at t) (length t) ≡ end
end_rest t = end_at t (length t) (item_end t (length t) (omega arith))

-- the frame of a block by its kind
pub clause_frame : (s : ℕ → List Level) (b : Block) → b.kind ≡ Conditional → frame_of s b ≡ conditional (innermost (outer (s b.inside))).rest
clause_frame s b q = rw q refl

pub loop_frame : (s : ℕ → List Level) (b : Block) → (b.kind ≡ Conditional → ⊥)
    → frame_of s b ≡ iteration b.place b.passes (rest_at s b.inside) (innermost (outer (s b.inside))).rest (outside_by b.kind b)
loop_frame s b h = by b.kind refl
  where
    by : (k : Kind) → b.kind ≡ k → frame_of s b ≡ iteration b.place b.passes (rest_at s b.inside) (innermost (outer (s b.inside))).rest (outside_by b.kind b)
    by Conditional q = absurd (h q)
    by OverList q = rw q refl
    by OverArguments q = rw q refl

-- a block is opened
module _ (t table : List ℕ) {f : Flow} {left heavy : ℕ} {h : Here} {o o' : Nest} {b : Block} {r : Moved} where
  pub moves_in : r ≡ on_at h o' → Pushes o b o'
      → f ≡ run (view_of table) h.left (rest_at (levels_at t) h.place) (frame_of (levels_at t) b ∷ frames_of (levels_at t) o o.depth) (hand_at h.hand h.next.0)
      → h.left ≤ left → Sound (length t) table h o → o.depth < 8 → block_lies (length t) table b ≡ true → weight h o + 1 < heavy → Moves t table f left heavy r
  moves_in q p e l s d y w =
      moves_on t table q
      (e ∙ ap (λ (ks : List Frame). run (view_of table) h.left (rest_at (levels_at t) h.place) ks (hand_at h.hand h.next.0)) (sym (frames_pushed p (levels_at t))))
      l
      (record {
        short = s.short;
        depth = omega (arith, p.depth);
        left = s.left;
        place = s.place;
        hand = s.hand;
        blocks = lie_pushed p (length t) table y s.blocks;
      })
      (omega (arith, p.depth, w))

-- a block is closed
module _ (t table : List ℕ) {f : Flow} {left heavy inside : ℕ} {h : Here} {hand : Hand} {next : ArgumentPosition} {o : Nest} {r : Moved} where
  pub moves_out : Closes t inside h.left hand next o r
      → f ≡ run (view_of table) h.left (innermost (outer (levels_at t inside))).rest (frames_of (levels_at t) o o.depth) (hand_at hand next.0)
      → h.left ≤ left → Sound (length t) table h o → hand_lies table hand next.0 ≡ true → weight h o < heavy → Moves t table f left heavy r
  moves_out c e l s y w =
      moves_on t table c.is
      (e ∙ ap (λ (x : List Level). run (view_of table) h.left (innermost x).rest (frames_of (levels_at t) o o.depth) (hand_at hand next.0)) (sym c.after))
      l
      (record { short = s.short; depth = s.depth; left = s.left; place = c.most; hand = y; blocks = s.blocks })
      w

-- the numbers of a block that is written down
module _ (t table : List ℕ) (b : Block) where
  pub fits : table_verdict table ≡ Accepted → length t ≤ 4096 → block_lies (length t) table b ≡ true → b.place ≤ 65535 → FitsPasses b.passes → Fits b
  fits a n l p q =
      let y = both_true (leb b.inside (length t)) (hand_lies table b.hand b.next.0) l in
      let i = leb-true b.inside (length t) y.0 in
      let c = next_in table b.hand b.next.0 y.1 in
      let z = hand_small (hand_in table b.hand b.next.0 a y.1) in
      record {
        place = p;
        inside = omega (arith, i, n);
        passes = q;
        first = omega (arith, z);
        count = omega (arith, z);
        next = omega (arith, z, c);
      }

-- after a block
pub closes_is : {t : List ℕ} {inside left place : ℕ} {hand : Hand} {next : ArgumentPosition} {o : Nest} {r : Moved} → r ≡ on_at (here_at place left hand next) o → AfterBlock t inside place
    → Closes t inside left hand next o r
closes_is {t} {inside} {left} {place} {hand} {next} {o} q a =
    subst (Closes t inside left hand next o) (sym q) (record { is = refl; after = a.is; most = a.most })

-- an iteration that is over: the arguments in hand after it
after_list : (b : Block) (c : Context) → b.kind ≡ OverList → afterwards (outside_by b.kind b) c ≡ hand_at b.hand b.next.0
after_list b c q = rw q refl

after_same : (b : Block) (c : Context) → (b.kind ≡ OverList → ⊥) → afterwards (outside_by b.kind b) c ≡ c
after_same b c h = by b.kind refl
  where
    by : (k : Kind) → b.kind ≡ k → afterwards (outside_by b.kind b) c ≡ c
    by OverList q = absurd (h q)
    by Conditional q = rw q refl
    by OverArguments q = rw q refl

module _ (t table : List ℕ) (h : Here) (b : Block) (o : Nest) (p : Passing t table h b o) where
  block_hand : hand_lies table b.hand b.next.0 ≡ true
  block_hand = (both_true (leb b.inside (length t)) (hand_lies table b.hand b.next.0) p.lies).1

  pub block_inside : b.inside ≤ length t
  block_inside = leb-true b.inside (length t) (both_true (leb b.inside (length t)) (hand_lies table b.hand b.next.0) p.lies).0

  pub closes_list : {r : Moved} → b.kind ≡ OverList → Closes t b.inside h.left b.hand b.next o r → Moves t table (after_block t table h b o) h.left (weight h o + 1) r
  closes_list q c =
      moves_out t table {h = h} c
      (ap (λ (x : Context). run (view_of table) h.left (innermost (outer (levels_at t b.inside))).rest (frames_of (levels_at t) o o.depth) x) (after_list b _ q))
      (omega arith) p.sound block_hand (omega arith)

  pub closes_same : {r : Moved} → (b.kind ≡ OverList → ⊥) → Closes t b.inside h.left h.hand h.next o r → Moves t table (after_block t table h b o) h.left (weight h o + 1) r
  closes_same q c =
      moves_out t table {h = h} c
      (ap (λ (x : Context). run (view_of table) h.left (innermost (outer (levels_at t b.inside))).rest (frames_of (levels_at t) o o.depth) x) (after_same b _ q))
      (omega arith) p.sound p.sound.hand (omega arith)

-- the end of a pass
module _ (t table : List ℕ) (h : Here) (b : Block) (o : Nest) (p : Passing t table h b o) where
  abbrev ends : Flow
  ends = ends_block t table h b o

  abbrev over? : Bool
  over? = either (none_remain (hand_at h.hand h.next.0)) (used_up b.passes)

  looped : ends ≡ run (view_of table) h.left end (iteration b.place b.passes (rest_at (levels_at t) b.inside) (innermost (outer (levels_at t b.inside))).rest (outside_by b.kind b) ∷ frames_of (levels_at t) o o.depth) (hand_at h.hand h.next.0)
  looped = ap (λ (k : Frame). run (view_of table) h.left end (k ∷ frames_of (levels_at t) o o.depth) (hand_at h.hand h.next.0)) (loop_frame (levels_at t) b p.loops)

  pub pass_over : {r : Moved} → over? ≡ true → Moves t table (after_block t table h b o) h.left (weight h o + 1) r → Moves t table ends h.left (weight h o + 1) r
  pass_over q m =
      moves_as t table (looped ∙ run_passes_over (view_of table) (hand_at h.hand h.next.0) b.place b.passes _ _ (outside_by b.kind b) _ h.left q) (omega arith) (omega arith) m

  module _ (q : over? ≡ false) where
    begins : ends ≡ begin b.place h.left (λ m. run (view_of table) m (rest_at (levels_at t) b.inside) (iteration b.place (one_less b.passes) (rest_at (levels_at t) b.inside) (innermost (outer (levels_at t b.inside))).rest (outside_by b.kind b) ∷ frames_of (levels_at t) o o.depth) (hand_at h.hand h.next.0))
    begins = looped ∙ run_pass (view_of table) (hand_at h.hand h.next.0) b.place b.passes _ _ (outside_by b.kind b) _ h.left q

    pub pass_none : {r : Moved} → h.left ≡ 0 → r ≡ refused_at StepLimit b.place h o → Moves t table ends h.left (weight h o + 1) r
    pass_none z e = moves_refused t table e (begins ∙ begin_no b.place h.left _ z) (omega arith)

    abbrev again : Setting → Block
    again passes = record { kind = b.kind; place = b.place; inside = b.inside; passes = passes; hand = b.hand; next = b.next }

    pub again_fits : (passes : Setting) → passes ≡ one_less b.passes → Fits (again passes)
    again_fits passes y =
        let f = p.fits in
        record { place = f.place; inside = f.inside; passes = rw y (fewer_passes b.passes f.passes); first = f.first; count = f.count; next = f.next }
      where
        fewer_passes : (x : Setting) → FitsPasses x → FitsPasses (one_less x)
        fewer_passes None z = tt
        fewer_passes (Some n) z = omega (arith, z)

    pub pass_again : (h.left ≡ 0 → ⊥) → {r : Moved} {passes : Setting} {o' : Nest} → passes ≡ one_less b.passes → Pushes o (again passes) o'
        → r ≡ on_at (here_at b.inside (h.left - 1) h.hand h.next) o' → Moves t table ends h.left (weight h o + 1) r
    pass_again z {r} {passes} {o'} y u e =
        moves_in t table {h = here_at b.inside (h.left - 1) h.hand h.next} e u
        (begins ∙ begin_yes b.place h.left _ z
        ∙ ap (λ (k : Setting). run (view_of table) (h.left - 1) (rest_at (levels_at t) b.inside) (iteration b.place k (rest_at (levels_at t) b.inside) (innermost (outer (levels_at t b.inside))).rest (outside_by b.kind b) ∷ frames_of (levels_at t) o o.depth) (hand_at h.hand h.next.0)) (sym y)
        ∙ ap (λ (k : Frame). run (view_of table) (h.left - 1) (rest_at (levels_at t) b.inside) (k ∷ frames_of (levels_at t) o o.depth) (hand_at h.hand h.next.0)) (sym (loop_frame (levels_at t) (again passes) p.loops)))
        (omega arith)
        (let s = p.sound in record { short = s.short; depth = s.depth; left = omega (arith, s.left); place = block_inside t table h b o p; hand = s.hand; blocks = s.blocks })
        p.level p.lies (omega arith)

-- the end of a sequence
module _ (t table : List ℕ) (h : Here) (o : Nest) where
  abbrev here : ℕ → Sequence → List Frame → Flow
  here left x ks = run (view_of table) left x ks (hand_at h.hand h.next.0)

  pub ends_run : {r : Moved} → rest_at (levels_at t) h.place ≡ end → o.depth ≡ 0 → r ≡ ended_at h o → Moves t table (comes t table h o) h.left (weight h o) r
  unfolding frames_of
  ends_run e z q =
      moves_over t table q
      (ap told (ap (λ (x : Sequence). here h.left x (frames_of (levels_at t) o o.depth)) e ∙ ap (λ (d : ℕ). here h.left end (frames_of (levels_at t) o d)) z ∙ run_done (view_of table) (hand_at h.hand h.next.0) h.left)
      ∙ told_done h.left (h.hand.count - h.next.0))
      (omega arith)

  module _ (s : Sound (length t) table h o) (z : o.depth ≡ 0 → ⊥) where
    pub top_lies : {b : Block} → b ≡ block_at o (o.depth - 1) → b.inside ≤ length t
    top_lies {b} q =
        leb-true b.inside (length t)
        (both_true (leb b.inside (length t)) (hand_lies table b.hand b.next.0) (ap (block_lies (length t) table) q ∙ (lie_top o z (length t) table s.blocks).0)).0

    pub passing : {b : Block} {k : Nest} → table_verdict table ≡ Accepted → b ≡ block_at o (o.depth - 1) → Fits b → k ≡ fewer o → (b.kind ≡ Conditional → ⊥) → Passing t table h b k
    passing {b} {k} a q f u l =
        subst (Passing t table h b) (sym u)
        (record {
          accepted = a;
          sound = record { short = s.short; depth = omega (arith, s.depth); left = s.left; place = s.place; hand = s.hand; blocks = (lie_top o z (length t) table s.blocks).1 };
          level = omega (arith, s.depth);
          loops = l;
          lies = ap (block_lies (length t) table) q ∙ (lie_top o z (length t) table s.blocks).0;
          fits = f;
        })

    module _ (e : rest_at (levels_at t) h.place ≡ end) {b : Block} {k : Nest} (q : b ≡ block_at o (o.depth - 1)) (u : k ≡ fewer o) where
      inside_top : comes t table h o ≡ ends_block t table h b k
      inside_top =
          ap (λ (x : Sequence). here h.left x (frames_of (levels_at t) o o.depth)) e
          ∙ ap (here h.left end) (frames_top o z (levels_at t))
          ∙ ap (λ (x : Block). here h.left end (frame_of (levels_at t) x ∷ frames_of (levels_at t) (fewer o) (o.depth - 1))) (sym q)
          ∙ ap (λ (x : Nest). here h.left end (frame_of (levels_at t) b ∷ frames_of (levels_at t) x x.depth)) (sym u)

      lighter : k.depth + 1 ≡ o.depth
      lighter = let d : k.depth ≡ o.depth - 1 = ap (λ (x : Nest). x.depth) u in omega (arith, d)

      pub ends_pass : {r : Moved} → Moves t table (ends_block t table h b k) h.left (weight h k + 1) r → Moves t table (comes t table h o) h.left (weight h o) r
      ends_pass m = moves_as t table inside_top (omega arith) (omega (arith, lighter)) m

      pub ends_clause : {r : Moved} → b.kind ≡ Conditional → Closes t b.inside h.left h.hand h.next k r → Moves t table (comes t table h o) h.left (weight h o) r
      ends_clause y c =
          moves_out t table {h = h} c
          (inside_top ∙ ap (λ (x : Frame). here h.left end (x ∷ frames_of (levels_at t) k k.depth)) (clause_frame (levels_at t) b y)
          ∙ run_clause_end (view_of table) (hand_at h.hand h.next.0) _ _ h.left)
          (omega arith)
          (subst (Sound (length t) table h) (sym u) (record { short = s.short; depth = omega (arith, s.depth); left = s.left; place = s.place; hand = s.hand; blocks = (lie_top o z (length t) table s.blocks).1 }))
          s.hand (omega (arith, lighter))
