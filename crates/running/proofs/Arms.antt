-- What each arm of the runner of a sequence makes of what stands at its place. Assumes nothing.
use Prim.Native.Nat.{ℕ, ◌+◌, ◌-◌, ◌<◌, ◌≤◌}
use mathlib.Core.Path.{◌≡◌, refl, sym, ap, ◌∙◌}
use mathlib.Core.List.{List, [], ◌∷◌}
use native.Mathlib.Omega.{arith}
use borrow.Author.Tests.{le-leb, lt-leb}
use lib.ListN.{length, set}
use Rattle.rules.specs.Choice.{choose}
use Rattle.rules.specs.Act.{act_of}
use Rattle.rules.specs.Table.{View}
use Rattle.rules.specs.Text.{Sequence, end, Level, innermost, outer, deepest}
use Rattle.rules.specs.Working.{none_remain}
use Rattle.rules.specs.Run.{Flow, refused, begin, Frame, item_acts, nested, run}
use Rattle.rules.specs.declared.Item.{Item}
use Rattle.rules.specs.declared.Item.TheVariants.{Literal}
use Rattle.rules.specs.Refusals.{code_of}
use Rattle.rules.specs.declared.refusal.Refusal.{Refusal}
use Rattle.rules.specs.declared.refusal.Refusal.TheVariants.{BadBlock, StepLimit, NoRoom}
use Rattle.rules.proofs.RunLaws.{begin_yes, begin_no, choose_yes, choose_no, run_acts, run_escapes, nested_yes, nested_no}
use Rattle.actions.specs.declared.state.Stop.TheVariants.{Ended, Escaped}
use Rattle.actions.specs.declared.state.Ran.{Ran}
use Rattle.actions.specs.Ran.{refused_ran, gives, lacks, hand, Acts}
use Rattle.actions.proofs.Joining.{stays, here, said, from, no_end, no_end_left}
use Rattle.actions.proofs.Buffer.{put_byte, put_gives, put_lacks}
use Rattle.running.specs.Runs.{ActsAt, EscapesAt, rest_at, leaving, Runs, Steps, Blocks}

-- a literal byte, and one for which there is no room
module _ (v : View) (first count x byte i m at place : ℕ) (b : List ℕ) (k : i ≤ count) where
  pub literal_acts : at < length b
      → Acts v (hand first count i) x (Literal byte) m at b (set b at byte) (record { stop = Ended; next = record { 0 = i }; left = m; at = at + 1; place = place })
  unfolding act_of
  literal_acts h =
      let w = put_byte b at byte h in
      record {
        same = λ on out. gives (put_gives b (byte ∷ []) x m at _ w);
        size = w.size;
        rest = w.rest;
        least = omega arith;
        most = omega arith;
        falls = omega arith;
        inside = k;
      }

  pub literal_full : at ≤ length b → length b ≤ at → Acts v (hand first count i) x (Literal byte) m at b b (refused_ran NoRoom x i m at place)
  unfolding act_of
  literal_full l h = stays _ (λ on out. lacks refl (put_lacks b (byte ∷ []) x m at _ l (omega arith))) refl (omega arith) l k

module _ (s : ℕ → List Level) (n : ℕ) (v : View) (first count level p i left at : ℕ) (b : List ℕ) where
  -- a run by another name of the sequences at its place
  pub run_is : (ks : List Frame) {y : List Level} → s p ≡ y → run v left (rest_at s p) ks (hand first count i) ≡ run v left (innermost y).rest ks (hand first count i)
  run_is ks e = ap (λ (x : List Level). run v left (innermost x).rest ks (hand first count i)) e

  -- the end of the sequence
  pub runs_end : rest_at s p ≡ end → p ≤ n → at ≤ length b → i ≤ count
      → Runs s n v (hand first count) level p i left at b b (record { stop = Ended; next = record { 0 = i }; left = left; at = at; place = p })
  runs_end q h l k =
      record {
        does = stays _ (λ ks _. here _ refl (ap (λ (x : Sequence). run v left x ks (hand first count i)) q)) refl (omega arith) l k;
        ends = λ _. record { stop = q; around = refl; least = omega arith; most = h };
      }

  -- a directive that is refused before it is begun or as it begins
  pub steps_refused : (refusal : Refusal) (x left' place : ℕ) → ((ks : List Frame) → length ks + level ≡ deepest → run v left (rest_at s p) ks (hand first count i) ≡ refused (code_of refusal) x left') → left' ≤ left → at ≤ length b → i ≤ count
      → Steps s n v (hand first count) level p i left at b b (refused_ran refusal x i left' at place)
  steps_refused refusal x left' place q h l k =
      record {
        does = stays _ (λ ks m. here _ refl (q ks m)) refl h l k;
        around = λ e. absurd (no_end refl e);
        least = λ e. absurd (no_end refl e);
        most = λ e. absurd (no_end refl e);
      }

  -- a literal byte, a directive that writes or a jump
  acts_is : {x q : ℕ} {item : Item} → ActsAt s p x item q → (ks : List Frame)
      → run v left (rest_at s p) ks (hand first count i) ≡ begin x left (λ m. item_acts v x m item (hand first count i) (λ j. run v m (rest_at s q) ks (hand first count j)))
  acts_is {x} {q} {item} a ks = run_is ks a.is ∙ run_acts v (hand first count i) x (rest_at s q) item ks left

  pub steps_acts_none : {x q : ℕ} {item : Item} → ActsAt s p x item q → left ≡ 0 → (place : ℕ) → at ≤ length b → i ≤ count
      → Steps s n v (hand first count) level p i left at b b (refused_ran StepLimit x i left at place)
  steps_acts_none {x} a z place l k = steps_refused StepLimit x left place (λ ks _. acts_is a ks ∙ begin_no x left _ z) (omega arith) l k

  pub steps_acts : {x : ℕ} {item : Item} {e : List ℕ} {r : Ran} → ActsAt s p x item r.place → (left ≡ 0 → ⊥) → Acts v (hand first count i) x item (left - 1) at b e r → p < r.place → r.place ≤ n
      → Steps s n v (hand first count) level p i left at b e r
  steps_acts {x} {item} {e} {r} a z d h m =
      record {
        does =
            said r d refl refl (omega arith) d.inside
            (λ ks _. from (acts_is a ks ∙ begin_yes x left _ z) (d.same (λ l j. run v l (rest_at s r.place) ks (hand first count j)) (leaving v ks (hand first count))));
        around = λ _. sym (ap outer a.is);
        least = λ _. omega (arith, h);
        most = λ _. m;
      }

  -- `~^`: it ends the innermost iteration, or the whole format, where no argument remains
  pub steps_escape_none : {x q : ℕ} → EscapesAt s p x q → left ≡ 0 → (place : ℕ) → at ≤ length b → i ≤ count
      → Steps s n v (hand first count) level p i left at b b (refused_ran StepLimit x i left at place)
  steps_escape_none {x} {q} a z place l k =
      steps_refused StepLimit x left place (λ ks _. run_is ks a.is ∙ run_escapes v (hand first count i) x (rest_at s q) ks left ∙ begin_no x left _ z) (omega arith) l k

  escape_is : {x q : ℕ} → EscapesAt s p x q → (left ≡ 0 → ⊥) → (ks : List Frame)
      → run v left (rest_at s p) ks (hand first count i) ≡ choose (none_remain (hand first count i)) (λ _. leaving v ks (hand first count) (left - 1) i) (λ _. run v (left - 1) (rest_at s q) ks (hand first count i))
  escape_is {x} {q} a z ks = run_is ks a.is ∙ run_escapes v (hand first count i) x (rest_at s q) ks left ∙ begin_yes x left _ z

  pub steps_escape_left : {x q : ℕ} → EscapesAt s p x q → (left ≡ 0 → ⊥) → count ≤ i → (place : ℕ) → at ≤ length b → i ≤ count
      → Steps s n v (hand first count) level p i left at b b (record { stop = Escaped; next = record { 0 = i }; left = left - 1; at = at; place = place })
  steps_escape_left a z y place l k =
      record {
        does = stays _ (λ ks _. here _ refl (escape_is a z ks ∙ choose_yes _ _ (le-leb count i y))) refl (omega arith) l k;
        around = λ e. absurd (no_end_left refl e);
        least = λ e. absurd (no_end_left refl e);
        most = λ e. absurd (no_end_left refl e);
      }

  pub steps_escape_on : {x q : ℕ} → EscapesAt s p x q → (left ≡ 0 → ⊥) → i < count → p < q → q ≤ n → at ≤ length b → i ≤ count
      → Steps s n v (hand first count) level p i left at b b (record { stop = Ended; next = record { 0 = i }; left = left - 1; at = at; place = q })
  steps_escape_on a z y h m l k =
      record {
        does = stays _ (λ ks _. here _ refl (escape_is a z ks ∙ choose_no _ _ (lt-leb count i y))) refl (omega arith) l k;
        around = λ _. sym (ap outer a.is);
        least = λ _. omega (arith, h);
        most = λ _. m;
      }

  -- a block that has no level left for it, and one for which there is no step
  pub steps_deep : (x : ℕ) (f : ℕ → List Frame → Flow) → level ≡ 0
      → ((ks : List Frame) → run v left (rest_at s p) ks (hand first count i) ≡ nested v x left ks (λ _. begin x left (λ m. f m ks))) → (place : ℕ) → at ≤ length b → i ≤ count
      → Steps s n v (hand first count) level p i left at b b (refused_ran BadBlock x i left at place)
  steps_deep x f z w place l k =
      steps_refused BadBlock x left place (λ ks m. w ks ∙ nested_no v x left ks _ (omega arith)) (omega arith) l k

  pub steps_block_none : (x : ℕ) (f : ℕ → List Frame → Flow) → (level ≡ 0 → ⊥) → left ≡ 0
      → ((ks : List Frame) → run v left (rest_at s p) ks (hand first count i) ≡ nested v x left ks (λ _. begin x left (λ m. f m ks))) → (place : ℕ) → at ≤ length b → i ≤ count
      → Steps s n v (hand first count) level p i left at b b (refused_ran StepLimit x i left at place)
  steps_block_none x f lv z w place l k =
      steps_refused StepLimit x left place (λ ks m. w ks ∙ nested_yes v x left ks _ (omega arith) ∙ begin_no x left _ z) (omega arith) l k

  -- a block that is begun
  pub steps_block : (x q : ℕ) (f : ℕ → List Frame → Flow) {e : List ℕ} {r : Ran} → (level ≡ 0 → ⊥) → (left ≡ 0 → ⊥)
      → ((ks : List Frame) → run v left (rest_at s p) ks (hand first count i) ≡ nested v x left ks (λ _. begin x left (λ m. f m ks))) → outer (s p) ≡ outer (outer (s q)) → p < q
      → Blocks s n v (hand first count) (level - 1) q (f (left - 1)) (left - 1) at b e r → Steps s n v (hand first count) level p i left at b e r
  steps_block x q f {e} {r} lv z w o h u =
      let d = u.does in
      record {
        does =
            said r d refl refl (omega arith) d.inside
            (λ ks m. from (w ks ∙ nested_yes v x left ks _ (omega arith) ∙ begin_yes x left _ z) (d.same ks (omega arith)));
        around = λ y. ap outer (u.after y).is ∙ sym o;
        least = λ y. omega (arith, (u.after y).least);
        most = λ y. (u.after y).most;
      }
