-- What an item is to a count: a literal byte, a directive that writes, or the end of the sequence. Assumes nothing.
use Prim.Native.Nat.{ℕ, ◌+◌, ◌*◌, ◌-◌, ◌≤◌, ◌<◌}
use mathlib.Core.Path.{◌≡◌, refl, sym, ap, subst, ◌∙◌}
use mathlib.Core.List.{List, []}
use native.Mathlib.Omega.{arith}
use lib.ListN.{length}
use Rattle.rules.specs.Directive.{item_at}
use Rattle.rules.specs.Text.{acts, Level, innermost, outer, before, levels_at}
use Rattle.rules.specs.declared.ArgumentPosition.{ArgumentPosition}
use Rattle.rules.specs.declared.Bracket.{Bracket}
use Rattle.rules.specs.declared.Code.{Code}
use Rattle.rules.specs.declared.Code.TheVariants.{Writes, Jump, Escape, Opens, Separator, Closes, Unknown}
use Rattle.rules.specs.declared.Directive.{Directive}
use Rattle.rules.specs.declared.Form.{Form}
use Rattle.rules.specs.declared.Item.{Item}
use Rattle.rules.specs.declared.Item.TheVariants.{End, Literal, Written, BadNumber, Unfinished}
use Rattle.rules.proofs.TextLaws.{Within, next_inside, levels_end, levels_literal, levels_bad, levels_unfinished, levels_written}
use Rattle.syntax.specs.declared.ends.ClauseEnd.TheVariants.{Last, Another}
use Rattle.syntax.proofs.EndLaws.{Split, Finished, clause_start, clause_splits, clause_finishes, clause_stops}
use Rattle.vet_rules.specs.Turns.{argument, turn_of, Turn, Goes, Stops}
use Rattle.vet_rules.specs.Ways.{fails, on_turn, way_of}
use Rattle.vet_rules.proofs.Ordinary.{Ordinary}
use Rattle.vet_rules.specs.Worst.{most_piece}
use Rattle.vet_rules.proofs.Sizes.{Turned, item_turned}
use Rattle.vet_rules.proofs.TurnLaws.{turn_literal}
use Rattle.vet.specs.Counting.{VettableAt, way_at, Onward, AtEnd}
use Rattle.vet.proofs.VettablePlaces.{literal_vettable, next_vettable, vettable_writes, vettable_jump, vettable_escape, vettable_unknown}

module _ (t kinds : List ℕ) (longest p next : ℕ) where
  -- an item that acts, whatever its turn
  module _ (i : Item) (q : ℕ) (is : levels_at t p ≡ before (acts p i) (levels_at t q)) where
    acts_way : (x : Turn) → turn_of kinds longest i next ≡ x → (sum : ℕ)
        → way_at t kinds longest p next sum ≡ on_turn p x sum (λ a s. way_at t kinds longest q a s)
    unfolding way_of
    acts_way x e sum =
        ap (λ (xs : List Level). way_of kinds longest (innermost xs).rest next sum) is
        ∙ ap (λ (y : Turn). on_turn p y sum (λ a s. way_at t kinds longest q a s)) e

    acts_on : (after : ArgumentPosition) (size : ℕ) → turn_of kinds longest i next ≡ Goes after size
        → Turned (length kinds) (Goes after size) → p < q → VettableAt t q → Onward t kinds longest p next after.0 size q
    acts_on after size e b l k = record {
      way = acts_way (Goes after size) e;
      more = ap (λ (xs : List Level). (innermost xs).more) is;
      outside = ap outer is;
      ahead = l;
      reaches = record { reached = b.0; small = omega (arith, b.1, spread); vettable = k };
    }
      where
        spread : most_piece ≤ most_piece * (q - p)
        spread = omega arith

  module _ (k : VettableAt t p) (long : longest ≤ 4096) (h : next ≤ length kinds) where
    pub literal_is : (b : ℕ) → item_at t p ≡ Literal b → Onward t kinds longest p next next 1 (p + 1)
    literal_is b e =
        acts_on (Literal b) (p + 1) (levels_literal t p b e) (argument next) 1 (turn_literal kinds longest b next)
        (h, omega arith) (omega arith) (literal_vettable k b e)

    module _ (d : Directive) (e : item_at t p ≡ Written d) where
      place : Within (p + 1) (length t) d.after
      place = next_inside t p d e

      behind : Within p (length t) d.after
      behind = record { above = omega (arith, place.above); most = place.most }

      module _ (f : Form) (c : d.code ≡ Writes f) where
        pub writes_on : (after : ArgumentPosition) (size : ℕ) → Goes after size ≡ turn_of kinds longest (Written d) next
            → Onward t kinds longest p next after.0 size d.after
        writes_on after size by =
            let o : Ordinary (Written d) = vettable_writes k d e f c in
            acts_on (Written d) d.after (levels_written t p d e (Writes f) c) after size (sym by)
            (subst (Turned (length kinds)) (sym by) (item_turned kinds longest long (Written d) o next h))
            (omega (arith, place.above)) (next_vettable k d e)

        pub writes_fails : (code : ℕ) → Stops code ≡ turn_of kinds longest (Written d) next
            → (sum : ℕ) → way_at t kinds longest p next sum ≡ fails code p
        writes_fails code by = acts_way (Written d) d.after (levels_written t p d e (Writes f) c) (Stops code) (sym by)

      pub separator_is : d.code ≡ Separator → AtEnd t p (Another p d.colon d.after)
      separator_is c =
          let is = levels_written t p d e Separator c in
          let s : Split t p d.colon d.after = record { is = is; place = behind } in
          record {
            rest = ap (λ (xs : List Level). (innermost xs).rest) is;
            ends = clause_splits (clause_start t p k.inside) refl s;
            here = refl;
            vettable = next_vettable k d e;
          }

      -- the codes beside those that write, open and part
      pub closer_is : (c : Code) → d.code ≡ c → ((f : Form) → c ≡ Writes f → ⊥) → ((b : Bracket) → c ≡ Opens b → ⊥)
          → (c ≡ Separator → ⊥) → AtEnd t p (Last p d.after)
      closer_is (Writes f) c w o s = absurd (w f refl)
      closer_is Jump c w o s = absurd (vettable_jump k d e c)
      closer_is Escape c w o s = absurd (vettable_escape k d e c)
      closer_is (Opens b) c w o s = absurd (o b refl)
      closer_is Separator c w o s = absurd (s refl)
      closer_is (Closes b) c w o s =
          let is = levels_written t p d e (Closes b) c in
          let split : Finished t p d.after = record { is = is; place = behind } in
          record {
            rest = ap (λ (xs : List Level). (innermost xs).rest) is;
            ends = clause_finishes (clause_start t p k.inside) refl split;
            here = refl;
            vettable = next_vettable k d e;
          }
      closer_is Unknown c w o s = absurd (vettable_unknown k d e c)

    nothing_is : levels_at t p ≡ [] → AtEnd t p (Last p p)
    nothing_is is = record {
      rest = ap (λ (xs : List Level). (innermost xs).rest) is;
      ends = clause_stops (clause_start t p k.inside) is;
      here = refl;
      vettable = k;
    }

    -- the items beside literal bytes and directives
    pub end_is : (i : Item) → item_at t p ≡ i → ((b : ℕ) → i ≡ Literal b → ⊥) → ((d : Directive) → i ≡ Written d → ⊥)
        → AtEnd t p (Last p p)
    end_is End e l w = nothing_is (levels_end t p e)
    end_is (Literal b) e l w = absurd (l b refl)
    end_is (Written d) e l w = absurd (w d refl)
    end_is BadNumber e l w = nothing_is (levels_bad t p e)
    end_is Unfinished e l w = nothing_is (levels_unfinished t p e)
