-- The clauses of a conditional, one after another, as the counting loop goes through them; and the conditional as an
-- element of its sequence. Assumes nothing.
use Prim.Native.Nat.{ℕ, ◌+◌, ◌*◌, ◌-◌, ◌≤◌}
use mathlib.Core.Path.{◌≡◌, refl, sym, ap, subst, ◌∙◌}
use mathlib.Core.Bool.{Bool, false}
use mathlib.Core.List.{List}
use native.Mathlib.Omega.{arith}
use lib.ListN.{length}
use Rattle.rules.specs.Directive.{item_at}
use Rattle.rules.specs.Text.{chooses, Clauses, clause, Level, innermost, outer, before, as_clauses, levels_at}
use Rattle.rules.specs.declared.ArgumentPosition.{ArgumentPosition}
use Rattle.rules.specs.declared.Bracket.TheVariants.{Conditional}
use Rattle.rules.specs.declared.Code.TheVariants.{Opens}
use Rattle.rules.specs.declared.Directive.{Directive}
use Rattle.rules.specs.declared.Item.TheVariants.{Written}
use Rattle.rules.proofs.TextLaws.{Within, next_inside, levels_written}
use Rattle.syntax.specs.declared.ends.ClauseEnd.TheVariants.{Last, Another}
use Rattle.vet_rules.specs.Plain.{Opener}
use Rattle.vet_rules.specs.Ways.{Way, leads, fails, Ways, ending, on_way, on_turn, on_ways, on_ends, meeting, with_none, has_fallback, start_of, way_of, ways_of}
use Rattle.vet_rules.specs.declared.Ends.{Ends}
use Rattle.vet_rules.specs.declared.Ends.TheVariants.{Nowhere, Equal, Unequal}
use Rattle.vet_rules.specs.Turns.{Turn, Goes, Stops}
use Rattle.vet_rules.specs.Worst.{most_piece}
use Rattle.vet_rules.proofs.Sizes.{EndsSized, none_sized}
use Rattle.vet_rules.proofs.Starts.{Started, start_turned}
use Rattle.vet.specs.Counting.{VettableAt, way_at, Onward, EndsIn, Walked, clauses_way, Through}
use Rattle.vet.proofs.EndsBy.{parted, sized_in, meet_sized}

-- the clauses of the block whose inside is at p
abbrev clauses_at : List ℕ → ℕ → Clauses
clauses_at t p = as_clauses false (levels_at t p)

-- The clauses before z are counted, with these ends; the one at z stands after a `~:;` or not
pub record Gathering (t kinds : List ℕ) (longest : ℕ) (d : Directive) (start z : ℕ) (colon : Bool) (e : Ends) : Type 0 where
  pub ways : ways_of kinds longest (clauses_at t d.after) start Nowhere
      ≡ ways_of kinds longest (as_clauses colon (levels_at t z)) start e
  pub last : has_fallback (clauses_at t d.after) ≡ has_fallback (as_clauses colon (levels_at t z))
  pub outside : outer (levels_at t z) ≡ outer (levels_at t d.after)
  pub least : d.after ≤ z
  pub size : EndsIn (length kinds) (most_piece * (z - d.after)) e
  pub vettable : VettableAt t z

pub gather_start : (t kinds : List ℕ) (longest : ℕ) (d : Directive) (start : ℕ) → VettableAt t d.after
    → Gathering t kinds longest d start d.after false Nowhere
gather_start t kinds longest d start k =
    record { ways = refl; last = refl; outside = refl; least = omega arith; size = tt; vettable = k }

ends_wider : (count few most : ℕ) (e : Ends) → few ≤ most → EndsIn count few e → EndsIn count most e
ends_wider count few most Nowhere h i = tt
ends_wider count few most (Equal n s) h i = (i.0, omega (arith, i.1))
ends_wider count few most Unequal h i = tt

module _ {t kinds : List ℕ} {longest : ℕ} {d : Directive} {start z : ℕ} {colon : Bool} {e : Ends}
    (g : Gathering t kinds longest d start z colon e) where
  -- the clause at z, and those behind it
  abbrev more : Clauses
  more = (innermost (levels_at t z)).more

  clause_met : (w : Way) → way_at t kinds longest z start 0 ≡ w
      → ways_of kinds longest (clauses_at t d.after) start Nowhere
      ≡ on_way w (λ n s. ways_of kinds longest more start (meeting e n s))
  unfolding ways_of
  clause_met w is =
      g.ways ∙ ap (λ (x : Way). on_way x (λ n s. ways_of kinds longest more start (meeting e n s))) is

  pub gather_fails : {code position : ℕ} → way_at t kinds longest z start 0 ≡ fails code position
      → (p : ℕ) (on : ℕ → ℕ → Way) → clauses_way t kinds longest d start p on ≡ fails code position
  gather_fails {code} {position} is p on =
      ap (λ (w : Ways). on_ways p (with_none d (has_fallback (clauses_at t d.after)) start) w on)
      (clause_met (fails code position) is)

  -- what the ways come to with this one
  gather_in : (stop next size : ℕ) → z ≤ stop → next ≤ length kinds → size ≤ most_piece * (stop - z)
      → EndsSized (length kinds) (most_piece * (stop - d.after)) (meeting e next size)
  gather_in stop next size l h s =
      meet_sized (length kinds) (most_piece * (stop - d.after)) e next size
      (ends_wider (length kinds) (most_piece * (z - d.after)) (most_piece * (stop - d.after)) e (omega (arith, g.least))
      g.size)
      h (omega (arith, g.least))

  -- with other words for the clauses behind it
  met : {next size : ℕ} {cs : Clauses} → way_at t kinds longest z start 0 ≡ leads next size → more ≡ cs
      → ways_of kinds longest (clauses_at t d.after) start Nowhere ≡ ways_of kinds longest cs start (meeting e next size)
  met {next} {size} is behind =
      clause_met (leads next size) is ∙ ap (λ (cs : Clauses). ways_of kinds longest cs start (meeting e next size)) behind

  last_by : {cs : Clauses} → more ≡ cs
      → has_fallback (clauses_at t d.after) ≡ has_fallback (clause colon (innermost (levels_at t z)).rest cs)
  last_by behind =
      g.last ∙ ap (λ (cs : Clauses). has_fallback (clause colon (innermost (levels_at t z)).rest cs)) behind

  module _ {next size q after : ℕ} where
    pub gather_on : {colon₂ : Bool} → Walked t kinds longest z start next size (Another q colon₂ after)
        → (f : Ends) → f ≡ meeting e next size → Gathering t kinds longest d start after colon₂ f
    unfolding has_fallback
    gather_on {colon₂} w f is = subst (Gathering t kinds longest d start after colon₂) (sym is) record {
      ways = met w.way w.ends.more;
      last = last_by w.ends.more;
      outside = w.ends.on ∙ g.outside;
      least = omega (arith, g.least, w.least, w.ends.least);
      size =
          sized_in (length kinds) (most_piece * (after - d.after)) (meeting e next size)
          (gather_in after next size (omega (arith, w.least, w.ends.least)) w.reached
          (omega (arith, w.small, w.least, w.ends.least)));
      vettable = w.vettable;
    }

    module _ (w : Walked t kinds longest z start next size (Last q after)) where
      all_met : ways_of kinds longest (clauses_at t d.after) start Nowhere ≡ ending (meeting e next size)
      unfolding ways_of
      all_met = met w.way w.ends.more

      last_is : has_fallback (clauses_at t d.after) ≡ colon
      unfolding has_fallback
      last_is = last_by w.ends.more

      abbrev most : ℕ
      most = most_piece * (after - d.after)

      pub gather_last : (f : Ends) → f ≡ with_none d colon start (meeting e next size)
          → Through t kinds longest d start f after
      gather_last f is = record {
        way = λ p on.
            ap (λ (b : Bool). on_ways p (with_none d b start) (ways_of kinds longest (clauses_at t d.after) start Nowhere) on)
            last_is
            ∙ ap (λ (v : Ways). on_ways p (with_none d colon start) v on) all_met
            ∙ ap (λ (x : Ends). on_ends p x on) (sym is);
        behind = record {
          is = w.ends.on ∙ g.outside;
          least = omega (arith, g.least, w.least, w.ends.least);
          most = w.ends.most;
        };
        within =
            subst (EndsIn (length kinds) most) (sym is)
            (sized_in (length kinds) most (with_none d colon start (meeting e next size))
            (none_sized (length kinds) most d colon start (meeting e next size)
            (gather_in after next size (omega (arith, w.least, w.ends.least)) w.reached
            (omega (arith, w.small, w.least, w.ends.least)))));
        vettable = w.vettable;
      }

-- the conditional d at p
module _ (t kinds : List ℕ) (longest p next : ℕ) (d : Directive) (e₀ : item_at t p ≡ Written d) (o : Opener d) where
  follows : (ℕ → ℕ → ℕ → Way)
  follows sum n s = way_of kinds longest (innermost (outer (levels_at t d.after))).rest n (sum + s)

  opens : levels_at t p ≡ before (chooses p d (clauses_at t d.after)) (outer (levels_at t d.after))
  opens = levels_written t p d e₀ (Opens Conditional) o.code

  block_way : (x : Turn) → start_of kinds longest d next ≡ x → (sum : ℕ)
      → way_at t kinds longest p next sum ≡ on_turn p x sum (λ start sum₂. clauses_way t kinds longest d start p (follows sum₂))
  unfolding way_of follows
  block_way x is sum =
      ap (λ (xs : List Level). way_of kinds longest (innermost xs).rest next sum) opens
      ∙ ap (λ (y : Turn). on_turn p y sum (λ start sum₂. clauses_way t kinds longest d start p (follows sum₂))) is

  pub block_stops : (code : ℕ) → start_of kinds longest d next ≡ Stops code
      → (sum : ℕ) → way_at t kinds longest p next sum ≡ fails code p
  block_stops code is = block_way (Stops code) is

  module _ (h : next ≤ length kinds) (start : ArgumentPosition) (size : ℕ) (is : start_of kinds longest d next ≡ Goes start size) where
    begun : Started (length kinds) (Goes start size)
    begun = subst (Started (length kinds)) is (start_turned kinds longest d next h o)

    pub start_inside : start.0 ≤ length kinds
    start_inside = begun.0

    -- an opener writes nothing
    on : (sum : ℕ) → way_at t kinds longest p next sum ≡ clauses_way t kinds longest d start.0 p (follows sum)
    on sum =
        let z : sum + size ≡ sum = omega (arith, begun.1) in
        block_way (Goes start size) is sum ∙ ap (λ (n : ℕ). clauses_way t kinds longest d start.0 p (follows n)) z

    pub block_fails : {code position : ℕ}
        → ((p : ℕ) (on : ℕ → ℕ → Way) → clauses_way t kinds longest d start.0 p on ≡ fails code position)
        → (sum : ℕ) → way_at t kinds longest p next sum ≡ fails code position
    block_fails c sum = on sum ∙ c p (follows sum)

    module _ (f : Ends) (q : ℕ) (c : Through t kinds longest d start.0 f q) where
      pub block_leads : (n : ArgumentPosition) (s : ℕ) → f ≡ Equal n s → Onward t kinds longest p next n.0 s q
      unfolding follows
      block_leads n s e =
          let i : EndsIn (length kinds) (most_piece * (q - d.after)) (Equal n s) = subst (EndsIn (length kinds) (most_piece * (q - d.after))) e c.within in
          record {
            way = λ sum.
                on sum ∙ c.way p (follows sum)
                ∙ ap (λ (x : Ends). on_ends p x (follows sum)) e
                ∙ ap (λ (ys : List Level). way_of kinds longest (innermost ys).rest n.0 (sum + s)) (sym c.behind.is);
            more =
                ap (λ (ys : List Level). (innermost ys).more) opens
                ∙ ap (λ (ys : List Level). (innermost ys).more) (sym c.behind.is);
            outside = ap outer opens ∙ ap outer (sym c.behind.is);
            ahead = omega (arith, place.above, c.behind.least);
            reaches = record {
              reached = i.0;
              small = omega (arith, place.above, c.behind.least, i.1);
              vettable = c.vettable;
            };
          }
        where
          place : Within (p + 1) (length t) d.after
          place = next_inside t p d e₀

      pub block_parts : ((n : ArgumentPosition) (s : ℕ) → f ≡ Equal n s → ⊥) → (sum : ℕ) → way_at t kinds longest p next sum ≡ fails 11 p
      block_parts o sum = on sum ∙ c.way p (follows sum) ∙ parted f p o (follows sum)
