-- Some entries give values at which a plain text has exactly the count of its vet. Assumes nothing.
use Prim.Native.Nat.{ℕ, suc, ◌+◌, ◌-◌, ◌≤◌, ◌<◌}
use mathlib.Core.Path.{◌≡◌, refl, ap, ◌∙◌, subst, subst⁻¹}
use mathlib.Core.Logic.{inl, inr}
use mathlib.Core.Bool.{Bool, true, false, cond}
use mathlib.Core.List.{List, [], ◌∷◌}
use native.Mathlib.Decide.{ℕ_discrete as dec_eq}
use native.Mathlib.Omega.{arith}
use lib.Dec.{eqb}
use lib.ListN.{length, length-append}
use borrow.Author.Tests.{ne_eqb, eq-eqb}
use Rattle.rules.specs.Act.{Act, writes, shows, moves, refuses}
use Rattle.rules.specs.Table.{Value, Entry, value_of, View}
use Rattle.rules.specs.Text.{Token}
use Rattle.rules.specs.Piece.{is_one, text_of, kind_of}
use Rattle.rules.specs.Rows.{form_row, accepts}
use Rattle.rules.specs.Flow.{Flow, done, refused, put, given_text}
use Rattle.rules.specs.Run.{joined}
use Rattle.rules.specs.declared.Directive.{Directive}
use Rattle.rules.specs.declared.Form.{Form}
use Rattle.rules.specs.declared.Origin.TheVariants.{NextOrBack}
use Rattle.rules.specs.declared.Settings.{Settings}
use Rattle.vet_rules.specs.Turns.{Goes, Stops, argument, kind_in, turn_by, turn_of}
use Rattle.vet_rules.specs.Vet.{Vetted}
use Rattle.vet_rules.specs.Use.{use_of}
use Rattle.vet_rules.specs.Worst.{worst}
use Rattle.vet_rules.proofs.PlainVet.{on_turn, vet_from}
use Rattle.vet_rules.proofs.Choices.{marks, an_entry, Chosen, any}
use Rattle.vet_rules.proofs.Forms.{piece_reached, again_fills}
use Rattle.vet_rules.proofs.Ordinary.{AllOrdinary}
use Rattle.vet_rules.proofs.PlainRun.{value_in, flow_from}
use Rattle.vet_rules.proofs.Settling.{Ranged}
use Rattle.vet_rules.proofs.Uses.{Shown, Within, use_within}

module _ (kinds : List ℕ) (longest : ℕ) (hc : length kinds ≤ 1024) (hl : longest ≤ 4096)
    (tags : (i : ℕ) → i < length kinds → kind_in kinds i ≤ 4) where
  abbrev count : ℕ
  count = length kinds

  -- values that the entries e give to the arguments from `next` on, and that are no 1 just before
  pub record Meets (next : ℕ) (e : ℕ → Entry) (v : View) : Type 0 where
    pub from : (i : ℕ) → next ≤ i → i < count → value_in v count i ≡ value_of (marks longest) (e i)
    pub last : (i : ℕ) → suc i ≡ next → is_one (value_in v count i) ≡ false
    pub kind_agrees : (i : ℕ) → i < count → kind_of (value_in v count i) ≡ kind_in kinds i

  -- a flow that fills the count of an answer of code 0, `sum` bytes being before it
  abbrev Full : Flow → Vetted → ℕ → Type 0
  Full flow r sum = r.code ≡ 0 → sum + length (given_text flow) ≡ r.count

  -- some entries fill a flow, whatever else there is in the view
  pub record Filling (next : ℕ) (flow : View → ℕ → Flow) (answer : ℕ → Vetted) : Type 0 where
    pub entry : ℕ → Entry
    pub chosen : (i : ℕ) → i < count → Chosen count longest (kind_in kinds i) (entry i)
    pub full : (v : View) → Meets next entry v → (n sum : ℕ) → Full (flow v n) (answer sum) sum

  full_piece : (p m : ℕ) (text : List ℕ) (flow : Flow) (r : Vetted) (sum most : ℕ) → length text ≡ most
      → Full flow r (sum + most) → Full (put p m text flow) r sum
  unfolding given_text
  full_piece p m text flow r sum most e h z = omega (arith, h z, length-append text (given_text flow))

  -- where the answer is a refusal, any entries will do
  filling_none : (next : ℕ) (flow : View → ℕ → Flow) (answer : ℕ → Vetted)
      → ((v : View) (n sum : ℕ) → Full (flow v n) (answer sum) sum) → Filling next flow answer
  filling_none next flow answer h = record {
    entry = λ i. an_entry count (kind_in kinds i);
    chosen = λ i b. any count longest hc hl (kind_in kinds i) (tags i b);
    full = λ v m n sum. h v n sum;
  }

  seven : ◌≡◌ {A = ℕ} 7 0 → ⊥
  seven e = omega arith

  module _ (p : ℕ) (f : Form) (d : Directive) (s : Settings) (on : View → ℕ → ℕ → Flow) (rest : ℕ → ℕ → Vetted) where
    abbrev text : View → ℕ → List ℕ
    text v i = text_of f d.colon d.atsign s (value_in v count i)

    abbrev most : ℕ → ℕ
    most i = worst longest f d.colon d.atsign s (kind_in kinds i)

    abbrev flow_at : ℕ → ℕ → View → ℕ → Flow
    flow_at i after v n = joined (value_in v count) p (n - 1) (shows f d s i after) (on v (n - 1))

    abbrev answer_at : ℕ → ℕ → Bool → ℕ → Vetted
    answer_at i after b sum = on_turn p (cond b (Goes (argument after) (most i)) (Stops 7)) sum rest

    -- the next argument, whose entry is chosen here
    filling_next : (next : ℕ) → next < count → Ranged f s → Filling (suc next) (λ v n. on v n (suc next)) (rest (suc next))
        → (b : Bool) → accepts f (kind_in kinds next) ≡ b
        → Filling next (flow_at next (suc next)) (answer_at next (suc next) b)
    filling_next next h q more true t =
        let r = piece_reached count longest hc hl f d.colon d.atsign s (kind_in kinds next) q (tags next h) t in
        record {
          entry = λ i. cond (eqb i next) r.0 (more.entry i);
          chosen =
              λ i hi. elim (dec_eq i next)
              [ yes e ↦ rw (eq-eqb i next e, e) r.1 | no e ↦ rw (ne_eqb i next e) (more.chosen i hi) ];
          full = λ v m n sum.
              let x : value_in v count next ≡ value_of (marks longest) r.0 = m.from next (omega arith) h ∙ rw (eq-eqb next next refl) in
              let g : Meets (suc next) more.entry v = record {
                from = λ i a hi. m.from i (omega arith) hi ∙ rw (ne_eqb i next (omega arith));
                last = λ i e. (let z : i ≡ next = omega arith in rw (z, x) r.1.other);
                kind_agrees = m.kind_agrees;
              } in
              rw (m.kind_agrees next h, t)
              (full_piece p (n - 1) (text v next) (on v (n - 1) (suc next)) (rest (suc next) (sum + most next)) sum (most next)
              (ap (λ (y : Value). length (text_of f d.colon d.atsign s y)) x ∙ r.2)
              (more.full v g (n - 1) (sum + most next)));
        }
    filling_next next h q more false t =
        filling_none next (flow_at next (suc next)) (answer_at next (suc next) false) (λ v n sum z. absurd (seven z))

    -- the argument before, shown again: it is no 1
    filling_again : (i next : ℕ) → i < count → suc i ≡ next → Ranged f s → (form_row f).origin ≡ NextOrBack
        → Filling next (λ v n. on v n next) (rest next)
        → (b : Bool) → accepts f (kind_in kinds i) ≡ b
        → Filling next (flow_at i next) (answer_at i next b)
    filling_again i next h e q o more true t = record {
      entry = more.entry;
      chosen = more.chosen;
      full = λ v m n sum.
          rw (m.kind_agrees i h, t)
          (full_piece p (n - 1) (text v i) (on v (n - 1) next) (rest next (sum + most i)) sum (most i)
          (again_fills longest hl f d.colon d.atsign s q (kind_in kinds i) (tags i h) o t (value_in v count i) (m.last i e))
          (more.full v m (n - 1) (sum + most i)));
    }
    filling_again i next h e q o more false t =
        filling_none next (flow_at i next) (answer_at i next false) (λ v n sum z. absurd (seven z))

  filling_shown : (p : ℕ) (f : Form) (d : Directive) (s : Settings) (on : View → ℕ → ℕ → Flow) (rest : ℕ → ℕ → Vetted) (i next after : ℕ)
      → Shown count next f s i after
      → ((j : ℕ) → Filling j (λ v n. on v n j) (rest j))
      → Filling next (flow_at p f d s on rest i after) (answer_at p f d s on rest i after (accepts f (kind_in kinds i)))
  filling_shown p f d s on rest i next after w more =
      elim w.how [
        | inl e ↦
            let g : next < count = subst (λ (x : ℕ). x < count) e.0 w.inside in
            subst⁻¹
            (λ (x : ℕ). Filling next (flow_at p f d s on rest x after) (answer_at p f d s on rest x after (accepts f (kind_in kinds x))))
            e.0
            (subst⁻¹ (λ (x : ℕ). Filling next (flow_at p f d s on rest next x) (answer_at p f d s on rest next x (accepts f (kind_in kinds next)))) e.1
            (filling_next p f d s on rest next g w.ranged (more (suc next)) (accepts f (kind_in kinds next)) refl))
        | inr e ↦
            subst⁻¹ (λ (x : ℕ). Filling next (flow_at p f d s on rest i x) (answer_at p f d s on rest i x (accepts f (kind_in kinds i)))) e.2
            (filling_again p f d s on rest i next w.inside e.1 w.ranged e.0 (more next) (accepts f (kind_in kinds i)) refl)
      ]

  filling_use : (p : ℕ) (u : Act) (next : ℕ) (on : View → ℕ → ℕ → Flow) (rest : ℕ → ℕ → Vetted) → Within count next u
      → ((j : ℕ) → Filling j (λ v n. on v n j) (rest j))
      → Filling next (λ v n. joined (value_in v count) p (n - 1) u (on v (n - 1))) (λ sum. on_turn p (turn_by kinds longest u) sum rest)
  filling_use p (writes w after) next on rest e more =
      subst⁻¹ (λ (x : ℕ). Filling next (λ v n. put p (n - 1) w (on v (n - 1) x)) (λ sum. rest x (sum + length w))) e.0
      (record {
        entry = (more next).entry;
        chosen = (more next).chosen;
        full = λ v m n sum.
            full_piece p (n - 1) w (on v (n - 1) next) (rest next (sum + length w)) sum (length w) refl
            ((more next).full v m (n - 1) (sum + length w));
      })
  filling_use p (moves after) next on rest e more = absurd e
  filling_use p (refuses code) next on rest e more =
      filling_none next (λ v n. refused code p (n - 1)) (λ sum. record { code = code; position = p; count = 0 })
      (λ v n sum z. absurd (omega arith))
  filling_use p (shows f d s i after) next on rest e more = filling_shown p f d s on rest i next after e more

  pub plain_filling : (xs : List Token) → AllOrdinary xs → (next : ℕ)
      → Filling next (λ v n. flow_from v count xs n next) (λ sum. vet_from kinds longest xs next sum)
  unfolding flow_from vet_from turn_of given_text
  plain_filling [] o next =
      filling_none next (λ v n. done n (count - next)) (λ sum. record { code = 0; position = 0; count = sum }) (λ v n sum z. omega arith)
  plain_filling (x ∷ xs) o next =
      filling_use x.position (use_of count x.item next) next (λ v n i. flow_from v count xs n i)
      (λ i sum. vet_from kinds longest xs i sum)
      (use_within count x.item next o.0) (plain_filling xs o.1)
