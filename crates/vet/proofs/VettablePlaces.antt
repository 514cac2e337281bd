-- What a count carries from place to place of an accepted text that a vet takes. Assumes nothing.
use Prim.Native.Nat.{ℕ, ◌+◌, ◌≤◌, ◌<◌}
use mathlib.Core.Path.{◌≡◌}
use mathlib.Core.Bool.{true}
use mathlib.Core.List.{List, []}
use native.Mathlib.Omega.{arith}
use lib.ListN.{length}
use Rattle.rules.specs.Directive.{item_at}
use Rattle.rules.specs.Rows.{in_order}
use Rattle.rules.specs.Text.{tokens_at, text_verdict}
use Rattle.rules.specs.declared.Bracket.{Bracket}
use Rattle.rules.specs.declared.Bracket.TheVariants.{Conditional, Iteration}
use Rattle.rules.specs.declared.Code.TheVariants.{Writes, Jump, Escape, Opens, Unknown}
use Rattle.rules.specs.declared.Directive.{Directive}
use Rattle.rules.specs.declared.Form.{Form}
use Rattle.rules.specs.declared.Item.TheVariants.{Literal, Written}
use Rattle.rules.specs.Verdict.{Accepted}
use Rattle.rules.proofs.AcceptedAt.{AcceptedAt, accepted_literal, accepted_known, accepted_written}
use Rattle.rules.proofs.Bases.{code_right}
use Rattle.rules.proofs.Tests.{both_true, not_both_ways}
use Rattle.rules.proofs.TextLaws.{Within, stands, next_inside, sound_start}
use Rattle.vet_rules.specs.Plain.{Opener, plain_code, none_next, plain_item, plain_from, vettable_verdict}
use Rattle.vet_rules.proofs.Ordinary.{PlainDirective}
use Rattle.vet_rules.proofs.Vettable.{item_on}
use Rattle.vet.specs.Counting.{VettableAt}

pub vettable_text : (t : List ℕ) → text_verdict t ≡ Accepted → vettable_verdict t ≡ Accepted → VettableAt t 0
vettable_text t e k =
    let s = sound_start t e in
    record { blocks = []; accepted = s.1.is; plain = k; inside = omega arith; short = s.0 }

module _ {t : List ℕ} {p : ℕ} (k : VettableAt t p) where
  here : AcceptedAt t p
  here = record { blocks = k.blocks; sound = record { is = k.accepted } }

  after : {q : ℕ} → AcceptedAt t q → plain_from true (tokens_at t q) ≡ Accepted → q ≤ length t → VettableAt t q
  after a e h = record { blocks = a.blocks; accepted = a.sound.is; plain = e; inside = h; short = k.short }

  pub literal_vettable : (b : ℕ) → item_at t p ≡ Literal b → VettableAt t (p + 1)
  literal_vettable b e =
      let h : p < length t = stands t p (Literal b) e in
      after (accepted_literal t p here b e) (item_on t p (Literal b) e h k.plain).1 (omega arith)

  module _ (d : Directive) (e : item_at t p ≡ Written d) where
    place : Within (p + 1) (length t) d.after
    place = next_inside t p d e

    vettable : (plain_item true (Written d) ≡ true) × (plain_from true (tokens_at t d.after) ≡ Accepted)
    vettable = item_on t p (Written d) e (omega (arith, place.above, place.most)) k.plain

    parts : (plain_code true d.code ≡ true) × (none_next (in_order d.parameters) ≡ true)
    unfolding plain_item
    parts = both_true (plain_code true d.code) (none_next (in_order d.parameters)) vettable.0

    pub next_vettable : VettableAt t d.after
    next_vettable = after (accepted_written t p here d e).1 vettable.1 place.most

    pub vettable_writes : (f : Form) → d.code ≡ Writes f → PlainDirective d
    vettable_writes f c = record {
      form = f;
      code = c;
      written = (accepted_written t p here d e).0;
      fixed = parts.1;
      based = rw c at (code_right t p d e);
    }

    -- of the codes that open a block only conditionals are taken
    pub vettable_opens : (b : Bracket) → d.code ≡ Opens b → Opener d
    vettable_opens Conditional c = record { code = c; written = (accepted_written t p here d e).0; fixed = parts.1 }
    vettable_opens Iteration c = absurd (not_both_ways parts.0 (rw c))

    pub vettable_jump : d.code ≡ Jump → ⊥
    vettable_jump c = not_both_ways parts.0 (rw c)

    pub vettable_escape : d.code ≡ Escape → ⊥
    vettable_escape c = not_both_ways parts.0 (rw c)

    pub vettable_unknown : d.code ≡ Unknown → ⊥
    vettable_unknown c = accepted_known t p here d e c
