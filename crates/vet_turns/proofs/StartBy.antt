-- The argument from which the clauses of a conditional run, as code works it out. Assumes nothing.
use Prim.Native.Nat.{ℕ}
use mathlib.Core.Path.{◌≡◌, sym, ap, subst, ◌∙◌}
use mathlib.Core.Bool.{true, false}
use mathlib.Core.List.{List}
use lib.ListN.{length}
use Rattle.rules.specs.Rows.{places_in, in_row, in_order, each_suits}
use Rattle.rules.specs.Working.{Settled, settle_all}
use Rattle.rules.specs.declared.Directive.{Directive}
use Rattle.rules.proofs.Rowed.{written_suits}
use Rattle.vet_rules.specs.Turns.{Turn, Stops}
use Rattle.vet_rules.specs.Use.{in_hand, no_entries}
use Rattle.vet_rules.specs.Ways.{numbered_start, unmodified_places, settled_start, start_of}
use Rattle.vet_rules.specs.Plain.{Opener}
use Rattle.vet_rules.proofs.Settling.{Settles, settle_placed}
use Rattle.parameters.specs.Settling.{settled_as}
use Rattle.parameters.specs.declared.settling.SettledOut.{SettledOut}
use Rattle.std.specs.Prelude.{Result, Ok, Err}
use Rattle.rules.specs.Refusals.{code_of}
use Rattle.rules.specs.declared.refusal.Refusal.{Refusal}
use Rattle.vet_turns.specs.Parts.{SettledOn}

module _ (kinds : List ℕ) (d : Directive) (next : ℕ) where
  module _ (w : Opener d) (c : d.colon ≡ false) (a : d.atsign ≡ false) where
    suits : each_suits (in_row unmodified_places) (in_order d.parameters) ≡ true
    suits = rw (w.code, c, a) at (written_suits d w.written)

    abbrev own : Settled
    own = settle_all no_entries (in_hand (length kinds) next) unmodified_places d.parameters next

    is : {o : Result SettledOut Refusal} → SettledOn (length kinds) (places_in d) d.parameters next o → settled_as o ≡ own
    is h = rw (w.code, c, a) at h.as_defined

    start_is : (longest : ℕ) → settled_start kinds longest own ≡ start_of kinds longest d next
    unfolding start_of
    start_is longest = rw (c, a)

    pub start_refused : {refusal : Refusal} → SettledOn (length kinds) (places_in d) d.parameters next (Err refusal)
        → (longest : ℕ) → Stops (code_of refusal) ≡ start_of kinds longest d next
    start_refused h longest = ap (settled_start kinds longest) (is h) ∙ start_is longest

    pub start_by : {x : SettledOut} {r : Turn} → SettledOn (length kinds) (places_in d) d.parameters next (Ok x)
        → ((longest : ℕ) → r ≡ numbered_start kinds longest next x.settings.first) → (longest : ℕ) → r ≡ start_of kinds longest d next
    start_by {x} h f longest =
        let same : x.next.0 ≡ next =
        (subst (Settles unmodified_places next) (sym (is h))
        (settle_placed (in_hand (length kinds) next) unmodified_places d.parameters next w.fixed suits)).0 in
        f longest
        ∙ ap (λ (i : ℕ). numbered_start kinds longest i x.settings.first) (sym same)
        ∙ ap (settled_start kinds longest) (is h)
        ∙ start_is longest
