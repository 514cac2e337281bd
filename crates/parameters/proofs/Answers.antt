-- What a run learns from the answer for the parameters of a directive. Assumes nothing.
use Prim.Native.Nat.{ℕ, ◌≤◌}
use mathlib.Core.Path.{◌≡◌}
use mathlib.Core.Bool.{true}
use mathlib.Core.List.{List}
use Rattle.rules.specs.Table.{view_of}
use Rattle.rules.specs.Rows.{well_written}
use Rattle.rules.specs.Run.{Flow, refused, on_settled, with_settings}
use Rattle.rules.specs.declared.ArgumentPosition.{ArgumentPosition}
use Rattle.rules.specs.declared.Directive.{Directive}
use Rattle.rules.specs.declared.Settings.{Settings}
use Rattle.parameters.specs.Settling.{hand_at, settled_as, SettlesDirective}
use Rattle.parameters.specs.declared.arguments.Hand.{Hand}
use Rattle.parameters.specs.declared.settling.SettledOut.{SettledOut}
use Rattle.std.specs.Prelude.{Result, Ok, Err}
use Rattle.rules.specs.Refusals.{code_of}
use Rattle.rules.specs.declared.refusal.Refusal.{Refusal}

module _ {t : List ℕ} {hand : Hand} {d : Directive} {n : ℕ} {r : Result SettledOut Refusal} (h : SettlesDirective t hand d n r) where
  pub next_reaches : {s : Settings} {next : ArgumentPosition} → r ≡ Ok (record { settings = s; next = next }) → next.0 ≤ hand.count
  next_reaches e = rw e at h.in_places.reaches

  module _ (w : well_written d ≡ true) (p m : ℕ) (on : Settings → ℕ → Flow) where
    pub run_by_answer : with_settings (view_of t) p m d (hand_at hand n) on ≡ on_settled p m (settled_as r) on
    run_by_answer = rw (w, ← h.in_places.as_defined n)

    pub run_settled : {s : Settings} {next : ArgumentPosition} → r ≡ Ok (record { settings = s; next = next }) → with_settings (view_of t) p m d (hand_at hand n) on ≡ on s next.0
    run_settled e = rw e at run_by_answer

    pub run_refused : {refusal : Refusal} → r ≡ Err refusal → with_settings (view_of t) p m d (hand_at hand n) on ≡ refused (code_of refusal) p m
    run_refused e = rw e at run_by_answer
