-- What a plan is made from, and what a directive learns from it. Assumes nothing.
use Rattle.rules.specs.declared.refusal.Refusal.TheVariants.{BadParameter, NoArgument, WrongKind}
use Prim.Native.Nat.{ℕ, ◌≤◌}
use mathlib.Core.Path.{◌≡◌, refl, sym, ap, subst, ◌∙◌}
use mathlib.Core.Bool.{Bool, true, false}
use mathlib.Core.List.{List}
use Rattle.rules.specs.Rows.{well_written, accepts}
use Rattle.rules.specs.Table.{meant, view_of}
use Rattle.rules.specs.Piece.{text_of, kind_of}
use Rattle.rules.specs.Working.{WellSet, Source, source_of}
use Rattle.rules.specs.Run.{Flow, refused, put, write_from}
use Rattle.rules.specs.declared.ArgumentPosition.{ArgumentPosition}
use Rattle.rules.specs.declared.Code.TheVariants.{Writes}
use Rattle.rules.specs.declared.Directive.{Directive}
use Rattle.rules.specs.declared.Form.{Form}
use Rattle.rules.specs.declared.Settings.{Settings}
use Rattle.pieces.specs.Given.{Reachable}
use Rattle.parameters.specs.Settling.{SettlesDirective, hand_at}
use Rattle.parameters.specs.declared.arguments.Hand.{Hand}
use Rattle.parameters.specs.declared.settling.SettledOut.{SettledOut}
use Rattle.std.specs.Prelude.{Option, None, Some, Result, Ok, Err}
use Rattle.std.specs.Option.{ok_or}
use Rattle.rules.specs.Refusals.{code_of}
use Rattle.rules.specs.declared.refusal.Refusal.{Refusal}
use Rattle.parameters.proofs.Answers.{run_settled, run_refused}
use Rattle.actions.specs.declared.planning.Plan.{Plan}
use Rattle.actions.specs.declared.planning.Source.{Source as TakenFrom}
use Rattle.actions.specs.declared.planning.Taken.{Taken}
use Rattle.actions.specs.Planning.{source_as, Takes, on_planned, PlanReaches, PlansSettled, Plans}
use Rattle.actions.proofs.ActLaws.{settings_ill, write_no, acts_writes}
use Rattle.actions.proofs.Sources.{taken_none, taken_is}

-- by the argument that is taken: none, one that is shown, one of a kind that the form does not take
module _ (form : Form) (colon : Bool) (s : Settings) {t : List ℕ} {hand : Hand} {i : ℕ} {source : TakenFrom} {taken : Option Taken} (e : source_as t source ≡ source_of form colon s) (k : Takes t hand source i taken) where
  same_source : (d : Directive) (p m : ℕ) (on : ℕ → Flow)
      → write_from (view_of t) p m form d (hand_at hand 0) s i on (source_of form colon s)
      ≡ write_from (view_of t) p m form d (hand_at hand 0) s i on (source_as t source)
  same_source d p m on = ap (λ (x : Source). write_from (view_of t) p m form d (hand_at hand 0) s i on x) (sym e)

  pub plans_none : {o : Result Taken Refusal} {refusal : Refusal} → o ≡ ok_or taken NoArgument → o ≡ Err refusal → PlansSettled t form colon s hand i (Err refusal)
  plans_none {refusal = refusal} p q = by taken refl (sym p ∙ q)
    where
      by : (x : Option Taken) → taken ≡ x → ok_or x NoArgument ≡ Err refusal → PlansSettled t form colon s hand i (Err refusal)
      by None z y =
          let e : NoArgument ≡ refusal = cc in
          subst (λ (r : Refusal). PlansSettled t form colon s hand i (Err r)) e
          (record { as_defined = λ d p m on. same_source d p m on ∙ taken_none k p m form d s on z; reaches = tt })
      by (Some x) z y = absurd cc

  module _ {x : Taken} (q : taken ≡ Some x) where
    pub plans_other : accepts form (kind_of (meant t x.argument)) ≡ false → PlansSettled t form colon s hand i (Err WrongKind)
    plans_other h =
        record {
          as_defined =
              λ d p m on. same_source d p m on ∙ taken_is k p m form d s on q
              ∙ write_no (view_of t) p m d (hand_at hand 0) form s on (meant t x.argument) x.next.0 h;
          reaches = tt;
        }

-- by the parameters: ill written, not settled, settled
module _ {t : List ℕ} {form : Form} {d : Directive} {hand : Hand} {next : ℕ} (e : d.code ≡ Writes form) where
  pub plans_ill : well_written d ≡ false → Plans t form d hand next (Err BadParameter)
  plans_ill ill =
      record {
        as_defined =
            λ p m on. acts_writes (view_of t) p m d (hand_at hand next) on form e
            ∙ settings_ill (view_of t) p m d (hand_at hand next) _ ill;
        reaches = tt;
      }

  module _ {out : Result SettledOut Refusal} (h : SettlesDirective t hand d next out) (well : well_written d ≡ true) where
    pub plans_unsettled : {refusal : Refusal} → out ≡ Err refusal → Plans t form d hand next (Err refusal)
    plans_unsettled q =
        record {
          as_defined =
              λ p m on. acts_writes (view_of t) p m d (hand_at hand next) on form e
              ∙ run_refused h well p m _ q;
          reaches = tt;
        }

    pub plans_settled : {s : Settings} {i : ArgumentPosition} {r : Result Plan Refusal} → out ≡ Ok (record { settings = s; next = i }) → PlansSettled t form d.colon s hand i.0 r → Plans t form d hand next r
    plans_settled {s} {i} q k =
        record {
          as_defined =
              λ p m on. acts_writes (view_of t) p m d (hand_at hand next) on form e
              ∙ run_settled h well p m _ q
              ∙ k.as_defined d p m on;
          reaches = k.reaches;
        }

-- what a directive learns from its plan
module _ {t : List ℕ} {form : Form} {colon : Bool} {s : Settings} {hand : Hand} {i : ℕ} {r : Result Plan Refusal} (k : PlansSettled t form colon s hand i r) where
  pub shown_reaches : {x : Plan} → r ≡ Ok x → WellSet form x.settings × (Reachable t x.argument × (x.next.0 ≤ hand.count))
  shown_reaches q = subst (PlanReaches t form hand.count) q k.reaches

  module _ (d : Directive) (p m : ℕ) (on : ℕ → Flow) where
    -- w is the text of the piece that is made
    pub shown : {atsign : Bool} {x : Plan} {w : List ℕ} → r ≡ Ok x
        → d.colon ≡ colon → d.atsign ≡ atsign → w ≡ text_of form colon atsign x.settings (meant t x.argument)
        → write_from (view_of t) p m form d (hand_at hand 0) s i on (source_of form colon s) ≡ put p m w (on x.next.0)
    shown q c a e = k.as_defined d p m on ∙ ap (on_planned t form d p m on) q ∙ rw (c, a, e)

    pub not_shown : {refusal : Refusal} → r ≡ Err refusal
        → write_from (view_of t) p m form d (hand_at hand 0) s i on (source_of form colon s) ≡ refused (code_of refusal) p m
    not_shown q = k.as_defined d p m on ∙ ap (on_planned t form d p m on) q
