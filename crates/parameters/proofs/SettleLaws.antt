-- Parameters worked out in places, from what each of them is worked out to. Assumes nothing.
use Prim.Native.Nat.{ℕ, ◌≤◌}
use mathlib.Core.Path.{◌≡◌, refl, sym, ◌∙◌}
use mathlib.Core.Bool.{true}
use mathlib.Core.List.{List}
use Rattle.rules.specs.Rows.{suits}
use Rattle.rules.specs.Table.{View, view_of}
use Rattle.rules.specs.Working.{worked, wrong, work_out, settle, InPlace}
use Rattle.rules.specs.declared.ArgumentPosition.{ArgumentPosition}
use Rattle.rules.specs.declared.Parameter.{Parameter}
use Rattle.rules.specs.declared.Parameter.TheVariants.{Default, Number, Character, Next, Remaining}
use Rattle.rules.specs.declared.Parameters.{Parameters}
use Rattle.rules.specs.declared.Place.{Place}
use Rattle.rules.specs.declared.Places.{Places}
use Rattle.rules.specs.Setting.{Setting}
use Rattle.rules.proofs.Tests.{both_true}
use Rattle.parameters.proofs.WorkLaws.{work_written}
use Rattle.parameters.specs.Settling.{hand_at, InHand, AllSupplied, Works, is_written, all_written, WrittenAs, Settles, SettlesWritten}
use Rattle.parameters.specs.declared.arguments.Hand.{Hand}
use Rattle.parameters.specs.declared.places.WorkedOut.{WorkedOut}
use Rattle.std.specs.Prelude.{Result, Ok, Err}
use Rattle.rules.specs.Refusals.{code_of}
use Rattle.rules.specs.declared.refusal.Refusal.{Refusal}

-- the arguments of a run stand in an accepted table, for every parameter
pub all_supplied_lem : {t : List ℕ} {hand : Hand} {ps : Parameters} → InHand t hand → AllSupplied t hand ps
all_supplied_lem h = record { first = λ _. h; second = λ _. h; third = λ _. h; fourth = λ _. h; fifth = λ _. h }

-- working out goes by where the arguments in hand begin and how many there are, and by no other number of the context
anywhere : (v : View) (hand : Hand) (i : ℕ) (y : Place) (x : Parameter) (n : ℕ) → work_out v (hand_at hand i) y x n ≡ work_out v (hand_at hand 0) y x n
unfolding work_out
anywhere v hand i y Default n = refl
anywhere v hand i y (Number k) n = refl
anywhere v hand i y (Character b) n = refl
anywhere v hand i y Next n = refl
anywhere v hand i y Remaining n = refl

-- a parameter that is worked out to o, or refused
module _ {t : List ℕ} {hand : Hand} {y : Place} {x : Parameter} {n : ℕ} {r : Result WorkedOut Refusal} (w : Works t hand y x n r) where
  gives : {o : WorkedOut} → r ≡ Ok o → (i : ℕ) → work_out (view_of t) (hand_at hand i) y x n ≡ worked o.setting o.next.0
  gives {o} e i =
      let is : worked o.setting o.next.0 ≡ work_out (view_of t) (hand_at hand 0) y x n = rw e at w.as_defined in
      anywhere (view_of t) hand i y x n ∙ sym is

  refuses : {refusal : Refusal} → r ≡ Err refusal → (i : ℕ) → work_out (view_of t) (hand_at hand i) y x n ≡ wrong (code_of refusal)
  refuses {refusal} e i =
      let is : wrong (code_of refusal) ≡ work_out (view_of t) (hand_at hand 0) y x n = rw e at w.as_defined in
      anywhere (view_of t) hand i y x n ∙ sym is

  pub still_reaches : {o : WorkedOut} → r ≡ Ok o → o.next.0 ≤ hand.count
  still_reaches e = rw e at w.reaches

  pub still_lies : {o : WorkedOut} → r ≡ Ok o → suits y x ≡ true → InPlace y o.setting
  still_lies e = rw e at w.lies

-- One is refused, those before it not; or none is.
module _ {t : List ℕ} {hand : Hand} {ys : Places} {ps : Parameters} {n : ℕ} {r₁ : Result WorkedOut Refusal} (w₁ : Works t hand ys.first ps.first n r₁) where
  pub first_wrong : {refusal : Refusal} → r₁ ≡ Err refusal → Settles t hand ys ps n (Err refusal)
  unfolding settle
  first_wrong k = record { as_defined = λ i. rw (refuses w₁ k i); reaches = tt; lies = λ _. tt }

  module _ {o₁ : WorkedOut} (e₁ : r₁ ≡ Ok o₁) {r₂ : Result WorkedOut Refusal} (w₂ : Works t hand ys.second ps.second o₁.next.0 r₂) where
    pub second_wrong : {refusal : Refusal} → r₂ ≡ Err refusal → Settles t hand ys ps n (Err refusal)
    unfolding settle
    second_wrong k = record { as_defined = λ i. rw (gives w₁ e₁ i, refuses w₂ k i); reaches = tt; lies = λ _. tt }

    module _ {o₂ : WorkedOut} (e₂ : r₂ ≡ Ok o₂) {r₃ : Result WorkedOut Refusal} (w₃ : Works t hand ys.third ps.third o₂.next.0 r₃) where
      pub third_wrong : {refusal : Refusal} → r₃ ≡ Err refusal → Settles t hand ys ps n (Err refusal)
      unfolding settle
      third_wrong k = record { as_defined = λ i. rw (gives w₁ e₁ i, gives w₂ e₂ i, refuses w₃ k i); reaches = tt; lies = λ _. tt }

      module _ {o₃ : WorkedOut} (e₃ : r₃ ≡ Ok o₃) {r₄ : Result WorkedOut Refusal} (w₄ : Works t hand ys.fourth ps.fourth o₃.next.0 r₄) where
        pub fourth_wrong : {refusal : Refusal} → r₄ ≡ Err refusal → Settles t hand ys ps n (Err refusal)
        unfolding settle
        fourth_wrong k =
            record { as_defined = λ i. rw (gives w₁ e₁ i, gives w₂ e₂ i, gives w₃ e₃ i, refuses w₄ k i); reaches = tt; lies = λ _. tt }

        module _ {o₄ : WorkedOut} (e₄ : r₄ ≡ Ok o₄) {r₅ : Result WorkedOut Refusal} (w₅ : Works t hand ys.fifth ps.fifth o₄.next.0 r₅) where
          pub fifth_wrong : {refusal : Refusal} → r₅ ≡ Err refusal → Settles t hand ys ps n (Err refusal)
          unfolding settle
          fifth_wrong k = record {
            as_defined = λ i. rw (gives w₁ e₁ i, gives w₂ e₂ i, gives w₃ e₃ i, gives w₄ e₄ i, refuses w₅ k i);
            reaches = tt;
            lies = λ _. tt;
          }

          pub five_settled : {o₅ : WorkedOut} → r₅ ≡ Ok o₅
              → Settles t hand ys ps n (Ok (record {
                settings = record { first = o₁.setting; second = o₂.setting; third = o₃.setting; fourth = o₄.setting; fifth = o₅.setting };
                next = o₅.next;
              }))
          unfolding settle
          five_settled e₅ = record {
            as_defined = λ i. rw (gives w₁ e₁ i, gives w₂ e₂ i, gives w₃ e₃ i, gives w₄ e₄ i, gives w₅ e₅ i);
            reaches = still_reaches w₅ e₅;
            lies = λ e.
                let from₂ = both_true (suits ys.first ps.first) _ e in
                let from₃ = both_true (suits ys.second ps.second) _ from₂.1 in
                let from₄ = both_true (suits ys.third ps.third) _ from₃.1 in
                let from₅ = both_true (suits ys.fourth ps.fourth) _ from₄.1 in
                record {
                  first = still_lies w₁ e₁ from₂.0;
                  second = still_lies w₂ e₂ from₃.0;
                  third = still_lies w₃ e₃ from₄.0;
                  fourth = still_lies w₄ e₄ from₅.0;
                  fifth = still_lies w₅ e₅ (both_true (suits ys.fifth ps.fifth) true from₅.1).0;
                };
          }

-- five that are all written out
pub all_settled : {ps : Parameters} {next : ArgumentPosition} {s₁ s₂ s₃ s₄ s₅ : Setting}
    → WrittenAs ps.first s₁ → WrittenAs ps.second s₂ → WrittenAs ps.third s₃ → WrittenAs ps.fourth s₄
    → WrittenAs ps.fifth s₅
    → SettlesWritten ps next (Ok (record { settings = record { first = s₁; second = s₂; third = s₃; fourth = s₄; fifth = s₅ }; next = next }))
all_settled w₁ w₂ w₃ w₄ w₅ = record {
  is = λ t hand ys h.
      five_settled (work_written h w₁) refl (work_written h w₂) refl (work_written h w₃) refl (work_written h w₄) refl
      (work_written h w₅) refl;
}

pub record EachWritten (ps : Parameters) : Type 0 where
  pub first : is_written ps.first ≡ true
  pub second : is_written ps.second ≡ true
  pub third : is_written ps.third ≡ true
  pub fourth : is_written ps.fourth ≡ true
  pub fifth : is_written ps.fifth ≡ true

pub each_written : (ps : Parameters) → all_written ps ≡ true → EachWritten ps
each_written ps e =
    let from₂ = both_true (is_written ps.first) _ e in
    let from₃ = both_true (is_written ps.second) _ from₂.1 in
    let from₄ = both_true (is_written ps.third) _ from₃.1 in
    let from₅ = both_true (is_written ps.fourth) _ from₄.1 in
    record { first = from₂.0; second = from₃.0; third = from₄.0; fourth = from₅.0; fifth = from₅.1 }
