-- The position a jump goes to. Assumes nothing.
use Rattle.rules.specs.declared.refusal.Refusal.TheVariants.{NoArgument}
use Rattle.actions.proofs.Sources.{unwrapped}
use Rattle.actions.proofs.ActLaws.{performed_as, performed_refused, jump_at, jump_back, jump_before, jump_forth}
use Rattle.rules.specs.Act.{Act, jump_to}
use Rattle.rules.specs.Run.{joined}
use Prim.Native.Nat.{ℕ, ◌+◌, ◌-◌}
use native.Mathlib.Omega.{arith}
use borrow.Author.Tests.{not-true, not-false}
use mathlib.Core.Path.{◌∙◌, ap, sym}
use Rattle.actions.proofs.acting.jump.Goals as goal

pub returns-then-d : goal.returns-then-d
returns-then-d c =
    let a = c.args in
    let n = c.unwrap_or.ensures ∙ unwrapped a.settings.first 0 in
    λ value b l. performed_as _
    (λ on. ap (λ (u : Act). joined value a.spot.position a.spot.left u on) (jump_at a.count a.d a.settings a.i.0 c.if-d.true
    ∙ ap (λ (k : ℕ). jump_to a.count k) (sym n)))
    (c.jump_to.ensures value b l)

pub returns-then-not-d : goal.returns-then-not-d
returns-then-not-d c =
    let a = c.args in
    let n = c.unwrap_or-n.ensures ∙ unwrapped a.settings.first 1 in
    λ value b l. performed_as _
    (λ on. ap (λ (u : Act). joined value a.spot.position a.spot.left u on) (jump_forth a.count a.d a.settings a.i.0 c.if-d.false (not-true _ c.if-not-d.true)
    ∙ ap (λ (k : ℕ). jump_to a.count (a.i.0 + k)) (sym n)))
    (c.jump_to-then-not-d.ensures value b l)

pub returns-then-i-n : goal.returns-then-i-n
returns-then-i-n c =
    let a = c.args in
    let n = c.unwrap_or-n.ensures ∙ unwrapped a.settings.first 1 in
    λ value b l. performed_refused _ NoArgument a.i.0 c.refuse.ensures
    (λ on. ap (λ (u : Act). joined value a.spot.position a.spot.left u on) (jump_before a.count a.d a.settings a.i.0 c.if-d.false (not-false _ c.if-not-d.false) (omega (arith, c.if-i-n.true, n))))
    l (c.requires.i_le_count.0)

pub returns : goal.returns
returns c =
    let a = c.args in
    let n = c.unwrap_or-n.ensures ∙ unwrapped a.settings.first 1 in
    λ value b l. performed_as _
    (λ on. ap (λ (u : Act). joined value a.spot.position a.spot.left u on) (jump_back a.count a.d a.settings a.i.0 c.if-d.false (not-false _ c.if-not-d.false) (omega (arith, c.if-i-n.false, n))
    ∙ ap (λ (k : ℕ). jump_to a.count (a.i.0 - k)) (sym n)))
    (c.jump_to-2.ensures value b l)
