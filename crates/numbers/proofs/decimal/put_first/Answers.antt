-- `numbers::decimal::put_first` meets its contract: four digits from the right, and where there are fewer the first one
-- again. Assumes nothing.
use mathlib.Core.Path.{◌≡◌, ◌∙◌}
use Prim.Native.Nat.{◌-◌, ◌*◌, ◌/◌, ◌%◌}
use native.Mathlib.Omega.{arith}
use lib.ListN.{length-set}
use Rattle.rules.proofs.Digits.{count_pos}
use Rattle.numbers.proofs.PairLaws.{Firsts, chosen_first, chosen_again, first_written}
use Rattle.numbers.proofs.decimal.put_first.Goals as goal
use Rattle.numbers.proofs.decimal.put_first.Goals.{Joined-end-gt3, then-end-gt1, else-end-gt1, then-end-gt2, else-end-gt2, then-end-gt3, else-end-gt3}

-- the digits that are chosen, by the number's
firsts : (c : Joined-end-gt3)
    → Firsts c.args.n c.args.end (c.args.n - 100 * c.hundredth-high.result - 10 * c.tenth-tens.result) c.if-end-gt1.second c.if-end-gt2.third c.if-end-gt3.fourth
firsts c =
    let n = c.args.n in
    let high = c.hundredth-high.result in
    let q : n / 10 / 10 ≡ n / 100 = omega arith in
    let second : c.tenth-tens.result ≡ n / 10 % 10 = omega (arith, q, c.hundredth-high.ensures, c.tenth-tens.ensures) in
    let third : high - 10 * c.tenth-thousands.result ≡ n / 100 % 10 = omega (arith, c.hundredth-high.ensures, c.tenth-thousands.ensures) in
    let fourth : c.tenth-thousands.result ≡ n / 1000 = omega (arith, c.hundredth-high.ensures, c.tenth-thousands.ensures) in
    record {
      ones = omega (arith, c.hundredth-high.ensures, c.tenth-tens.ensures);
      tens = elim c.if-end-gt1.branch [
        | then-end-gt1 w ↦ chosen_first w.if-end-gt1.true (w.second-is ∙ second)
        | else-end-gt1 w ↦ chosen_again w.if-end-gt1.false w.second-is
      ];
      hundreds = elim c.if-end-gt2.branch [
        | then-end-gt2 w ↦ chosen_first w.if-end-gt2.true (w.third-is ∙ third)
        | else-end-gt2 w ↦ chosen_again w.if-end-gt2.false w.third-is
      ];
      thousands = elim c.if-end-gt3.branch [
        | then-end-gt3 w ↦ chosen_first w.if-end-gt3.true (w.fourth-is ∙ fourth)
        | else-end-gt3 w ↦ chosen_again w.if-end-gt3.false w.fourth-is
      ];
    }

pub overflow_sub-out : goal.overflow_sub-out
overflow_sub-out c = omega (arith, count_pos 10 c.args.n (omega arith))

pub bounds-out-end : goal.bounds-out-end
bounds-out-end c = omega (arith, count_pos 10 c.args.n (omega arith))

pub bounds-out-saturating_sub : goal.bounds-out-saturating_sub
bounds-out-saturating_sub c = simp length-set (omega (arith, count_pos 10 c.args.n (omega arith)))

pub bounds-out-saturating_sub-2 : goal.bounds-out-saturating_sub-2
bounds-out-saturating_sub-2 c = simp length-set (omega (arith, count_pos 10 c.args.n (omega arith)))

pub bounds-out-0 : goal.bounds-out-0
bounds-out-0 c = simp length-set (omega (arith, count_pos 10 c.args.n (omega arith)))

pub returns : goal.returns
returns c =
    rw (c.saturating_sub.ensures, c.saturating_sub-2.ensures)
    (first_written c.requires.n_bound (firsts (goal.at.returns c).Joined-end-gt3) c.args.out.now c.requires.n_len c.requires.end_in_bounds)
