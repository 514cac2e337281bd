-- `reader::directive::read_parameter` meets its contract: one law for each arm. Assumes nothing.
use Rattle.std.proofs.Common.{arith, false, true, get_or, inl, inr, le-leb}
use Rattle.std.proofs.lemmas.Bool.{lt-leb}
use Rattle.rules.proofs.Reading.{scan_end}
use Rattle.rules.specs.Directive.{start}
use Rattle.reader.proofs.ScanLaws.{start_other, number_written, parameter_written}
use Rattle.reader.proofs.ScanLaws.{start_digit, start_plus, start_minus, quote_cut, quote_whole_lem, start_next}
use Rattle.reader.proofs.ScanLaws.{start_remaining}
use Rattle.reader.proofs.directive.read_parameter.Goals as goal

pub returns-then-text-i : goal.returns-then-text-i
returns-then-text-i c = record { is = λ d. scan_end c.args.text.now c.args.i start d c.if-text-i.true; advances = tt }

pub returns-in-48-to-57 : goal.returns-in-48-to-57
returns-in-48-to-57 c =
    let t = c.args.text.now in
    let i = c.args.i in
    number_written t i i false _ _ c.number_parameter-in-48-to-57.ensures (omega arith)
    (λ d. start_digit t i d c.if-text-i.false
    (rw (le-leb 48 (get_or t i 0) (omega arith), le-leb (get_or t i 0) 57 (omega arith))))
    c.read_number-in-48-to-57.ensures

pub returns-in-43 : goal.returns-in-43
returns-in-43 c =
    number_written c.args.text.now c.args.i _ false _ _ c.number_parameter.ensures (omega arith)
    (λ d. start_plus c.args.text.now c.args.i d c.if-text-i.false c.in-43.is)
    c.read_number.ensures

pub returns-in-45 : goal.returns-in-45
returns-in-45 c =
    number_written c.args.text.now c.args.i _ true _ _ c.number_parameter-in-45.ensures (omega arith)
    (λ d. start_minus c.args.text.now c.args.i d c.if-text-i.false c.in-45.is)
    c.read_number-in-45.ensures

pub returns-then-after-text : goal.returns-then-after-text
returns-then-after-text c =
    parameter_written c.args.text.now c.args.i _ _ _ c.written.ensures (omega arith) (omega arith)
    (λ d. quote_whole_lem c.args.text.now c.args.i d c.if-text-i.false c.in-39.is c.if-after-text.true)

pub returns-else-after-text : goal.returns-else-after-text
returns-else-after-text c = record {
  is = λ d. quote_cut c.args.text.now c.args.i d c.if-text-i.false c.in-39.is c.if-after-text.false;
  advances = tt;
}

pub returns-in-118 : goal.returns-in-118
returns-in-118 c =
    parameter_written c.args.text.now c.args.i _ _ _ c.written-in-118.ensures (omega arith) (omega arith)
    (λ d. start_next c.args.text.now c.args.i d c.if-text-i.false c.in-118.is)

pub returns-in-35 : goal.returns-in-35
returns-in-35 c =
    parameter_written c.args.text.now c.args.i _ _ _ c.written-in-35.ensures (omega arith) (omega arith)
    (λ d. start_remaining c.args.text.now c.args.i d c.if-text-i.false c.in-35.is)

pub returns-in_default : goal.returns-in_default
returns-in_default c =
    let b = get_or c.args.text.now c.args.i 0 in
    record {
      is = λ d. start_other c.args.text.now c.args.i d c.if-text-i.false (rw (lt-leb 48 b (omega arith)))
          (λ z. omega arith) (λ z. omega arith) (λ z. omega arith)
          (λ z. elim z [ inl y ↦ omega arith | inr y ↦ omega arith ]) (λ z. omega arith);
      advances = record { on = omega arith; within = omega arith };
    }

pub returns-in_default-2 : goal.returns-in_default-2
returns-in_default-2 c =
    let b = get_or c.args.text.now c.args.i 0 in
    record {
      is = λ d. start_other c.args.text.now c.args.i d c.if-text-i.false (rw (le-leb 48 b (omega arith), lt-leb b 57 (omega arith)))
          (λ z. omega arith) (λ z. omega arith) (λ z. omega arith)
          (λ z. grind arith) (λ z. omega arith);
      advances = record { on = omega arith; within = omega arith };
    }
