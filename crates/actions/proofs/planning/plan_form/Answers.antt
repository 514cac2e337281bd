-- A directive is planned as 01 has it: well written, settled, shown. Assumes nothing.
use Rattle.std.proofs.Common.{rules}
use mathlib.Core.Path.{◌∙◌, sym}
use Rattle.parameters.proofs.Ranges.{form_in_range}
use Rattle.actions.proofs.Sources.{worked_in}
use Rattle.actions.proofs.Plans.{plans_ill, plans_unsettled, plans_settled}
use Rattle.actions.proofs.planning.plan_form.Goals as goal

pub returns-then-not-is_well_written : goal.returns-then-not-is_well_written
returns-then-not-is_well_written c = plans_ill c.requires.code_value (sym c.is_well_written.ensures ∙ c.if-not-is_well_written.true)

pub returns-in_err-settings : goal.returns-in_err-settings
returns-in_err-settings c =
    search (rules, plans_unsettled c.requires.code_value c.settle_directive.ensures (sym c.is_well_written.ensures ∙ c.if-not-is_well_written.false) c.in_err-settings.was)

pub plan_settled-requires-clause-well_set : goal.plan_settled-requires-clause-well_set
plan_settled-requires-clause-well_set c =
    let well = sym c.is_well_written.ensures ∙ c.if-not-is_well_written.false in
    worked_in c.args.form _ c.requires.form_right (form_in_range c.settle_directive.ensures well c.in_ok-settings.was c.requires.code_value)

pub returns : goal.returns
returns c =
    plans_settled c.requires.code_value c.settle_directive.ensures (sym c.is_well_written.ensures ∙ c.if-not-is_well_written.false) c.in_ok-settings.was
    c.plan_settled.ensures
