-- What is shown is the argument that is taken, if its kind is right. Assumes nothing.
use Rattle.std.proofs.Common.{rules}
use mathlib.Core.Path.{◌∙◌, ap, sym}
use Rattle.rules.specs.Rows.{accepts}
use Rattle.actions.proofs.Plans.{plans_none, plans_other}
use Rattle.actions.proofs.planning.plan_settled.Goals as goal

pub take_argument-requires-clause-source_reachable : goal.take_argument-requires-clause-source_reachable
take_argument-requires-clause-source_reachable c = c.source_of-source.ensures.reachable c.args.table.now

pub returns-in_err-argument : goal.returns-in_err-argument
returns-in_err-argument c =
    let a = c.args in
    search (rules, plans_none a.form a.colon a.settings (c.source_of-source.ensures.means a.table.now) c.take_argument.ensures c.ok_or.ensures.value c.in_err-argument.was)

pub returns-then-not-takes_kind : goal.returns-then-not-takes_kind
returns-then-not-takes_kind c =
    let a = c.args in
    plans_other a.form a.colon a.settings (c.source_of-source.ensures.means a.table.now) c.take_argument.ensures c.in_ok-argument.ensures.ok_part
    (sym (ap (accepts a.form) (c.kind_of.ensures a.table.now)) ∙ sym c.takes_kind.ensures ∙ c.if-not-takes_kind.true)
