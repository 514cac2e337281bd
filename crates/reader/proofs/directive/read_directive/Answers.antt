-- `reader::directive::read_directive` meets its contract. The loop's invariant: reading from start on is reading on
-- at i with the parameters that are read, which are at most i. Assumes nothing.
use Rattle.std.proofs.Common.{sym, ap, ◌∙◌}
use Rattle.rules.specs.Directive.{with_parameter}
use Rattle.reader.proofs.ScanLaws.{pending_read, directive_more, directive_whole}
use Rattle.reader.proofs.directive.read_directive.Goals as goal

pub loop-parameter-preserved : goal.loop-parameter-preserved
loop-parameter-preserved c =
    directive_more c.loop-parameter.invariant c.read_parameter.ensures c.in_ok-parameter.field-0 c.in_ok-parameter.was
    (sym c.if-not-comma_at.ensures) _
    (c.with_parameter-ps.ensures
    ∙ ap (with_parameter c.loop-parameter.ps) (c.unwrap_or.ensures ∙ sym (pending_read c.in_ok-parameter.field-0.parameter)))

pub returns-then-not-comma_at : goal.returns-then-not-comma_at
returns-then-not-comma_at c =
    directive_whole c.loop-parameter.invariant c.read_parameter.ensures c.in_ok-parameter.field-0 c.in_ok-parameter.was
    (sym c.if-not-comma_at.ensures) _ c.close_parameters.ensures _ c.read_code.ensures
