-- `reader::codes::code_of` meets its contract: the code of the byte in lower case. Assumes nothing.
use mathlib.Core.Path.{◌∙◌, ap}
use Rattle.rules.specs.Directive.{code_named}
use Rattle.reader.proofs.codes.code_of.Goals as goal

pub returns : goal.returns
returns c = c.code_named.ensures ∙ ap code_named c.lower_case.ensures
