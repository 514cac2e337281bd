-- `reader::directive::after_blank_strides` meets its contract. Assumes nothing.
use Rattle.rules.specs.Directive.{is_blank}
use Rattle.reader.proofs.directive.after_blank_strides.Goals as goal

pub returns-then-is_blank-2 : goal.returns-then-is_blank-2
returns-then-is_blank-2 c = (c.after_strides.ensures is_blank (λ b y h e. e)).along
