-- 01's numbers of refusals. Assumes nothing: these are definitions.
use Rattle.std.specs.Prelude.{ℕ}
use Rattle.rules.specs.declared.refusal.Refusal.{Refusal}
use Rattle.rules.specs.declared.refusal.Refusal.TheVariants.{BadTable, LongFormat, UnknownCode, BadBlock, BadParameter, NoArgument, WrongKind, OutOfRange, StepLimit, NoRoom, NotPlain, BadKinds}

abbrev pub code_of : Refusal → ℕ
code_of BadTable = 1
code_of LongFormat = 2
code_of UnknownCode = 3
code_of BadBlock = 4
code_of BadParameter = 5
code_of NoArgument = 6
code_of WrongKind = 7
code_of OutOfRange = 8
code_of StepLimit = 9
code_of NoRoom = 10
code_of NotPlain = 11
code_of BadKinds = 12
