-- `written` meets its contract: each arm is a law of how the parameter is written (WorkLaws). Assumes nothing.
use Prim.Native.Nat.{◌<◌}
use Rattle.std.proofs.Common.{rules}
use Rattle.parameters.proofs.WorkLaws.{default_written, number_written, byte_written}
use Rattle.parameters.proofs.places.written.Goals as goal

pub returns-in-Default : goal.returns-in-Default
returns-in-Default c = default_written c.in-Default.is

pub returns-in-Number : goal.returns-in-Number
returns-in-Number c = number_written c.in-Number.is c.from.ensures

pub returns-in-Character : goal.returns-in-Character
returns-in-Character c = let small : c.from-in-Character.result < 256 = search rules in byte_written c.in-Character.is (c.from-in-Character.ensures, small)
