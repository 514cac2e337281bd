-- `reader::directive::read_code` meets its contract. The loop's invariant: reading from start on is reading on at i
-- with the modifiers that are seen. Assumes nothing.
use mathlib.Core.Path.{◌≡◌}
use Prim.Native.Nat.{◌≤◌}
use lib.ListN.{length, drop}
use Rattle.rules.specs.Directive.{scan, modifiers, having, blank}
use Rattle.reader.proofs.ScanLaws.{marked}
use Rattle.reader.proofs.directive.read_code.Given as goal

abbrev pub invariant-loop-i : goal.invariant-loop-i
invariant-loop-i l = (scan modifiers (having blank l.ps) (drop l.start l.text) l.start ≡ scan modifiers (marked l.colon l.atsign l.ps) (drop l.i l.text) l.i)
    × (l.i ≤ length l.text)
