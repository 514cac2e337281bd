-- `pieces::quoting::quoted_size` meets its contract: counted are the bytes gone over that have a backslash.
-- Assumes nothing.
use Rattle.std.proofs.Common.{◌≡◌, take}
use Rattle.std.specs.List.{count_by}
use Rattle.pieces.specs.Bytes.{is_marked}
use Rattle.pieces.proofs.quoting.quoted_size.Given as goal

abbrev pub invariant-loop-byte : goal.invariant-loop-byte
invariant-loop-byte l = l.marked ≡ count_by is_marked (take l.byte-index l.src)
