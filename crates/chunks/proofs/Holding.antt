-- What is held of a line after a part of a chunk, and after one more. Assumes nothing.
use Prim.Native.Nat.{ℕ, ◌+◌, ◌-◌, ◌≤◌, ◌<◌}
use mathlib.Core.Path.{◌≡◌, refl, sym, ap, ◌∙◌}
use mathlib.Core.Bool.{true, false}
use mathlib.Core.List.{List, [], ◌++◌}
use native.Mathlib.Omega.{arith}
use lib.ListN.{length, take, drop, length-take, length-drop}
use lib.Seq.{take-add, take_all, take-take}
use Rattle.rules.proofs.Tests.{not_both_ways}
use Rattle.chunks.specs.Cutting.{begun_line}
use Rattle.chunks.specs.Feeding.{Taken, Holds}
use Rattle.chunks.proofs.Cuts.{begun_append}
use Rattle.chunks.proofs.Long.{begun_cut}
use Rattle.chunks.proofs.Steps.{held_bytes}

pub holds_none : (line : List ℕ) (held : ℕ) → held ≤ length line → Holds line (begun_line (take held line) []) held
unfolding begun_line
holds_none line held h =
    let whole : take (length line) (take held line) ≡ take held line =
    take_all (length line) (take held line) (rw length-take (omega arith))
    in
    record { held_is = rw (whole, length-take) (omega arith); bytes_are = sym whole }

pub holds_within : {line begun : List ℕ} {held : ℕ} → Holds line begun held → held ≤ length line
holds_within {line} {begun} h = omega (arith, h.held_is, length-take (length line) begun)

-- nothing is said of what is held after the end
pub holds_ended : {line begun : List ℕ} {held : ℕ} → true ≡ false → Holds line begun held
holds_ended e = absurd (not_both_ways refl e)

-- after the whole chunk
pub holds_all : (begun chunk : List ℕ) (from : ℕ) {line : List ℕ} {held : ℕ} → length chunk ≤ from
    → Holds line (begun_line begun (take from chunk)) held → Holds line (begun_line begun chunk) held
holds_all begun chunk from e h = rw (take_all from chunk e) at h

pub holds_more : (begun chunk : List ℕ) (from taken : ℕ)
    {line line₁ frame₀ frame₁ text₀ text₁ out₀ out₁ : List ℕ} {kept held filled : ℕ}
    → 65535 < length line → length line₁ ≡ length line → Holds line (begun_line begun (take from chunk)) kept
    → Taken (take taken (take (length chunk - from) (drop from chunk)))
    (take kept line) line line₁ frame₀ frame₁ text₀ text₁ out₀ out₁ held filled
    → Holds line₁ (begun_line begun (take (from + taken) chunk)) held
holds_more begun chunk from taken {line} {kept = kept} long same h t =
    let size = length line in
    let s = drop from chunk in
    let R = begun_line begun (take from chunk) in
    let rest : take (length chunk - from) s ≡ s = take_all (length chunk - from) s (rw length-drop (omega arith)) in
    let p = take taken (take (length chunk - from) s) in
    let whole : take (from + taken) chunk ≡ take from chunk ++ p = rw (take-add from taken chunk, rest) in
    let alike : take size (take kept line) ≡ take size R =
    ap (take size) h.bytes_are ∙ take-take size size R (omega arith)
    in
    let now : take size (begun_line (take kept line) p) ≡ take size (begun_line begun (take (from + taken) chunk)) =
    begun_cut size long (take kept line) R alike p
    ∙ ap (take size) (sym (begun_append begun (take from chunk) p) ∙ ap (begun_line begun) (sym whole))
    in
    record {
      held_is = rw same (t.held_is ∙ ap length now);
      bytes_are = rw same (held_bytes t ∙ now);
    }
