-- However an input is cut into chunks, what is written for them are the answers to its lines. Assumes nothing.
use Prim.Native.Nat.{ℕ, ◌<◌}
use mathlib.Core.Path.{◌≡◌, refl, sym, ap, ◌∙◌}
use mathlib.Core.List.{List, [], ◌∷◌, ◌++◌, append_assoc, flatten}
use native.Mathlib.Omega.{arith}
use lib.ListN.{take}
use lib.Seq.{take-take}
use Rattle.chunks.specs.Cutting.{ended_lines, begun_line, last_line, lines_of, answers_to, answers_in}
use Rattle.chunks.proofs.Cuts.{ended_append, begun_append, answers_append}
use Rattle.chunks.proofs.Long.{begun_cut, ended_cut, last_cut}

module _ (size : ℕ) (long : 65535 < size) where
  from_begun : (g h : List ℕ) → take size g ≡ take size h → (chunks : List (List ℕ))
      → answers_in size g chunks
      ≡ answers_to (ended_lines h (flatten chunks)) ++ answers_to (last_line (begun_line h (flatten chunks)))
  unfolding answers_in flatten ended_lines begun_line answers_to
  from_begun g h e [] = last_cut size long g h e
  from_begun g h e (c ∷ more) =
      let rest = flatten more in
      let next = begun_line h c in
      let held : take size (take size (begun_line g c)) ≡ take size next =
      take-take size size (begun_line g c) (omega arith) ∙ begun_cut size long g h e c
      in
      rw (
        ended_append h c rest,
        begun_append h c rest,
        answers_append (ended_lines h c) (ended_lines next rest),
        append_assoc (answers_to (ended_lines h c)) (answers_to (ended_lines next rest))
            (answers_to (last_line (begun_line next rest))),
        ended_cut size long g h e c,
      )
      (ap (λ (l : List ℕ). answers_to (ended_lines h c) ++ l) (from_begun (take size (begun_line g c)) next held more))

  pub in_chunks : (chunks : List (List ℕ)) → answers_in size [] chunks ≡ answers_to (lines_of (flatten chunks))
  unfolding lines_of
  in_chunks chunks =
      from_begun [] [] refl chunks
      ∙ sym (answers_append (ended_lines [] (flatten chunks)) (last_line (begun_line [] (flatten chunks))))
