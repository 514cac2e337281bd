-- A run that gets to the end of a sequence, with steps left and no more bytes than a way has. Assumes nothing.
use Prim.Native.Nat.{ℕ, ◌+◌, ◌-◌, ◌≤◌}
use mathlib.Core.List.{List, [], ◌∷◌, ◌++◌}
use native.Mathlib.Omega.{arith}
use lib.ListN.{length, length-append}
use Rattle.rules.specs.Flow.{Flow, put, Stretch, still, onward}
use Rattle.rules.specs.Run.{Frame, conditional, run}
use Rattle.rules.specs.Table.{View}
use Rattle.rules.specs.Text.{Sequence, end, deepest}
use Rattle.rules.proofs.FlowLaws.{stretch_join}
use Rattle.rules.proofs.RunLaws.{run_clause_end}
use Rattle.vet_rules.specs.Use.{in_hand}
use Rattle.vet_rules.specs.Ways.{way_of}
use Rattle.vet_rules.proofs.Meetings.{Led, Grows}
use Rattle.vet_rules.proofs.Weights.{weight}

module _ (v : View) (count : ℕ) where
  -- A flow gets to the end of a sequence at the argument n with `least` steps left at the least; what it gives, and `sum`
  -- bytes before it, are at most s
  pub record Reached (f : Flow) (ks : List Frame) (least sum n s : ℕ) : Type 0 where
    pub left : ℕ
    pub text : List ℕ
    pub stretch : Stretch f (run v left end ks (in_hand count n)) text
    pub short : sum + length text ≤ s
    pub enough : least ≤ left

  -- the sequence x from the argument `next` in at most `most` steps, inside any blocks that leave k levels
  abbrev pub Runs : ℕ → ℕ → Sequence → ℕ → ℕ → ℕ → ℕ → Type 0
  Runs k most x next sum n s =
      (ks : List Frame) → length ks + k ≤ deepest → (left : ℕ) → most ≤ left
      → Reached (run v left x ks (in_hand count next)) ks (left - most) sum n s

  -- with fewer steps left at the least, or more bytes at the most
  pub reached_weaker : {f : Flow} {ks : List Frame} {least less sum fewer n s more : ℕ} → less ≤ least → fewer ≤ sum
      → s ≤ more → Reached f ks least sum n s → Reached f ks less fewer n more
  reached_weaker h k l r = record {
    left = r.left;
    text = r.text;
    stretch = r.stretch;
    short = omega (arith, r.short);
    enough = omega (arith, r.enough);
  }

  pub runs_grow : (k most : ℕ) (x : Sequence) (next sum : ℕ) → Grows (Runs k most x next sum)
  runs_grow k most x next sum n s more l r ks h left t = reached_weaker (omega arith) (omega arith) l (r ks h left t)

  -- at the end already
  pub reached_end : (left : ℕ) (ks : List Frame) (least sum n s : ℕ) → least ≤ left → sum ≤ s
      → Reached (run v left end ks (in_hand count n)) ks least sum n s
  reached_end left ks least sum n s h l =
      record { left = left; text = []; stretch = still; short = omega arith; enough = h }

  -- a piece of at most `most` bytes, and then the rest
  pub reached_piece : {f : Flow} {ks : List Frame} {least n s : ℕ} (p m : ℕ) (w : List ℕ) (sum most : ℕ) → length w ≤ most
      → Reached f ks least (sum + most) n s → Reached (put p m w f) ks least sum n s
  reached_piece p m w sum most h r = record {
    left = r.left;
    text = w ++ r.text;
    stretch = onward r.stretch;
    short = omega (arith, r.short, length-append w r.text);
    enough = r.enough;
  }

  -- a clause to its end, and then what follows the conditional, in at most `most` steps
  pub reached_after : {f : Flow} {ks : List Frame} {n s : ℕ} (rest : Sequence) (a c least most sum : ℕ)
      → Reached f (conditional rest ∷ ks) least 0 a c
      → ((left : ℕ) → least ≤ left → Reached (run v left rest ks (in_hand count a)) ks (left - most) (sum + c) n s)
      → Reached f ks (least - most) sum n s
  reached_after rest a c least most sum one on =
      let two = on one.left one.enough in
      record {
        left = two.left;
        text = one.text ++ two.text;
        stretch = stretch_join one.stretch (rw (run_clause_end v (in_hand count a) rest _ one.left) two.stretch);
        short = omega (arith, one.short, two.short, length-append one.text two.text);
        enough = omega (arith, one.enough, two.enough);
      }

-- a sequence runs to wherever its way leads, from any argument, in as many steps as it has elements
abbrev pub Walks : List ℕ → ℕ → View → ℕ → Sequence → Type 0
Walks kinds longest v k x =
    (next sum : ℕ) → Led (Runs v (length kinds) k (weight x) x next sum) (way_of kinds longest x next sum)
