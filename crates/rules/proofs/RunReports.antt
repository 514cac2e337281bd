-- What the run of an accepted text reports: codes 6 to 9, of which 8 stands for the value of a `v` or `#` only, at places
-- of the text, where all its pieces stand too. So the run's own refusals 4 and 5 are never met. Assumes nothing.
use Prim.Native.Nat.{ℕ, zero, suc, ◌+◌, ◌-◌, ◌<◌, ◌≤◌}
use mathlib.Core.Path.{◌≡◌, refl}
use mathlib.Core.Bool.{Bool, true, false, cond}
use mathlib.Core.List.{List, [], ◌∷◌}
use native.Mathlib.Omega.{arith}
use lib.Dec.{ltb, leb, eqb}
use lib.IntN.{ℤ, pos, negsuc}
use lib.ListN.{length}
use borrow.Author.Tests.{lt-ltb}
use Rattle.rules.specs.Act.{Act, writes, shows, moves, refuses, act_from, jump_to, jump, act_by, act_after, act_of}
use Rattle.rules.specs.Choice.{either, choose}
use Rattle.rules.specs.Directive.{item_at}
use Rattle.rules.specs.Rows.{places_in, in_row, in_order, accepts}
use Rattle.rules.specs.Flow.{Flow, done, refused, put}
use Rattle.rules.specs.Piece.{or_else, text_of, kind_of}
use Rattle.rules.specs.Run.{begin, Outside, same_arguments, other, Frame, iteration, conditional, afterwards, used_up, one_less, fallback_of, clause_at, pick_number, pick_integer, is_false, on_settled, done_with, joined, with_settings, with_argument, item_acts, Onward, pick_by, pick_numbered, pick, over_list, enter, leave, nested, turn, walk, run}
use Rattle.rules.specs.Table.{Value, boolean, integer, character, string, list, View}
use Rattle.rules.specs.Text.{Sequence, end, acts, escapes, iterates, chooses, Clauses, none, clause, deepest, text_verdict, sequence_of}
use Rattle.rules.specs.Working.{Context, go_to, none_remain, argument_in, Settled, settled, unsettled, settings_of, settle_directive, Source, own, back, given, source_of}
use Rattle.rules.specs.declared.Code.{Code}
use Rattle.rules.specs.declared.Code.TheVariants.{Writes, Jump, Escape, Opens, Separator, Closes, Unknown}
use Rattle.rules.specs.declared.Directive.{Directive}
use Rattle.rules.specs.declared.Form.{Form}
use Rattle.rules.specs.declared.Item.{Item}
use Rattle.rules.specs.declared.Item.TheVariants.{End, Literal, Written, BadNumber, Unfinished}
use Rattle.rules.specs.Setting.{Setting}
use Rattle.std.specs.Prelude.{None, Some}
use Rattle.rules.specs.declared.Settings.{Settings}
use Rattle.rules.specs.Verdict.{Accepted}
use Rattle.rules.proofs.OutOfRange.{MeetsOutOfRange, AllWorked, settle_worked}
use Rattle.rules.proofs.Rowed.{written_suits}
use Rattle.rules.proofs.WellFormed.{WrittenAt, ActsIn, WellFormed, WellFormedClauses, sequence_formed}

-- the directive at p has a `v` or `#` whose value is outside its place's range, with some arguments in hand
pub record OutOfRangeAt (v : View) (t : List ℕ) (p : ℕ) : Type 0 where
  pub directive : Directive
  pub stands : item_at t p ≡ Written directive
  pub hand : Context
  pub meets : MeetsOutOfRange v hand (in_row (places_in directive)) (in_order directive.parameters) hand.next

-- what a run may be refused for, at p and with so many steps left
pub record RunRefusal (v : View) (t : List ℕ) (code p left : ℕ) : Type 0 where
  pub inside : p < length t
  pub least : 6 ≤ code
  pub most : code ≤ 9
  pub range : code ≡ 8 → OutOfRangeAt v t p
  pub spent : code ≡ 9 → left ≡ 0

abbrev pub Reports : View → List ℕ → Flow → Type 0
Reports v t (done left over) = Unit {0}
Reports v t (refused code p left) = RunRefusal v t code p left
Reports v t (put p left piece more) = (p < length t) × Reports v t more

acts_inside : (t : List ℕ) (p : ℕ) (x : Item) → ActsIn t p x → p < length t
acts_inside t p End a = a
acts_inside t p (Literal b) a = a
acts_inside t p (Written d) a = a.inside
acts_inside t p BadNumber a = a
acts_inside t p Unfinished a = a

-- the open blocks of a text, with k levels left inside them
unfoldable pub WellFormedFrames : List ℕ → ℕ → List Frame → Type 0
WellFormedFrames t k [] = Unit {0}
WellFormedFrames t k (iteration p passes body rest out ∷ ks) =
    (p < length t) × WellFormed t k body × WellFormed t (suc k) rest × WellFormedFrames t (suc k) ks
WellFormedFrames t k (conditional rest ∷ ks) = WellFormed t (suc k) rest × WellFormedFrames t (suc k) ks

-- a clause of well-formed clauses
module _ (t : List ℕ) (k : ℕ) where
  fallback_formed : (cs : Clauses) → WellFormedClauses t k cs → WellFormed t k (fallback_of cs)
  unfolding WellFormed fallback_of
  fallback_formed none w = tt
  fallback_formed (clause colon x none) w = by colon
    where
      by : (b : Bool) → WellFormed t k (cond b x end)
      by true = w.0
      by false = tt
  fallback_formed (clause colon x (clause colon₂ y more)) w = fallback_formed (clause colon₂ y more) w.1

  clause_formed : (cs : Clauses) (n : ℕ) (otherwise : Sequence) → WellFormedClauses t k cs → WellFormed t k otherwise
      → WellFormed t k (clause_at cs n otherwise)
  unfolding WellFormed clause_at
  clause_formed none n otherwise w o = o
  clause_formed (clause colon x more) zero otherwise w o = w.0
  clause_formed (clause colon x more) (suc n) otherwise w o = clause_formed more n otherwise w.1 o

  end_formed : WellFormed t k end
  unfolding WellFormed
  end_formed = tt

  number_formed : (cs : Clauses) (n : ℕ) → WellFormedClauses t k cs → WellFormed t k (pick_number cs n)
  number_formed cs n w = clause_formed cs n (fallback_of cs) w (fallback_formed cs w)

  integer_formed : (cs : Clauses) (z : ℤ) → WellFormedClauses t k cs → WellFormed t k (pick_integer cs z)
  integer_formed cs (pos n) w = number_formed cs n w
  integer_formed cs (negsuc n) w = fallback_formed cs w

module _ (v : View) (t : List ℕ) where
  choose_reports : (b : Bool) (x y : Bool → Flow) → Reports v t (x true) → Reports v t (y false)
      → Reports v t (choose b x y)
  choose_reports true x y h k = h
  choose_reports false x y h k = k

  -- what an act at p may be refused for, with m steps left
  abbrev Refusable : ℕ → ℕ → Act → Type 0
  Refusable p m (writes text next) = Unit {0}
  Refusable p m (shows f d s i next) = Unit {0}
  Refusable p m (moves next) = Unit {0}
  Refusable p m (refuses code) = RunRefusal v t code p m

  module _ (p : ℕ) (h : p < length t) where
    -- 6 and 7
    plain_refusal : (code m : ℕ) → 6 ≤ code → code ≤ 7 → RunRefusal v t code p m
    plain_refusal code m a b = record {
      inside = h;
      least = a;
      most = omega arith;
      range = λ e. absurd (omega arith);
      spent = λ e. absurd (omega arith);
    }

    no_argument_lem : {m : ℕ} → RunRefusal v t 6 p m
    no_argument_lem {m} = plain_refusal 6 m (omega arith) (omega arith)

    wrong_kind : {m : ℕ} → RunRefusal v t 7 p m
    wrong_kind {m} = plain_refusal 7 m (omega arith) (omega arith)

    no_step : RunRefusal v t 9 p 0
    no_step = record {
      inside = h;
      least = omega arith;
      most = omega arith;
      range = λ e. absurd (omega arith);
      spent = λ e. refl;
    }

    begin_reports : (n : ℕ) (on : ℕ → Flow) → ((m : ℕ) → Reports v t (on m)) → Reports v t (begin p n on)
    begin_reports zero on r = no_step
    begin_reports (suc m) on r = r m

    argument_reports : (m : ℕ) (c : Context) (i : ℕ) (on : Value → Flow) → ((x : Value) → Reports v t (on x))
        → Reports v t (with_argument v p m c i on)
    argument_reports m c i on r =
        choose_reports (ltb i c.count) (λ _. on (argument_in v c i)) (λ _. refused 6 p m)
        (r (argument_in v c i)) no_argument_lem

    joined_reports : (value : ℕ → Value) (m : ℕ) (a : Act) (on : ℕ → Flow) → Refusable p m a → ((i : ℕ) → Reports v t (on i))
        → Reports v t (joined value p m a on)
    joined_reports value m (writes text next) on k r = (h, r next)
    joined_reports value m (shows f d s i next) on k r =
        choose_reports (accepts f (kind_of (value i))) (λ _. put p m (text_of f d.colon d.atsign s (value i)) (on next))
        (λ _. refused 7 p m) (h, r next) wrong_kind
    joined_reports value m (moves next) on k r = r next
    joined_reports value m (refuses code) on k r = k

    either_refusable : (m : ℕ) (b : Bool) (x y : Act) → Refusable p m x → Refusable p m y → Refusable p m (cond b x y)
    either_refusable m true x y h k = h
    either_refusable m false x y h k = k

    source_refusable : (m count : ℕ) (f : Form) (d : Directive) (s : Settings) (next : ℕ) (x : Source)
        → Refusable p m (act_from count f d s next x)
    source_refusable m count f d s next own = either_refusable m (ltb next count) _ (refuses 6) tt no_argument_lem
    source_refusable m count f d s next back =
        either_refusable m (eqb next 0) (refuses 6) _ no_argument_lem
        (either_refusable m (ltb (next - 1) count) (shows f d s (next - 1) next) (refuses 6) tt no_argument_lem)
    source_refusable m count f d s next (given x) =
        either_refusable m (accepts f (kind_of x)) (writes _ next) (refuses 7) tt wrong_kind

    to_refusable : (m count i : ℕ) → Refusable p m (jump_to count i)
    to_refusable m count i = either_refusable m (leb i count) (moves i) (refuses 6) tt no_argument_lem

    jump_refusable : (m count : ℕ) (d : Directive) (s : Settings) (next : ℕ) → Refusable p m (jump count d s next)
    jump_refusable m count d s next =
        let n = or_else s.first 1 in
        either_refusable m d.atsign (jump_to count (or_else s.first 0)) _ (to_refusable m count (or_else s.first 0))
        (either_refusable m d.colon (cond (leb n next) (jump_to count (next - n)) (refuses 6)) (jump_to count (next + n))
        (either_refusable m (leb n next) (jump_to count (next - n)) (refuses 6) (to_refusable m count (next - n)) no_argument_lem)
        (to_refusable m count (next + n)))

    by_refusable : (m count : ℕ) (d : Directive) (code : Code) (s : Settings) (next : ℕ) → Refusable p m (act_by count d code s next)
    by_refusable m count d (Writes f) s next = source_refusable m count f d s next (source_of f d.colon s)
    by_refusable m count d Jump s next = jump_refusable m count d s next
    by_refusable m count d Escape s next = tt
    by_refusable m count d (Opens b) s next = tt
    by_refusable m count d Separator s next = tt
    by_refusable m count d (Closes b) s next = tt
    by_refusable m count d Unknown s next = tt

  -- a well-written directive's parameters
  module _ (p : ℕ) (d : Directive) (w : WrittenAt t p d) (m : ℕ) (c : Context) where
    abbrev Met : Settled → Type 0
    Met z = AllWorked (MeetsOutOfRange v c (in_row (places_in d)) (in_order d.parameters) c.next) z

    met : Met (settle_directive v c d)
    met =
        rw w.written
        (settle_worked v c (in_row (places_in d)) (in_order d.parameters) c.next (written_suits d w.written))

    unsettled_refusal : (code : ℕ) → Met (unsettled code) → RunRefusal v t code p m
    unsettled_refusal code a = record {
      inside = w.inside;
      least = a.least;
      most = omega (arith, a.most);
      range = λ e. record { directive = d; stands = w.is; hand = c; meets = a.range e };
      spent = λ e. absurd (omega (arith, a.most));
    }

    settled_reports : (on : Settings → ℕ → Flow) → ((s : Settings) (i : ℕ) → Reports v t (on s i)) → (z : Settled) → Met z
        → Reports v t (on_settled p m z on)
    settled_reports on r (settled ss next) a = r (settings_of ss) next
    settled_reports on r (unsettled code) a = unsettled_refusal code a

    settings_reports : (on : Settings → ℕ → Flow) → ((s : Settings) (i : ℕ) → Reports v t (on s i))
        → Reports v t (with_settings v p m d c on)
    settings_reports on r = settled_reports on r (settle_directive v c d) met

    after_refusable : (z : Settled) → Met z → Refusable p m (act_after c.count d z)
    after_refusable (settled ss next) a = by_refusable p w.inside m c.count d d.code (settings_of ss) next
    after_refusable (unsettled code) a = unsettled_refusal code a

  item_refusable : (p m : ℕ) (x : Item) (c : Context) → ActsIn t p x → Refusable p m (act_of v c x)
  unfolding act_of
  item_refusable p m End c a = tt
  item_refusable p m (Literal b) c a = tt
  item_refusable p m (Written d) c a = after_refusable p d a m c (settle_directive v c d) (met p d a m c)
  item_refusable p m BadNumber c a = tt
  item_refusable p m Unfinished c a = tt

  item_reports : (p m : ℕ) (x : Item) (c : Context) (on : ℕ → Flow) → ActsIn t p x → ((i : ℕ) → Reports v t (on i))
      → Reports v t (item_acts v p m x c on)
  item_reports p m x c on a r =
      joined_reports p (acts_inside t p x a) (λ i. argument_in v c i) m (act_of v c x) on (item_refusable p m x c a) r

  -- the openers: which clause, and which list
  module _ (p : ℕ) (h : p < length t) (m : ℕ) where
    module _ (k : ℕ) (cs : Clauses) (w : WellFormedClauses t k cs) (c : Context) (next : ℕ) (on : Sequence → ℕ → Flow)
        (r : (x : Sequence) (i : ℕ) → WellFormed t k x → Reports v t (on x i)) where
      by_reports : (x : Value) → Reports v t (pick_by v p m cs c next on x)
      by_reports (boolean b) = wrong_kind p h
      by_reports (integer z) = r (pick_integer cs z) (next + 1) (integer_formed t k cs z w)
      by_reports (character b) = wrong_kind p h
      by_reports (string s) = wrong_kind p h
      by_reports (list first count) = wrong_kind p h

      numbered_reports : (x : Setting) → Reports v t (pick_numbered v p m cs c next on x)
      numbered_reports None = argument_reports p h m c next (λ x. pick_by v p m cs c next on x) by_reports
      numbered_reports (Some n) = r (pick_number cs n) next (number_formed t k cs n w)

      picked : (b : Bool) → WellFormed t k (cond b end (clause_at cs 0 end))
      picked true = end_formed t k
      picked false = clause_formed t k cs 0 end w (end_formed t k)

      -- `~:[` and `~@[`
      two_reports : Reports v t (with_argument v p m c next (λ x. on (clause_at cs (cond (is_false x) 0 1) end) (next + 1)))
      two_reports =
          argument_reports p h m c next (λ x. on (clause_at cs (cond (is_false x) 0 1) end) (next + 1))
          (λ x. r (clause_at cs (cond (is_false x) 0 1) end) (next + 1)
          (clause_formed t k cs (cond (is_false x) 0 1) end w (end_formed t k)))

      one_reports : Reports v t (with_argument v p m c next
          (λ x. on (cond (is_false x) end (clause_at cs 0 end)) (cond (is_false x) (next + 1) next)))
      one_reports =
          argument_reports p h m c next
          (λ x. on (cond (is_false x) end (clause_at cs 0 end)) (cond (is_false x) (next + 1) next))
          (λ x. r (cond (is_false x) end (clause_at cs 0 end)) (cond (is_false x) (next + 1) next) (picked (is_false x)))

      pick_reports : (d : Directive) (s : Settings) → Reports v t (pick v p m d cs c s next on)
      pick_reports d s =
          choose_reports d.colon _ _ two_reports
          (choose_reports d.atsign _ (λ _. pick_numbered v p m cs c next on s.first) one_reports (numbered_reports s.first))

    list_reports : (on : Context → Flow) → ((c : Context) → Reports v t (on c)) → (x : Value)
        → Reports v t (over_list v p m on x)
    list_reports on r (boolean b) = wrong_kind p h
    list_reports on r (integer z) = wrong_kind p h
    list_reports on r (character b) = wrong_kind p h
    list_reports on r (string s) = wrong_kind p h
    list_reports on r (list first count) = r (record { first = first; count = count; next = 0 })

    enter_reports : (d : Directive) (body rest : Sequence) (c : Context) (s : Settings) (next : ℕ)
        (on : Frame → Context → Flow)
        → ((passes : Setting) (out : Outside) (inner : Context) → Reports v t (on (iteration p passes body rest out) inner))
        → Reports v t (enter v p m d body rest c s next on)
    enter_reports d body rest c s next on r =
        let inside : Context → Flow = λ inner. on (iteration p s.first body rest (other (go_to c (next + 1)))) inner in
        choose_reports d.atsign (λ _. on (iteration p s.first body rest same_arguments) (go_to c next))
        (λ _. with_argument v p m c next (λ x. over_list v p m inside x))
        (r s.first same_arguments (go_to c next))
        (argument_reports p h m c next (λ x. over_list v p m inside x)
        (list_reports inside (r s.first (other (go_to c (next + 1))))))

  -- going on with a well-formed sequence inside well-formed blocks
  abbrev GoesOn : Onward v → Type 0
  GoesOn next =
      (x : Sequence) (ks : List Frame) (c : Context) (k : ℕ) → length ks + k ≡ deepest → WellFormed t k x
      → WellFormedFrames t k ks → Reports v t (next x ks c)

  module _ (next : Onward v) (g : GoesOn next) (n : ℕ) where
    leave_reports : (m : ℕ) (ks : List Frame) (c : Context) (k : ℕ) → length ks + k ≡ deepest → WellFormedFrames t k ks
        → Reports v t (leave v next m ks c)
    unfolding WellFormedFrames
    leave_reports m [] c k l f = tt
    leave_reports m (iteration p passes body rest out ∷ ks) c k l f =
        g rest ks (afterwards out c) (suc k) (omega arith) f.2 f.3
    leave_reports m (conditional rest ∷ ks) c k l f = leave_reports m ks c (suc k) (omega arith) f.1

    nested_reports : (p : ℕ) (ks : List Frame) (on : Bool → Flow) → length ks < deepest → Reports v t (on true)
        → Reports v t (nested v p n ks on)
    nested_reports p ks on l r = rw (lt-ltb (length ks) deepest l) r

    -- inside an iteration that is entered, and inside a clause that is picked
    module _ (p : ℕ) (d : Directive) (w : WrittenAt t p d) (rest : Sequence) (ks : List Frame) (k : ℕ)
        (l : length ks + suc k ≡ deepest) (y : WellFormed t (suc k) rest) (f : WellFormedFrames t (suc k) ks)
        (c : Context) where
      iterates_reports : (body : Sequence) → WellFormed t k body → (m : ℕ)
          → Reports v t (with_settings v p m d c (λ s i. enter v p m d body rest c s i (λ z inner. next end (z ∷ ks) inner)))
      unfolding WellFormedFrames
      iterates_reports body b m =
          settings_reports p d w m c (λ s i. enter v p m d body rest c s i (λ z inner. next end (z ∷ ks) inner))
          (λ s i. enter_reports p w.inside m d body rest c s i (λ z inner. next end (z ∷ ks) inner)
          (λ passes out inner. g end (iteration p passes body rest out ∷ ks) inner k (omega arith) (end_formed t k)
          (w.inside, b, y, f)))

      chooses_reports : (cs : Clauses) → WellFormedClauses t k cs → (m : ℕ)
          → Reports v t (with_settings v p m d c
          (λ s i. pick v p m d cs c s i (λ x after. next x (conditional rest ∷ ks) (go_to c after))))
      unfolding WellFormedFrames
      chooses_reports cs b m =
          settings_reports p d w m c (λ s i. pick v p m d cs c s i (λ x after. next x (conditional rest ∷ ks) (go_to c after)))
          (λ s i. pick_reports p w.inside m k cs b c i (λ x after. next x (conditional rest ∷ ks) (go_to c after))
          (λ x after q. g x (conditional rest ∷ ks) (go_to c after) k (omega arith) q (y, f)) d s)

    turn_reports : (ks : List Frame) (ended : Context → Flow) → ((c : Context) → Reports v t (ended c))
        → (x : Sequence) (c : Context) (k : ℕ)
        → length ks + k ≡ deepest → WellFormed t k x → WellFormedFrames t k ks → Reports v t (turn v next n ks ended x c)
    unfolding turn WellFormed
    turn_reports ks ended e end c k l w f = e c
    turn_reports ks ended e (acts p x rest) c k l w f =
        begin_reports p (acts_inside t p x w.0) n _
        (λ m. item_reports p m x c (λ i. next rest ks (go_to c i)) w.0 (λ i. g rest ks (go_to c i) k l w.1 f))
    turn_reports ks ended e (escapes p rest) c k l w f =
        begin_reports p w.0 n _
        (λ m. choose_reports (none_remain c) (λ _. leave v next m ks c) (λ _. next rest ks c)
        (leave_reports m ks c k l f) (g rest ks c k l w.1 f))
    turn_reports ks ended e (iterates p d body rest) c zero l w f = absurd w
    turn_reports ks ended e (iterates p d body rest) c (suc k) l w f =
        nested_reports p ks _ (omega arith)
        (begin_reports p w.0.inside n _ (iterates_reports p d w.0 rest ks k l w.2 f c body w.1))
    turn_reports ks ended e (chooses p d cs rest) c zero l w f = absurd w
    turn_reports ks ended e (chooses p d cs rest) c (suc k) l w f =
        nested_reports p ks _ (omega arith)
        (begin_reports p w.0.inside n _ (chooses_reports p d w.0 rest ks k l w.2 f c cs w.1))

    walk_reports : (ks : List Frame) (x : Sequence) (c : Context) (k : ℕ) → length ks + k ≡ deepest → WellFormed t k x
        → WellFormedFrames t k ks → Reports v t (walk v next n ks x c)
    unfolding walk WellFormedFrames
    walk_reports [] x c k l w f = turn_reports [] (λ c. done_with n c) (λ c. tt) x c k l w f
    walk_reports (iteration p passes body rest out ∷ ks) x c k l w f =
        turn_reports (iteration p passes body rest out ∷ ks) _
        (λ c. choose_reports (either (none_remain c) (used_up passes)) (λ _. walk v next n ks rest (afterwards out c))
        (λ _. begin p n (λ m. next body (iteration p (one_less passes) body rest out ∷ ks) c))
        (walk_reports ks rest (afterwards out c) (suc k) (omega arith) f.2 f.3)
        (begin_reports p f.0 n _ (λ m. g body (iteration p (one_less passes) body rest out ∷ ks) c k l f.1 f)))
        x c k l w f
    walk_reports (conditional rest ∷ ks) x c k l w f =
        turn_reports (conditional rest ∷ ks) _ (λ c. walk_reports ks rest c (suc k) (omega arith) f.0 f.1) x c k l w f

  run_goes : (n : ℕ) → GoesOn (λ x ks c. run v n x ks c)
  unfolding run
  run_goes zero x ks c k l w f = walk_reports (λ x₂ ks₂ c₂. done_with 0 c₂) (λ x₂ ks₂ c₂ k₂ l₂ w₂ f₂. tt) 0 ks x c k l w f
  run_goes (suc m) x ks c k l w f = walk_reports (λ x₂ ks₂ c₂. run v m x₂ ks₂ c₂) (run_goes m) (suc m) ks x c k l w f

  pub run_reports : text_verdict t ≡ Accepted → (n : ℕ) (c : Context) → Reports v t (run v n (sequence_of t) [] c)
  unfolding WellFormedFrames
  run_reports e n c = run_goes n (sequence_of t) [] c deepest refl (sequence_formed t e) tt
