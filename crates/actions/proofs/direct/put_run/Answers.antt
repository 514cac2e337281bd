-- `actions::direct::put_run` meets its contract: the byte is repeated, or a refusal for want of room. Assumes nothing.
use Rattle.rules.specs.declared.refusal.Refusal.TheVariants.{NoRoom}
use mathlib.Core.Path.{sym}
use lib.ListN.{replicate, length-replicate}
use Rattle.actions.proofs.DirectLaws.{direct_put, direct_full, run_put}
use Rattle.actions.proofs.ActLaws.{untouched_on, untouched_refused}
use Rattle.actions.proofs.direct.put_run.Goals as goal

pub returns-then-n-out-clause-puts : goal.returns-then-n-out-clause-puts
returns-then-n-out-clause-puts c =
    let a = c.args in
    λ count k. direct_put a.spot a.next.0 count a.n a.out.now (replicate a.n a.byte) (sym (length-replicate a.n a.byte)) _ c.go_on.ensures
    (run_put a.out.now a.spot.at a.n a.byte _ c.requires c.if-n-out.true c.fill.ensures) k

pub returns-then-n-out-clause-untouched : goal.returns-then-n-out-clause-untouched
returns-then-n-out-clause-untouched c = untouched_on _ c.go_on.ensures

pub returns-clause-puts : goal.returns-clause-puts
returns-clause-puts c =
    let a = c.args in
    λ count k. direct_full a.spot a.next.0 count a.n a.out.now (replicate a.n a.byte) (sym (length-replicate a.n a.byte)) _ a.next.0 c.refuse.ensures c.requires c.if-n-out.false k

pub returns-clause-untouched : goal.returns-clause-untouched
returns-clause-untouched c = untouched_refused _ NoRoom c.refuse.ensures
