-- The count meets its contracts. The text that is left falls at each call and in each turn of a loop. The loops: whatever
-- comes from here is what comes from the start. Assumes nothing.
use mathlib.Core.Path.{refl, sym, ap, ◌∙◌}
use native.Mathlib.Omega.{arith}
use Rattle.std.proofs.lemmas.Result.{err_from_is_err_and}
use Rattle.rules.proofs.TextLaws.{next_inside}
use Rattle.vet_rules.specs.Ways.{with_none}
use Rattle.vet_turns.proofs.TurnBy.{writing_of}
use Rattle.vet.proofs.VettablePlaces.{next_vettable, vettable_writes, vettable_opens}
use Rattle.vet.proofs.Elements.{literal_is, writes_on, writes_fails, separator_is, closer_is, end_is}
use Rattle.vet.proofs.Sequences.{walk_ends}
use Rattle.vet.proofs.ClauseWays.{gather_fails, gather_on, gather_last, start_inside, block_stops, block_fails, block_leads, block_parts}
use Rattle.vet.proofs.counting.+counts.Goals as goal

pub count_block-returns-in-Err : goal.count_block-returns-in-Err
count_block-returns-in-Err t c =
    let a = c.args in
    block_stops a.format.now a.question.now.kinds.now a.question.now.longest a.p a.next.0 a.d c.requires.p_value c.requires.opener _
    (sym (c.in-Err.ensures a.question.now.longest))

pub count_block-count_clauses-requires : goal.count_block-count_clauses-requires
count_block-count_clauses-requires t c =
    let a = c.args in (
      omega (arith, c.decreases),
      (
        next_vettable c.requires.vettable_at a.d c.requires.p_value,
        start_inside a.format.now a.question.now.kinds.now a.question.now.longest a.p a.next.0 a.d c.requires.p_value c.requires.opener
            c.requires.next_in_bounds _ _ (sym (c.in-Ok.ensures a.question.now.longest)),
      ),
    )

pub count_block-returns-in_err-ends : goal.count_block-returns-in_err-ends
count_block-returns-in_err-ends t c =
    let a = c.args in
    let p = err_from_is_err_and c.from_residual.result c.from_residual.ensures.1 in
    rw (p.1, p.2)
    (block_fails a.format.now a.question.now.kinds.now a.question.now.longest a.p a.next.0 a.d c.requires.p_value c.requires.opener
    c.requires.next_in_bounds _ _ (sym (c.in-Ok.ensures a.question.now.longest)) c.in_err-ends.ensures)

pub count_block-returns-in-Equal : goal.count_block-returns-in-Equal
count_block-returns-in-Equal t c =
    let a = c.args in
    block_leads a.format.now a.question.now.kinds.now a.question.now.longest a.p a.next.0 a.d c.requires.p_value c.requires.opener
    c.requires.next_in_bounds _ _ (sym (c.in-Ok.ensures a.question.now.longest)) _ _ c.in_ok-ends.ensures _ _ c.in-Equal.is

pub count_block-returns-in_default : goal.count_block-returns-in_default
count_block-returns-in_default t c =
    let a = c.args in
    block_parts a.format.now a.question.now.kinds.now a.question.now.longest a.p a.next.0 a.d c.requires.p_value c.requires.opener
    c.requires.next_in_bounds _ _ (sym (c.in-Ok.ensures a.question.now.longest)) _ _ c.in_ok-ends.ensures c.in_default.not-Equal

pub count_clauses-returns-in_err-counted : goal.count_clauses-returns-in_err-counted
count_clauses-returns-in_err-counted t c =
    let p = err_from_is_err_and c.from_residual.result c.from_residual.ensures.1 in
    rw (p.1, p.2) (gather_fails c.loop-counted.invariant c.in_err-counted.ensures)

pub count_clauses-loop-counted-preserved : goal.count_clauses-loop-counted-preserved
count_clauses-loop-counted-preserved t c =
    gather_on c.loop-counted.invariant (rw c.in-Another.is at c.in_ok-counted.ensures) c.meet-ends.result c.meet-ends.ensures

pub count_clauses-returns-in-Last : goal.count_clauses-returns-in-Last
count_clauses-returns-in-Last t c =
    let a = c.args in
    gather_last c.loop-counted.invariant (rw c.in-Last.is at c.in_ok-counted.ensures) c.with_none.result
    (c.with_none.ensures ∙ ap (with_none a.d c.loop-counted.fallback a.start.0) c.meet-ends.ensures)

pub count_element-turn_form-requires-clause-writing : goal.count_element-turn_form-requires-clause-writing
count_element-turn_form-requires-clause-writing t c =
    let is = sym c.item_at.ensures ∙ c.in-Written.is in
    writing_of _ (vettable_writes c.requires.vettable_at _ is _ c.in-Writes.is) _ c.in-Writes.is

pub count_element-count_block-requires : goal.count_element-count_block-requires
count_element-count_block-requires t c =
    let a = c.args in
    let is = sym c.item_at.ensures ∙ c.in-Written.is in
    let inside = next_inside a.format.now a.p _ is in (
      omega (arith, c.decreases, inside.above, inside.most),
      (c.requires.vettable_at, (is, (vettable_opens c.requires.vettable_at _ is _ c.in-Opens.is, c.requires.next_in_bounds))),
    )

pub count_element-returns-in-Literal : goal.count_element-returns-in-Literal
count_element-returns-in-Literal t c =
    let a = c.args in
    literal_is a.format.now a.question.now.kinds.now a.question.now.longest a.p a.next.0 c.requires.vettable_at (omega arith)
    c.requires.next_in_bounds _ (sym c.item_at.ensures ∙ c.in-Literal.is)

pub count_element-returns-in-Ok : goal.count_element-returns-in-Ok
count_element-returns-in-Ok t c =
    let a = c.args in
    writes_on a.format.now a.question.now.kinds.now a.question.now.longest a.p a.next.0 c.requires.vettable_at (omega arith)
    c.requires.next_in_bounds _ (sym c.item_at.ensures ∙ c.in-Written.is) _ c.in-Writes.is _ _ c.in-Ok.ensures

pub count_element-returns-in-Err : goal.count_element-returns-in-Err
count_element-returns-in-Err t c =
    let a = c.args in
    writes_fails a.format.now a.question.now.kinds.now a.question.now.longest a.p a.next.0 c.requires.vettable_at (omega arith)
    c.requires.next_in_bounds _ (sym c.item_at.ensures ∙ c.in-Written.is) _ c.in-Writes.is _ c.in-Err.ensures

pub count_element-returns-in-Separator : goal.count_element-returns-in-Separator
count_element-returns-in-Separator t c =
    let a = c.args in
    separator_is a.format.now a.question.now.kinds.now a.question.now.longest a.p a.next.0 c.requires.vettable_at (omega arith)
    c.requires.next_in_bounds _ (sym c.item_at.ensures ∙ c.in-Written.is) c.in-Separator.is

pub count_element-returns-in_default-code : goal.count_element-returns-in_default-code
count_element-returns-in_default-code t c =
    let a = c.args in
    closer_is a.format.now a.question.now.kinds.now a.question.now.longest a.p a.next.0 c.requires.vettable_at (omega arith)
    c.requires.next_in_bounds _ (sym c.item_at.ensures ∙ c.in-Written.is) _ refl c.in_default-code.not-Writes c.in_default-code.not-Opens
    c.in_default-code.not-Separator

pub count_element-returns-in_default : goal.count_element-returns-in_default
count_element-returns-in_default t c =
    let a = c.args in
    end_is a.format.now a.question.now.kinds.now a.question.now.longest a.p a.next.0 c.requires.vettable_at (omega arith)
    c.requires.next_in_bounds c.item_at.result (sym c.item_at.ensures) c.in_default.not-Literal c.in_default.not-Written

pub count_sequence-returns-in-Ends : goal.count_sequence-returns-in-Ends
count_sequence-returns-in-Ends t c = walk_ends c.loop-reach.invariant _ (rw c.in-Ends.is at c.in_ok-reach.ensures)
