-- The runners meet their contracts. The levels that are left fall at each block; the text falls in each turn of the runner
-- of a sequence, and the steps in each pass. The loops: whatever ends from here is the whole. Assumes nothing.
use borrow.Enum.Refused.{opened}
use mathlib.Core.Path.{◌≡◌, refl, sym, ap, subst, ◌∙◌}
use Rattle.std.proofs.Common.{rules, Result, Ok}
use mathlib.Core.Bool.{Bool}
use mathlib.Core.List.{◌∷◌}
use native.Mathlib.Omega.{arith}
use borrow.Author.Tests.{not-true, not-false}
use lib.ListN.{length}
use Rattle.rules.specs.Table.{view_of}
use Rattle.rules.specs.Text.{end, innermost, outer, levels_at}
use Rattle.rules.specs.Run.{run, conditional}
use Rattle.parameters.specs.Settling.{hand_at}
use Rattle.parameters.proofs.WorkLaws.{hand_small}
use Rattle.parameters.proofs.SettleLaws.{all_supplied_lem}
use Rattle.parameters.proofs.Answers.{next_reaches, run_settled, run_refused}
use Rattle.blocks.specs.Clauses.{on_chosen, ChosenIn}
use Rattle.rules.specs.declared.refusal.Refusal.{Refusal}
use Rattle.rules.specs.declared.refusal.Refusal.TheVariants.{BadParameter}
use Rattle.blocks.specs.declared.clauses.Chosen.{Chosen}
use Rattle.blocks.specs.declared.clauses.Chosen.TheVariants.{At, Nothing}
use Rattle.blocks.specs.Parts.{ends_at, iterates, on_over, outside_of, OverIn}
use Rattle.blocks.specs.declared.passes.Over.{Over}
use Rattle.actions.specs.Ran.{begun}
use Rattle.running.specs.Runs.{Blocks, rest_at, picking, entering, inside, opening}
use Rattle.actions.proofs.ActLaws.{settings_ill}
use Rattle.std.proofs.Common.{rules}
use Rattle.actions.specs.declared.state.Stop.TheVariants.{Ended}
use Rattle.running.proofs.Places.{literal_at, literal_ahead, alone_at, directive_ahead}
use Rattle.running.proofs.Strides.{strides_runs_on, runs_on}
use Rattle.rules.proofs.Bases.{code_right}
use Rattle.running.proofs.BlockArms.{blocks_nothing, blocks_as}
use Rattle.blocks.proofs.ClauseLaws.{inside_start}
use Rattle.blocks.proofs.EndLaws.{no_other}
use Rattle.blocks.proofs.PassLaws.{over_hand}
use Rattle.engine.proofs.RunnerLaws.{clause_ended, clause_stopped, sequence_stops, steps_stopped, literal_inside, acts_alone_lem, refused_at_lem, written_inside, left_at, place_at, block_deep, block_none, block_opens, blocks_told, closes_after, ends_inside, over_blocks, passes_from, passes_over_told, passes_none_told, passes_on_told, passes_stopped}
use Rattle.rules.proofs.TextLaws.{next_inside}
use Rattle.engine.proofs.runners.+runs.Goals as goal

pub run_block-returns-then-level-eq0 : goal.run_block-returns-then-level-eq0
run_block-returns-then-level-eq0 t c =
    let a = c.args in
    block_deep a.text.now (view_of a.table.now) a.stand.hand.first.0 a.stand.hand.count a.level a.p a.stand.next.0 a.stand.left a.stand.at a.out.now a.d c.requires.p_value _ c.requires.code_value c.if-level-eq0.true (refused_at_lem c.refuse.ensures c.spot_at-spot.ensures) c.requires.stands.written c.requires.stands.reaches

pub run_block-returns-then-stand-eq0 : goal.run_block-returns-then-stand-eq0
run_block-returns-then-stand-eq0 t c =
    let a = c.args in
    block_none a.text.now (view_of a.table.now) a.stand.hand.first.0 a.stand.hand.count a.level a.p a.stand.next.0 a.stand.left a.stand.at a.out.now a.d c.requires.p_value _ c.requires.code_value c.if-level-eq0.false c.if-stand-eq0.true (refused_at_lem c.refuse-then-stand-eq0.ensures c.spot_at-spot.ensures) c.requires.stands.written c.requires.stands.reaches

pub run_block-begin-begun-requires : goal.run_block-begin-begun-requires
run_block-begin-begun-requires t c = omega (arith, left_at c.spot_at-spot.ensures, c.if-stand-eq0.false)

pub run_block-run_opened-requires : goal.run_block-run_opened-requires
run_block-run_opened-requires t c =
    let a = c.args in
    (omega (arith, c.decreases, c.if-level-eq0.false), (c.requires.landmarks, (c.requires.stands.held, (c.requires.stands.reaches, ((next_inside a.text.now a.p a.d c.requires.p_value).most, written_inside (c.begin-begun.ensures ∙ ap begun c.spot_at-spot.ensures) c.requires.stands.written)))))

pub run_block-shape_of-out : goal.run_block-shape_of-out
run_block-shape_of-out t c = c.run_opened.ensures.does.size

pub run_block-returns : goal.run_block-returns
run_block-returns t c =
    let a = c.args in
    block_opens a.text.now (view_of a.table.now) a.stand.hand.first.0 a.stand.hand.count a.level a.p a.stand.next.0 a.stand.left a.stand.at a.out.now a.d c.requires.p_value c.if-level-eq0.false c.if-stand-eq0.false c.requires.code_value (c.begin-begun.ensures ∙ ap begun c.spot_at-spot.ensures) c.run_opened.ensures

pub run_clause-run_sequence-r-requires : goal.run_clause-run_sequence-r-requires
run_clause-run_sequence-r-requires t c = (omega (arith, c.decreases), (c.requires.landmarks, (c.requires.stands, c.requires.inside_at.most)))

pub run_clause-block_end-requires-clause-landmarks : goal.run_clause-block_end-requires-clause-landmarks
run_clause-block_end-requires-clause-landmarks t c = c.requires.landmarks

pub run_clause-block_end-requires-clause-inside_at : goal.run_clause-block_end-requires-clause-inside_at
run_clause-block_end-requires-clause-inside_at t c =
    let halt : c.run_sequence-r.result.stop ≡ Ended = search rules in
    ends_inside c.requires.inside_at (c.run_sequence-r.ensures.ends halt)

pub run_clause-shape_of-out-then-ne : goal.run_clause-shape_of-out-then-ne
run_clause-shape_of-out-then-ne t c = c.run_sequence-r.ensures.does.size

pub run_clause-returns-then-ne : goal.run_clause-returns-then-ne
run_clause-returns-then-ne t c =
    let a = c.args in
    let halts : c.run_sequence-r.result.stop ≡ Ended → ⊥ = search rules in
    clause_stopped (levels_at a.text.now) (length a.text.now) (view_of a.table.now) a.stand.hand.first.0 a.stand.hand.count a.level a.q a.z a.stand.next.0 a.stand.left a.stand.at a.out.now c.run_sequence-r.ensures halts

pub run_clause-shape_of-out : goal.run_clause-shape_of-out
run_clause-shape_of-out t c = c.run_sequence-r.ensures.does.size

pub run_clause-returns : goal.run_clause-returns
run_clause-returns t c =
    let a = c.args in
    let halt : c.run_sequence-r.result.stop ≡ Ended = search rules in
    clause_ended (levels_at a.text.now) (length a.text.now) (view_of a.table.now) a.stand.hand.first.0 a.stand.hand.count a.level a.q a.z a.stand.next.0 a.stand.left a.stand.at a.out.now c.run_sequence-r.ensures halt _ (closes_after c.block_end.ensures)

pub run_conditional-choose_clause-chosen-requires-clause-landmarks : goal.run_conditional-choose_clause-chosen-requires-clause-landmarks
run_conditional-choose_clause-chosen-requires-clause-landmarks t c = c.requires.landmarks

pub run_conditional-choose_clause-chosen-requires-clause-in_hand : goal.run_conditional-choose_clause-chosen-requires-clause-in_hand
run_conditional-choose_clause-chosen-requires-clause-in_hand t c = c.requires.in_hand

pub run_conditional-choose_clause-chosen-requires-clause-i_le_count : goal.run_conditional-choose_clause-chosen-requires-clause-i_le_count
run_conditional-choose_clause-chosen-requires-clause-i_le_count t c = c.requires.i_le_count

pub run_conditional-choose_clause-chosen-requires-clause-after_in_bounds : goal.run_conditional-choose_clause-chosen-requires-clause-after_in_bounds
run_conditional-choose_clause-chosen-requires-clause-after_in_bounds t c = c.requires.after_in_bounds

pub run_conditional-run_clause-requires : goal.run_conditional-run_clause-requires
run_conditional-run_clause-requires t c =
    let a = c.args in
    let is : c.choose_clause-chosen.result ≡ Ok (At c.in-Ok-At.place c.in-Ok-At.j) = search rules in
    let w = subst (ChosenIn a.text.now a.d.after a.hand.count) is c.choose_clause-chosen.ensures.inside in
    (omega (arith, c.decreases), (c.requires.landmarks, (record { held = c.requires.in_hand; reaches = w.1; written = c.requires.at_in_bounds }, w.0)))

pub run_conditional-end_block-requires-clause-landmarks : goal.run_conditional-end_block-requires-clause-landmarks
run_conditional-end_block-requires-clause-landmarks t c = c.requires.landmarks

pub run_conditional-end_block-requires-clause-inside_at : goal.run_conditional-end_block-requires-clause-inside_at
run_conditional-end_block-requires-clause-inside_at t c =
    let a = c.args in
    let is : c.choose_clause-chosen.result ≡ Ok (Nothing c.in-Ok-Nothing.inside c.in-Ok-Nothing.j) = search rules in
    let w = subst (ChosenIn a.text.now a.d.after a.hand.count) is c.choose_clause-chosen.ensures.inside in
    w.0

pub run_conditional-shape_of-out : goal.run_conditional-shape_of-out
run_conditional-shape_of-out t c = (c.run_clause.ensures.is _ (λ ks. refl)).does.size

pub run_conditional-returns-in-Ok-At : goal.run_conditional-returns-in-Ok-At
run_conditional-returns-in-Ok-At t c =
    let a = c.args in
    let is : c.choose_clause-chosen.result ≡ Ok (At c.in-Ok-At.place c.in-Ok-At.j) = search rules in
    λ j. c.run_clause.ensures.is (picking (levels_at a.text.now) (view_of a.table.now) (hand_at a.hand) a.spot.position a.d a.d.after j a.spot.left a.settings a.i.0)
    (λ ks. c.choose_clause-chosen.ensures.is a.spot.position a.spot.left j _ ∙ ap (λ (x : Result Chosen Refusal). on_chosen (levels_at a.text.now) a.spot.position a.spot.left x (λ y after. run (view_of a.table.now) a.spot.left y (conditional (innermost (outer (levels_at a.text.now a.d.after))).rest ∷ ks) (hand_at a.hand after))) is)

pub run_conditional-returns-in-Ok-Nothing : goal.run_conditional-returns-in-Ok-Nothing
run_conditional-returns-in-Ok-Nothing t c =
    let a = c.args in
    let is : c.choose_clause-chosen.result ≡ Ok (Nothing c.in-Ok-Nothing.inside c.in-Ok-Nothing.j) = search rules in
    let w = subst (ChosenIn a.text.now a.d.after a.hand.count) is c.choose_clause-chosen.ensures.inside in
    let u = c.end_block.ensures in
    λ j. subst (Blocks (levels_at a.text.now) (length a.text.now) (view_of a.table.now) (hand_at a.hand) a.level a.d.after (picking (levels_at a.text.now) (view_of a.table.now) (hand_at a.hand) a.spot.position a.d a.d.after j a.spot.left a.settings a.i.0) a.spot.left a.spot.at a.out.now a.out.now) (sym u.is)
    (blocks_nothing (levels_at a.text.now) (length a.text.now) (view_of a.table.now) a.hand.first.0 a.hand.count a.level a.d.after (picking (levels_at a.text.now) (view_of a.table.now) (hand_at a.hand) a.spot.position a.d a.d.after j a.spot.left a.settings a.i.0) a.spot.left a.spot.at a.out.now _ _
    (λ ks. c.choose_clause-chosen.ensures.is a.spot.position a.spot.left j _ ∙ ap (λ (x : Result Chosen Refusal). on_chosen (levels_at a.text.now) a.spot.position a.spot.left x (λ y after. run (view_of a.table.now) a.spot.left y (conditional (innermost (outer (levels_at a.text.now a.d.after))).rest ∷ ks) (hand_at a.hand after))) is)
    u.after c.requires.at_in_bounds w.1)

pub run_conditional-returns-in-Err : goal.run_conditional-returns-in-Err
run_conditional-returns-in-Err t c =
    let a = c.args in
    λ j. blocks_told (levels_at a.text.now) (length a.text.now) (view_of a.table.now) a.hand.first.0 a.hand.count a.level a.d.after (picking (levels_at a.text.now) (view_of a.table.now) (hand_at a.hand) a.spot.position a.d a.d.after j a.spot.left a.settings a.i.0) a.spot.left a.spot.at a.out.now _ _ a.spot.position a.i.0 _ c.refuse.ensures
    (λ ks. c.choose_clause-chosen.ensures.is a.spot.position a.spot.left j _ ∙ ap (λ (x : Result Chosen Refusal). on_chosen (levels_at a.text.now) a.spot.position a.spot.left x (λ y after. run (view_of a.table.now) a.spot.left y (conditional (innermost (outer (levels_at a.text.now a.d.after))).rest ∷ ks) (hand_at a.hand after))) c.in-Err.is) c.requires.at_in_bounds c.requires.i_le_count

pub run_item-put_literal-requires-clause-next_le_count : goal.run_item-put_literal-requires-clause-next_le_count
run_item-put_literal-requires-clause-next_le_count t c = c.requires.stands.reaches

pub run_item-put_literal-requires-clause-at_in_bounds : goal.run_item-put_literal-requires-clause-at_in_bounds
run_item-put_literal-requires-clause-at_in_bounds t c = c.requires.stands.written

pub run_item-put_literal-requires-clause-p_bound : goal.run_item-put_literal-requires-clause-p_bound
run_item-put_literal-requires-clause-p_bound t c = omega (arith, literal_inside c.args.text.now c.args.p c.requires.p_value c.in-Literal.is)

pub run_item-run_block-requires : goal.run_item-run_block-requires
run_item-run_block-requires t c = (omega (arith, c.decreases), (c.requires.landmarks, (c.requires.stands, (c.requires.p_value ∙ c.in-Written.is, sym c.opens_block.ensures ∙ c.if-opens_block.true))))

pub run_item-shape_of-out-then-opens_block : goal.run_item-shape_of-out-then-opens_block
run_item-shape_of-out-then-opens_block t c = c.run_block.ensures.does.size

pub run_item-returns-then-opens_block : goal.run_item-returns-then-opens_block
run_item-returns-then-opens_block t c = c.run_block.ensures

pub run_item-act-requires-clause-acts_alone : goal.run_item-act-requires-clause-acts_alone
run_item-act-requires-clause-acts_alone t c =
    let a = c.args in
    let e = c.requires.p_value ∙ c.in-Written.is in
    acts_alone_lem c.in-Written.d.code (code_right a.text.now a.p c.in-Written.d e) (sym c.opens_block.ensures ∙ c.if-opens_block.false) (sym (ap ends_at c.in-Written.is) ∙ c.requires.item_value)

pub run_item-act-requires-clause-stands : goal.run_item-act-requires-clause-stands
run_item-act-requires-clause-stands t c = c.requires.stands

pub run_item-shape_of-out-in-Literal : goal.run_item-shape_of-out-in-Literal
run_item-shape_of-out-in-Literal t c =
    let a = c.args in
    let e = c.requires.p_value ∙ c.in-Literal.is in
    (c.put_literal.ensures (levels_at a.text.now) (length a.text.now) (view_of a.table.now) a.level a.p (literal_at a.text.now a.p _ e) (literal_ahead a.text.now a.p _ e)).does.size

pub run_item-returns-in-Literal : goal.run_item-returns-in-Literal
run_item-returns-in-Literal t c =
    let a = c.args in
    let e = c.requires.p_value ∙ c.in-Literal.is in
    c.put_literal.ensures (levels_at a.text.now) (length a.text.now) (view_of a.table.now) a.level a.p (literal_at a.text.now a.p _ e) (literal_ahead a.text.now a.p _ e)

pub run_item-shape_of-out-else-opens_block : goal.run_item-shape_of-out-else-opens_block
run_item-shape_of-out-else-opens_block t c =
    let a = c.args in
    let e = c.requires.p_value ∙ c.in-Written.is in
    (c.act.ensures (levels_at a.text.now) (length a.text.now) a.level a.p (alone_at a.text.now a.p _ e _ refl) (directive_ahead a.text.now a.p _ e)).does.size

pub run_item-returns-else-opens_block : goal.run_item-returns-else-opens_block
run_item-returns-else-opens_block t c =
    let a = c.args in
    let e = c.requires.p_value ∙ c.in-Written.is in
    c.act.ensures (levels_at a.text.now) (length a.text.now) a.level a.p (alone_at a.text.now a.p _ e _ refl) (directive_ahead a.text.now a.p _ e)

pub run_item-returns-in_default : goal.run_item-returns-in_default
run_item-returns-in_default t c = absurd (no_other _ c.args.item refl c.requires.item_value (opened c.in_default.in_default-own.keys3))

pub run_iteration-run_passes-r-requires : goal.run_iteration-run_passes-r-requires
run_iteration-run_passes-r-requires t c =
    let a = c.args in
    let w = subst (OverIn a.table.now a.hand a.d.atsign a.i.0) c.in-Ok.is c.go_over-over.ensures.inside in
    let o = over_hand a.table.now a.hand _ a.d.atsign a.i.0 _ w c.requires.in_hand c.requires.i_le_count in
    (omega (arith, c.decreases), (c.requires.landmarks, (record { held = o.0; reaches = o.1; written = c.requires.at_in_bounds }, c.requires.after_in_bounds)))

pub run_iteration-next_after-requires : goal.run_iteration-next_after-requires
run_iteration-next_after-requires t c = omega (arith, c.requires.i_le_count, hand_small c.requires.in_hand)

pub run_iteration-returns-in-Err : goal.run_iteration-returns-in-Err
run_iteration-returns-in-Err t c =
    let a = c.args in
    λ j. blocks_told (levels_at a.text.now) (length a.text.now) (view_of a.table.now) a.hand.first.0 a.hand.count a.level a.d.after (entering (levels_at a.text.now) (view_of a.table.now) (hand_at a.hand) a.spot.position a.d a.d.after j a.spot.left a.settings a.i.0) a.spot.left a.spot.at a.out.now _ _ a.spot.position a.i.0 _ c.refuse.ensures
    (λ ks. c.go_over-over.ensures.is a.spot.position a.spot.left j a.d refl a.settings _ _ _ ∙ ap (λ (x : Result Over Refusal). on_over a.spot.position a.spot.left a.settings.first (rest_at (levels_at a.text.now) a.d.after) (innermost (outer (levels_at a.text.now a.d.after))).rest (outside_of a.d.atsign a.hand a.i.0) x (λ k c₂. run (view_of a.table.now) a.spot.left end (k ∷ ks) c₂)) c.in-Err.is) c.requires.at_in_bounds c.requires.i_le_count

pub run_iteration-shape_of-out : goal.run_iteration-shape_of-out
run_iteration-shape_of-out t c = c.run_passes-r.ensures.does.size

pub run_iteration-returns-in-Ok : goal.run_iteration-returns-in-Ok
run_iteration-returns-in-Ok t c =
    let a = c.args in
    let w = subst (OverIn a.table.now a.hand a.d.atsign a.i.0) c.in-Ok.is c.go_over-over.ensures.inside in
    λ j. over_blocks (levels_at a.text.now) (length a.text.now) (view_of a.table.now) a.table.now a.level a.spot.position a.d.after (entering (levels_at a.text.now) (view_of a.table.now) (hand_at a.hand) a.spot.position a.d a.d.after j a.spot.left a.settings a.i.0) a.spot.left a.spot.at a.out.now a.hand _ a.d.atsign a.i.0 _ a.settings.first c.next_after.result w c.next_after.ensures
    (λ ks. c.go_over-over.ensures.is a.spot.position a.spot.left j a.d refl a.settings _ _ _ ∙ ap (λ (x : Result Over Refusal). on_over a.spot.position a.spot.left a.settings.first (rest_at (levels_at a.text.now) a.d.after) (innermost (outer (levels_at a.text.now a.d.after))).rest (outside_of a.d.atsign a.hand a.i.0) x (λ k c₂. run (view_of a.table.now) a.spot.left end (k ∷ ks) c₂)) c.in-Ok.is) c.run_passes-r.ensures

pub run_opened-returns-then-not-is_well_written : goal.run_opened-returns-then-not-is_well_written
run_opened-returns-then-not-is_well_written t c =
    let a = c.args in
    blocks_told (levels_at a.text.now) (length a.text.now) (view_of a.table.now) a.hand.first.0 a.hand.count a.level a.d.after (opening (iterates a.d.code) (levels_at a.text.now) (view_of a.table.now) (hand_at a.hand) a.spot.position a.d a.d.after a.next.0 a.spot.left) a.spot.left a.spot.at a.out.now _ BadParameter a.spot.position a.next.0 _ c.refuse.ensures (λ ks. settings_ill (view_of a.table.now) a.spot.position a.spot.left a.d (hand_at a.hand a.next.0) _ (sym c.is_well_written.ensures ∙ not-true _ c.if-not-is_well_written.true-raw)) c.requires.at_in_bounds c.requires.next_le_count

pub run_opened-settle_directive-requires-clause-all_supplied : goal.run_opened-settle_directive-requires-clause-all_supplied
run_opened-settle_directive-requires-clause-all_supplied t c = all_supplied_lem c.requires.in_hand

pub run_opened-settle_directive-requires-clause-next_le_count : goal.run_opened-settle_directive-requires-clause-next_le_count
run_opened-settle_directive-requires-clause-next_le_count t c = c.requires.next_le_count

pub run_opened-run_iteration-requires : goal.run_opened-run_iteration-requires
run_opened-run_iteration-requires t c = (omega (arith, c.decreases), (c.requires.landmarks, (c.requires.in_hand, (next_reaches c.settle_directive.ensures c.in-Ok.is, (c.requires.after_in_bounds, c.requires.at_in_bounds)))))

pub run_opened-shape_of-out-then-is_iteration : goal.run_opened-shape_of-out-then-is_iteration
run_opened-shape_of-out-then-is_iteration t c = (c.run_iteration.ensures 0).does.size

pub run_opened-returns-then-is_iteration : goal.run_opened-returns-then-is_iteration
run_opened-returns-then-is_iteration t c =
    let a = c.args in
    blocks_as (opening (iterates a.d.code) (levels_at a.text.now) (view_of a.table.now) (hand_at a.hand) a.spot.position a.d a.d.after a.next.0 a.spot.left) _ (λ ks. run_settled c.settle_directive.ensures (sym c.is_well_written.ensures ∙ not-false _ c.if-not-is_well_written.false-raw) a.spot.position a.spot.left _ c.in-Ok.is ∙ ap (λ (y : Bool). inside y (levels_at a.text.now) (view_of a.table.now) (hand_at a.hand) a.spot.position a.d a.d.after a.next.0 a.spot.left c.in-Ok.field-0.settings c.in-Ok.field-0.next.0 ks) (sym c.is_iteration.ensures ∙ c.if-is_iteration.true)) (c.run_iteration.ensures a.next.0)

pub run_opened-run_conditional-requires : goal.run_opened-run_conditional-requires
run_opened-run_conditional-requires t c = (omega (arith, c.decreases), (c.requires.landmarks, (c.requires.in_hand, (next_reaches c.settle_directive.ensures c.in-Ok.is, (c.requires.after_in_bounds, c.requires.at_in_bounds)))))

pub run_opened-returns-in-Err : goal.run_opened-returns-in-Err
run_opened-returns-in-Err t c =
    let a = c.args in
    blocks_told (levels_at a.text.now) (length a.text.now) (view_of a.table.now) a.hand.first.0 a.hand.count a.level a.d.after (opening (iterates a.d.code) (levels_at a.text.now) (view_of a.table.now) (hand_at a.hand) a.spot.position a.d a.d.after a.next.0 a.spot.left) a.spot.left a.spot.at a.out.now _ _ a.spot.position a.next.0 _ c.refuse-in-Err.ensures (λ ks. run_refused c.settle_directive.ensures (sym c.is_well_written.ensures ∙ not-false _ c.if-not-is_well_written.false-raw) a.spot.position a.spot.left _ c.in-Err.is) c.requires.at_in_bounds c.requires.next_le_count

pub run_opened-shape_of-out : goal.run_opened-shape_of-out
run_opened-shape_of-out t c = (c.run_conditional.ensures 0).does.size

pub run_opened-returns-else-is_iteration : goal.run_opened-returns-else-is_iteration
run_opened-returns-else-is_iteration t c =
    let a = c.args in
    blocks_as (opening (iterates a.d.code) (levels_at a.text.now) (view_of a.table.now) (hand_at a.hand) a.spot.position a.d a.d.after a.next.0 a.spot.left) _ (λ ks. run_settled c.settle_directive.ensures (sym c.is_well_written.ensures ∙ not-false _ c.if-not-is_well_written.false-raw) a.spot.position a.spot.left _ c.in-Ok.is ∙ ap (λ (y : Bool). inside y (levels_at a.text.now) (view_of a.table.now) (hand_at a.hand) a.spot.position a.d a.d.after a.next.0 a.spot.left c.in-Ok.field-0.settings c.in-Ok.field-0.next.0 ks) (sym c.is_iteration.ensures ∙ c.if-is_iteration.false)) (c.run_conditional.ensures a.next.0)

pub run_passes-loop-hand-init : goal.run_passes-loop-hand-init
run_passes-loop-hand-init t c =
    let o = c.spot_at-on.ensures in
    (record { ends = λ e r k. k; size = refl; fits = written_inside o c.requires.stands.written; falls = omega arith; inside = c.requires.stands.reaches }, place_at o (inside_start _ _ c.requires.q_in_bounds))

pub run_passes-end_block-requires-clause-landmarks : goal.run_passes-end_block-requires-clause-landmarks
run_passes-end_block-requires-clause-landmarks t c = c.requires.landmarks

pub run_passes-end_block-requires-clause-inside_at : goal.run_passes-end_block-requires-clause-inside_at
run_passes-end_block-requires-clause-inside_at t c = c.loop-hand.invariant.1

pub run_passes-shape_of-out-then-is_over : goal.run_passes-shape_of-out-then-is_over
run_passes-shape_of-out-then-is_over t c = c.loop-hand.invariant.0.size

pub run_passes-returns-then-is_over : goal.run_passes-returns-then-is_over
run_passes-returns-then-is_over t c =
    let a = c.args in
    passes_from c.spot_at-on.ensures (c.loop-hand.invariant.0.ends _ _ (passes_over_told (levels_at a.text.now) (length a.text.now) (view_of a.table.now) a.first.hand.first.0 a.first.hand.count a.level a.q c.loop-hand.next.0 c.loop-hand.passes c.loop-hand.on c.loop-hand.out (sym c.is_over.ensures ∙ c.if-is_over.true) c.end_block.ensures c.loop-hand.invariant.0.fits c.loop-hand.invariant.0.inside))

pub run_passes-shape_of-out-then-on-eq0 : goal.run_passes-shape_of-out-then-on-eq0
run_passes-shape_of-out-then-on-eq0 t c = c.loop-hand.invariant.0.size

pub run_passes-returns-then-on-eq0 : goal.run_passes-returns-then-on-eq0
run_passes-returns-then-on-eq0 t c =
    let a = c.args in
    passes_from c.spot_at-on.ensures (c.loop-hand.invariant.0.ends _ _ (passes_none_told (levels_at a.text.now) (length a.text.now) (view_of a.table.now) a.first.hand.first.0 a.first.hand.count a.level a.q c.loop-hand.next.0 c.loop-hand.passes c.loop-hand.on c.loop-hand.out (sym c.is_over.ensures ∙ c.if-is_over.false) c.refuse.ensures c.if-on-eq0.true c.loop-hand.invariant.0.fits c.loop-hand.invariant.0.inside))

pub run_passes-begin-begun-requires : goal.run_passes-begin-begun-requires
run_passes-begin-begun-requires t c = omega (arith, c.if-on-eq0.false)

pub run_passes-run_sequence-r-requires : goal.run_passes-run_sequence-r-requires
run_passes-run_sequence-r-requires t c =
    let i = c.loop-hand.invariant.0 in
    (omega (arith, c.decreases), (c.requires.landmarks, (record { held = c.requires.stands.held; reaches = i.inside; written = written_inside c.begin-begun.ensures i.fits }, c.requires.q_in_bounds)))

pub run_passes-leave_passes-requires-clause-landmarks : goal.run_passes-leave_passes-requires-clause-landmarks
run_passes-leave_passes-requires-clause-landmarks t c = c.requires.landmarks

pub run_passes-leave_passes-requires-clause-inside_at : goal.run_passes-leave_passes-requires-clause-inside_at
run_passes-leave_passes-requires-clause-inside_at t c = c.loop-hand.invariant.1

pub run_passes-shape_of-out-then-ne : goal.run_passes-shape_of-out-then-ne
run_passes-shape_of-out-then-ne t c = c.run_sequence-r.ensures.does.size ∙ c.loop-hand.invariant.0.size

pub run_passes-returns-then-ne : goal.run_passes-returns-then-ne
run_passes-returns-then-ne t c =
    let a = c.args in
    let halts : c.run_sequence-r.result.stop ≡ Ended → ⊥ = search rules in
    passes_from c.spot_at-on.ensures (c.loop-hand.invariant.0.ends _ _ (passes_stopped (levels_at a.text.now) (length a.text.now) (view_of a.table.now) a.first.hand.first.0 a.first.hand.count a.level a.q c.loop-hand.next.0 c.loop-hand.passes c.loop-hand.on c.loop-hand.out (sym c.is_over.ensures ∙ c.if-is_over.false) c.if-on-eq0.false c.begin-begun.ensures c.run_sequence-r.ensures halts c.leave_passes.ensures))

pub run_passes-loop-hand-smaller : goal.run_passes-loop-hand-smaller
run_passes-loop-hand-smaller t c = omega (arith, left_at c.spot_at-on-in-loop-hand.ensures, left_at c.begin-begun.ensures, c.run_sequence-r.ensures.does.falls, c.if-on-eq0.false)

pub run_passes-loop-hand-preserved : goal.run_passes-loop-hand-preserved
run_passes-loop-hand-preserved t c =
    let a = c.args in
    let u = c.run_sequence-r.ensures in
    let o = c.spot_at-on-in-loop-hand.ensures in
    let e : c.run_sequence-r.result.stop ≡ Ended = search rules in (
      record {
        ends = λ e₂ r k. c.loop-hand.invariant.0.ends e₂ r (passes_on_told (levels_at a.text.now) (length a.text.now) (view_of a.table.now) a.first.hand.first.0 a.first.hand.count a.level a.q c.loop-hand.next.0 c.loop-hand.passes c.loop-hand.on c.loop-hand.out (sym c.is_over.ensures ∙ c.if-is_over.false) c.if-on-eq0.false c.begin-begun.ensures u e c.one_less-passes.ensures o k);
        size = u.does.size ∙ c.loop-hand.invariant.0.size;
        fits = written_inside o (omega (arith, u.does.most, u.does.size));
        falls = omega (arith, left_at o, left_at c.begin-begun.ensures, u.does.falls, c.loop-hand.invariant.0.falls);
        inside = u.does.inside;
      },
      place_at o (ends_inside (inside_start a.text.now a.q c.requires.q_in_bounds) (u.ends e)),
    )

pub run_sequence-loop-hand-init : goal.run_sequence-loop-hand-init
run_sequence-loop-hand-init t c = (record { ends = λ e r k. k; size = refl; fits = c.requires.stands.written; falls = omega arith; inside = c.requires.stands.reaches }, c.requires.start_in_bounds)

pub run_sequence-run_short-s-requires-clause-stands : goal.run_sequence-run_short-s-requires-clause-stands
run_sequence-run_short-s-requires-clause-stands t c = record { held = c.requires.stands.held; reaches = c.loop-hand.invariant.0.inside; written = c.loop-hand.invariant.0.fits }

pub run_sequence-run_short-s-requires-clause-start_in_bounds : goal.run_sequence-run_short-s-requires-clause-start_in_bounds
run_sequence-run_short-s-requires-clause-start_in_bounds t c = c.loop-hand.invariant.1

pub run_sequence-shape_of-out-then-ends_here : goal.run_sequence-shape_of-out-then-ends_here
run_sequence-shape_of-out-then-ends_here t c = (c.run_short-s.ensures.strides c.args.level).does.size ∙ c.loop-hand.invariant.0.size

pub run_sequence-returns-then-ends_here : goal.run_sequence-returns-then-ends_here
run_sequence-returns-then-ends_here t c =
    let a = c.args in
    let s = levels_at a.text.now in
    let n = length a.text.now in
    let v = view_of a.table.now in
    let w = c.run_short-s.ensures.strides a.level in
    c.loop-hand.invariant.0.ends _ _ (sequence_stops s n v a.first.hand.first.0 a.first.hand.count a.level c.loop-hand.p c.loop-hand.next.0 c.loop-hand.left c.loop-hand.at c.loop-hand.out w (c.item_after-item.ensures.ends (sym c.ends_here.ensures ∙ c.if-ends_here.true)))

pub run_sequence-run_item-r-requires : goal.run_sequence-run_item-r-requires
run_sequence-run_item-r-requires t c =
    let w = c.run_short-s.ensures.strides c.args.level in
    let h = sym c.ends_here.ensures ∙ c.if-ends_here.false in
    (omega (arith, c.decreases), (c.requires.landmarks, (record { held = c.requires.stands.held; reaches = w.does.inside; written = omega (arith, w.does.most, w.does.size) }, (c.item_after-item.ensures.is h, h))))

pub run_sequence-shape_of-out-then-ne : goal.run_sequence-shape_of-out-then-ne
run_sequence-shape_of-out-then-ne t c = c.run_item-r.ensures.does.size ∙ (c.run_short-s.ensures.strides c.args.level).does.size ∙ c.loop-hand.invariant.0.size

pub run_sequence-returns-then-ne : goal.run_sequence-returns-then-ne
run_sequence-returns-then-ne t c =
    let a = c.args in
    let halts : c.run_item-r.result.stop ≡ Ended → ⊥ = search rules in
    let s = levels_at a.text.now in
    let n = length a.text.now in
    let v = view_of a.table.now in
    let w = c.run_short-s.ensures.strides a.level in
    let x = c.run_short-s.result in
    let halt = c.item_after-item.ensures.ended (sym c.ends_here.ensures ∙ c.if-ends_here.false) in
    c.loop-hand.invariant.0.ends _ _ (strides_runs_on s n v a.first.hand.first.0 a.first.hand.count a.level c.loop-hand.p c.loop-hand.next.0 c.loop-hand.left c.loop-hand.at c.loop-hand.out w halt (steps_stopped s n v a.first.hand.first.0 a.first.hand.count a.level x.place x.next.0 x.left x.at _ c.run_item-r.ensures halts))

pub run_sequence-loop-hand-smaller : goal.run_sequence-loop-hand-smaller
run_sequence-loop-hand-smaller t c =
    let w = c.run_short-s.ensures.strides c.args.level in
    let halt = c.item_after-item.ensures.ended (sym c.ends_here.ensures ∙ c.if-ends_here.false) in
    let u = c.run_item-r.ensures in
    let e : c.run_item-r.result.stop ≡ Ended = search rules in
    omega (arith, u.least e, u.most e, w.least halt)

pub run_sequence-loop-hand-preserved : goal.run_sequence-loop-hand-preserved
run_sequence-loop-hand-preserved t c =
    let a = c.args in
    let s = levels_at a.text.now in
    let n = length a.text.now in
    let v = view_of a.table.now in
    let w = c.run_short-s.ensures.strides a.level in
    let x = c.run_short-s.result in
    let halt = c.item_after-item.ensures.ended (sym c.ends_here.ensures ∙ c.if-ends_here.false) in
    let u = c.run_item-r.ensures in
    let e : c.run_item-r.result.stop ≡ Ended = search rules in (
      record {
        ends = λ e₂ r k. c.loop-hand.invariant.0.ends e₂ r (strides_runs_on s n v a.first.hand.first.0 a.first.hand.count a.level c.loop-hand.p c.loop-hand.next.0 c.loop-hand.left c.loop-hand.at c.loop-hand.out w halt (runs_on s n v a.first.hand.first.0 a.first.hand.count a.level x.place x.next.0 x.left x.at _ u e k));
        size = u.does.size ∙ w.does.size ∙ c.loop-hand.invariant.0.size;
        fits = omega (arith, u.does.most, u.does.size);
        falls = omega (arith, u.does.falls, w.does.falls, c.loop-hand.invariant.0.falls);
        inside = u.does.inside;
      },
      u.most e,
    )
