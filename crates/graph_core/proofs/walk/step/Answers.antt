use Rattle.std.proofs.Common.{◌≡◌, ◌∙◌, ap, sym, arith, Some, length, ◌∷◌, [], ◌++◌, ◌<◌, ◌+◌, map, drop}
use Rattle.std.specs.Prelude.{slice_get}
use Rattle.lists.specs.laws.ListLaws.{length-push}
use Rattle.lists.specs.laws.ReadLaws.{got_read}
use Rattle.graph_core.specs.declared.walk.Frame.{Frame}
use Rattle.graph_core.specs.declared.walk.Mark.TheVariants.{Unseen, Open, Done}
use Rattle.graph_core.proofs.WalkLemmas.{top_inside, step_left, step_next, step_down}
use Rattle.graph_core.proofs.CycleLemmas.{open_within, closing_cycle}
use Rattle.graph_core.proofs.walk.step.Goals as goal

pub next_edge-requires : goal.next_edge-requires
next_edge-requires c = top_inside _ _ _ _ _ c.requires

pub leave-requires : goal.leave-requires
leave-requires c = omega (arith, top_inside _ _ _ _ _ c.requires, c.requires.long)

pub index-requires : goal.index-requires
index-requires c = let below : c.in-Some.to < length c.args.graph.now = c.in-Some.ensures.inside in omega (arith, c.requires.long)

pub cycle_points-requires : goal.cycle_points-requires
cycle_points-requires c =
    let below : c.in-Some.to < length c.args.marks.now.items = (let b : c.in-Some.to < length c.args.graph.now = c.in-Some.ensures.inside in omega (arith, c.requires.long)) in
    let is : slice_get c.args.marks.now.items c.in-Some.to ≡ Some (Open c.in-Open.from) = got_read _ _ _ below c.index.ensures ∙ ap Some c.in-Open.is in
    rw c.deref.ensures.value (open_within _ _ _ _ _ c.in-Some.to c.in-Open.from c.requires is)

pub descend-requires : goal.descend-requires
descend-requires c = let below : c.in-Some.to < length c.args.graph.now = c.in-Some.ensures.inside in omega (arith, c.requires.long)

pub returns-in_ok-leave-in-None-clause-step : goal.returns-in_ok-leave-in-None-clause-step
returns-in_ok-leave-in-None-clause-step c = rw (c.in_ok-leave-in-None.ensures.marks, c.in_ok-leave-in-None.ensures.order) (step_left _ _ _ _ _ c.requires (sym c.in-None.ensures.value))

pub returns-in_ok-points-in-Open-clause-cycle : goal.returns-in_ok-points-in-Open-clause-cycle
returns-in_ok-points-in-Open-clause-cycle c = λ root roots i starts earlier.
    let below : c.in-Some.to < length c.args.marks.now.items = (let b : c.in-Some.to < length c.args.graph.now = c.in-Some.ensures.inside in omega (arith, c.requires.long)) in
    let is : slice_get c.args.marks.now.items c.in-Some.to ≡ Some (Open c.in-Open.from) = got_read _ _ _ below c.index.ensures ∙ ap Some c.in-Open.is in
    closing_cycle c.args.graph.now c.args.marks.now.items c.args.stack.now.items c.args.frame c.args.order.now.items c.in-Some.to c.in-Open.from c.requires (sym c.in-Some.ensures.value) is root i roots c.in_ok-points-in-Open.points.items starts earlier (c.in_ok-points-in-Open.ensures ∙ ap (λ stack. map (λ (f : Frame). f.point) (drop c.in-Open.from stack) ++ c.args.frame.point ∷ []) c.deref.ensures.value)

pub returns-in_ok-advance-in-Done-clause-step : goal.returns-in_ok-advance-in-Done-clause-step
returns-in_ok-advance-in-Done-clause-step c =
    let below : c.in-Some.to < length c.args.marks.now.items = (let b : c.in-Some.to < length c.args.graph.now = c.in-Some.ensures.inside in omega (arith, c.requires.long)) in
    let is : slice_get c.args.marks.now.items c.in-Some.to ≡ Some (Done c.in-Done.field-0) = got_read _ _ _ below c.index.ensures ∙ ap Some c.in-Done.is in
    rw c.in_ok-advance-in-Done.ensures.stack (step_next _ _ _ _ _ c.in-Some.to c.in-Done.field-0 c.in-Some.ensures.small c.requires (sym c.in-Some.ensures.value) is)

pub returns-in_ok-descend-in-Unseen-clause-step : goal.returns-in_ok-descend-in-Unseen-clause-step
returns-in_ok-descend-in-Unseen-clause-step c =
    let below : c.in-Some.to < length c.args.marks.now.items = (let b : c.in-Some.to < length c.args.graph.now = c.in-Some.ensures.inside in omega (arith, c.requires.long)) in
    let is : slice_get c.args.marks.now.items c.in-Some.to ≡ Some Unseen = got_read _ _ _ below c.index.ensures ∙ ap Some c.in-Unseen.is in
    rw (c.in_ok-descend-in-Unseen.ensures.stack, c.in_ok-descend-in-Unseen.ensures.marks) (step_down _ _ _ _ _ c.in-Some.to (length c.args.stack.now.items + 1) (sym (length-push c.args.stack.now.items c.args.frame)) c.requires (sym c.in-Some.ensures.value) is)
