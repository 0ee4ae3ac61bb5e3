use Rattle.std.proofs.Common.{rules, ◌≡◌, ◌∙◌, ap, length}
use Rattle.std.specs.Prelude.{slice_index_or, false}
use Rattle.std.specs.List.{list_any}
use Rattle.net_blif.specs.private.Leading.{leads_to}
use Rattle.net_blif.proofs.ChainLemmas.{all_marked, marks_inside, marks_more, no_marks}
use Rattle.net_blif.proofs.chains.further.Goals as goal

pub leads_into-mark-requires : goal.leads_into-mark-requires
leads_into-mark-requires c = marks_inside c.args.graph.now c.args.on.now c.loop-point.point c.edges.result.now c.points-points.ensures.inside c.requires c.edges.ensures.edges

pub loop-point-init : goal.loop-point-init
loop-point-init c = no_marks (leads_to c.args.graph.now c.args.on.now) _ (search rules)

pub loop-point-preserved : goal.loop-point-preserved
loop-point-preserved c =
    marks_more (leads_to c.args.graph.now c.args.on.now) c.loop-point.point c.loop-point.more.items c.push.new.self.items c.leads_into-mark.result c.loop-point.invariant c.in-Ok.ensures.items
    (c.leads_into-mark.ensures ∙ ap (list_any (λ b. slice_index_or c.args.on.now b false)) c.edges.ensures.edges)

pub returns-clause-marks : goal.returns-clause-marks
returns-clause-marks c =
    let all : c.loop-point.point ≡ length c.args.graph.now = search rules in
    all_marked (leads_to c.args.graph.now c.args.on.now) c.loop-point.point (length c.args.graph.now) c.loop-point.more.items all c.loop-point.invariant
