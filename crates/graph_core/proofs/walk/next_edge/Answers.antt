use Rattle.std.proofs.Common.{◌∙◌, ap}
use Rattle.std.specs.Prelude.{slice_get}
use Rattle.graph_core.proofs.GraphLemmas.{some_inside}
use Rattle.graph_core.proofs.walk.next_edge.Goals as goal

pub returns-clause-inside : goal.returns-clause-inside
returns-clause-inside c = some_inside c.args.graph.now c.args.frame.point c.args.frame.next c.item.result c.edges.ensures.inside (c.item.ensures.value ∙ ap (λ row. slice_get row c.args.frame.next) c.edges.ensures.edges)
