use Rattle.std.proofs.Common.{subst}
use Rattle.graph_core.specs.Graph.{Graph, IsInside}
use Rattle.graph_core.proofs.graph.Graph.points.Goals as goal

pub returns-clause-inside : goal.returns-clause-inside
returns-clause-inside c = let P : Graph → Type 0 = IsInside in subst P c.self.view_is c.self.invariant.1
