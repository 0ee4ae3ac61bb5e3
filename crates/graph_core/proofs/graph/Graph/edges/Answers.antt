use Rattle.std.proofs.Common.{rules, ◌≡◌, ◌∙◌, ap, sym, subst, List, Some, slice_get}
use Rattle.graph_core.specs.Graph.{Graph, edges, IsInside}
use Rattle.graph_core.specs.Rows.{row_in}
use Rattle.graph_core.specs.declared.graph.Row.{Row}
use Rattle.graph_core.proofs.RowLemmas.{row_edges}
use Rattle.graph_core.proofs.graph.Graph.edges.Goals as goal

pub returns-clause-edges : goal.returns-clause-edges
returns-clause-edges c =
    let at : slice_get c.self.inside.rows.items c.args.from ≡ Some c.row_of-start.result = ap (λ (rs : List Row). slice_get rs c.args.from) (sym c.deref.ensures.value) ∙ c.row_of-start.ensures in
    let are : row_in c.self.inside.heads.items c.row_of-start.result ≡ edges c.args.self.now c.args.from = row_edges c.self.inside.heads.items c.self.inside.rows.items c.args.self.now c.args.from c.row_of-start.result c.self.view_is at in
    search rules

pub returns-clause-inside : goal.returns-clause-inside
returns-clause-inside c = let P : Graph → Type 0 = IsInside in subst P c.self.view_is c.self.invariant.1
