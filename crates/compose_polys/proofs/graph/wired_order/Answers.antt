use Rattle.std.proofs.Common.{◌≡◌, ◌∙◌, subst, ℕ, List, length, map}
use Rattle.std.specs.Prelude.{IfErr, IfOk}
use Rattle.lists.specs.laws.ListLaws.{length_map as mapped_long}
use Rattle.graph_core.specs.Fault.{IsCycleFault}
use Rattle.graph_core.specs.Graph.{Graph}
use Rattle.compose_model.specs.Wiring.{feeding_graph, instances_among}
use Rattle.compose_model.specs.declared.feeder.Feeder.{Feeder}
use Rattle.compose_polys.specs.LevelOrder.{first_numbers, IsLevelOrder}
use Rattle.compose_polys.proofs.graph.wired_order.Goals as goal

pub returns-clause-order : goal.returns-clause-order
returns-clause-order c =
    let P : Graph → Type 0 = λ graph. IfOk c.level_order.result (λ order. IsLevelOrder graph order.items) in
    subst P c.in_ok-graph.ensures c.level_order.ensures.order

pub returns-clause-cycle : goal.returns-clause-cycle
returns-clause-cycle c =
    let rows : List (List Feeder) = map (λ row. row.items) c.args.rows.now in
    let long : length (feeding_graph rows) ≡ length c.args.rows.now = mapped_long instances_among rows ∙ mapped_long (λ row. row.items) c.args.rows.now in
    let P : ℕ → Type 0 = λ n. IfErr c.level_order.result (λ fault. IsCycleFault (feeding_graph rows) (first_numbers n) fault) in
    let Q : Graph → Type 0 = λ graph. IfErr c.level_order.result (λ fault. IsCycleFault graph (first_numbers (length graph)) fault) in
    subst P long (subst Q c.in_ok-graph.ensures c.level_order.ensures.cycle)
