use Rattle.std.proofs.Common.{◌≡◌, ◌<◌, sym, subst, ℕ, List, Some, length, map, arith}
use Rattle.std.specs.Prelude.{slice_get}
use Rattle.lists.specs.laws.ListLaws.{length_map as mapped_long}
use Rattle.graph_core.specs.Fault.{IsCycleFault}
use Rattle.graph_core.specs.declared.fault.CycleFault.{CycleFault}
use Rattle.compose_model.specs.Wiring.{feeding_graph}
use Rattle.compose_model.specs.declared.feeder.Feeder.{Feeder}
use Rattle.compose_polys.specs.LevelOrder.{first_numbers}
use Rattle.block_compose.proofs.ComposeLemmas.{first_of_cycle}
use Rattle.block_compose.proofs.faults.of_cycle.Goals as goal

pub first_point-requires : goal.first_point-requires
first_point-requires c =
    let rows : List (List Feeder) = map (λ row. row.items) c.args._rows.now in
    let P : CycleFault → Type 0 = IsCycleFault (feeding_graph rows) (first_numbers (length c.args._rows.now)) in
    let first = first_of_cycle rows (first_numbers (length c.args._rows.now)) c.in-Cycle.points.items (subst P c.in-Cycle.is c.requires.cycle) in
    let Q : List ℕ → Type 0 = λ points. (a : ℕ) × (slice_get points 0 ≡ Some a) in
    subst Q (sym c.deref.ensures.value) (first.0, first.1)

pub overflow_add-result : goal.overflow_add-result
overflow_add-result c =
    let rows : List (List Feeder) = map (λ row. row.items) c.args._rows.now in
    let P : CycleFault → Type 0 = IsCycleFault (feeding_graph rows) (first_numbers (length c.args._rows.now)) in
    let first = first_of_cycle rows (first_numbers (length c.args._rows.now)) c.in-Cycle.points.items (subst P c.in-Cycle.is c.requires.cycle) in
    let there : slice_get c.in-Cycle.points.items 0 ≡ Some first.0 = first.1 in
    let Q : List ℕ → Type 0 = λ points. slice_get points 0 ≡ Some c.first_point.result in
    let here : slice_get c.in-Cycle.points.items 0 ≡ Some c.first_point.result = subst Q c.deref.ensures.value c.first_point.ensures in
    let same : first.0 ≡ c.first_point.result = cc in
    let less : first.0 < length rows = first.2 in
    omega (arith, less, same, mapped_long (λ row. row.items) c.args._rows.now, c.requires.few)
