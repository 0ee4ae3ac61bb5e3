-- How long the graph is whose first rows are set.
use Rattle.std.proofs.Common.{◌≡◌, ◌∙◌, ap, ℕ, ◌<◌, ◌-◌, List, [], ◌++◌, length, replicate, take, arith}
use Rattle.std.proofs.lemmas.List.{length-append, length-replicate, length-take-le}
use Rattle.lists.specs.laws.ListLaws.{length_map as mapped_long}
use Rattle.graph_core.specs.Graph.{Graph}
use Rattle.compose_model.specs.Wiring.{feeding_graph, instances_among}
use Rattle.compose_model.specs.declared.feeder.Feeder.{Feeder}

pub graph_long : (rows : List (List Feeder)) (n i : ℕ) (graph : Graph) → length rows ≡ n → i < n → graph ≡ feeding_graph (take i rows) ++ replicate (n - i) [] → length graph ≡ n
graph_long rows n i graph many less is =
    let front : length (feeding_graph (take i rows)) ≡ i = mapped_long instances_among (take i rows) ∙ length-take-le i rows (omega (arith, many, less)) in
    omega (arith, less, front, ap length is, length-append (feeding_graph (take i rows)) (replicate (n - i) []), length-replicate {A = List ℕ} (n - i) [])
