use Rattle.std.proofs.Common.{◌≡◌, ◌∙◌, ◌<◌, All, sym, ap, subst, ℕ, List, length}
use Rattle.lists.specs.Lists.{Has}
use Rattle.graph_core.specs.Arranged.{IsArranged}
use Rattle.graph_core.specs.Graph.{Graph}
use Rattle.compose_polys.specs.LevelOrder.{first_numbers}
use Rattle.compose_polys.proofs.AfterLemmas.{all_stand}
use Rattle.compose_polys.proofs.LevelLemmas.{numbers_below}
use Rattle.compose_polys.proofs.order.level_order.Goals as goal

pub arrange-requires : goal.arrange-requires
arrange-requires c =
    let graph : Graph = c.args.graph.now in
    let roots : c.deref.result.now ≡ first_numbers (length graph) = c.deref.ensures.value ∙ c.in_ok-roots.ensures ∙ ap first_numbers c.points.ensures.points in
    let P : List ℕ → Type 0 = λ rs. All (λ a. a < length graph) rs in
    subst P (sym roots) (numbers_below (length graph))

pub levels-requires-clause-all : goal.levels-requires-clause-all
levels-requires-clause-all c =
    λ a less.
    let graph : Graph = c.args.graph.now in
    let roots : c.deref.result.now ≡ first_numbers (length graph) = c.deref.ensures.value ∙ c.in_ok-roots.ensures ∙ ap first_numbers c.points.ensures.points in
    let P : List ℕ → Type 0 = λ rs. IsArranged graph rs c.in_ok-order.order.items in
    let Q : List ℕ → Type 0 = λ xs. Has xs a in
    subst Q (sym c.deref-3.ensures.value) (all_stand graph c.in_ok-order.order.items (subst P roots c.in_ok-order.ensures.arranged) a less)
