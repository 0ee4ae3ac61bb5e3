use Rattle.std.proofs.Common.{◌∙◌, subst, List, ℕ}
use Rattle.std.proofs.lemmas.Result.{MatchResult-weaker}
use Rattle.graph_core.specs.Arranged.{IsArranged}
use Rattle.graph_core.specs.Fault.{IsCycleFault}
use Rattle.net_core.proofs.LevelLemmas.{roots_inside}
use Rattle.net_core.proofs.LoopLemmas.{loop_fault_of}
use Rattle.net_core.proofs.driving.nets_in_order.Goals as goal

pub arrange-requires : goal.arrange-requires
arrange-requires c = rw (c.deref.ensures.value, c.in_ok-roots.ensures, c.in_ok-graph.ensures.graph.long) (roots_inside c.args.net.now c.graph_of.ensures.inside)

pub returns-clause-order : goal.returns-clause-order
returns-clause-order c =
    MatchResult-weaker c.arrange.result c.arrange.ensures.arranged (λ order is.
    let P : List ℕ → Type 0 = λ roots. IsArranged c.in_ok-graph.graph roots order.items in
    (c.in_ok-graph.graph, c.in_ok-graph.ensures.graph, subst P (c.deref.ensures.value ∙ c.in_ok-roots.ensures) is)) (λ fault w. w)

pub returns-clause-cycle : goal.returns-clause-cycle
returns-clause-cycle c =
    MatchResult-weaker c.arrange.result c.arrange.ensures.cycle (λ order w. w) (λ fault is.
    let P : List ℕ → Type 0 = λ roots. IsCycleFault c.in_ok-graph.graph roots fault in
    loop_fault_of c.args.net.now c.in_ok-graph.graph fault c.requires c.graph_of.ensures.inside c.in_ok-graph.ensures.graph (subst P (c.deref.ensures.value ∙ c.in_ok-roots.ensures) is))
