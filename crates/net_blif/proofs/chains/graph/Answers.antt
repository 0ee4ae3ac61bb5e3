use Rattle.std.proofs.Common.{rules, ◌≡◌, ◌∙◌, ap, subst, ℕ, ◌<◌, length}
use Rattle.net_blif.specs.Chains.{row_of}
use Rattle.net_blif.proofs.ChainLemmas.{built_more, built_start, built_whole, row_below, IsBuilt}
use Rattle.net_blif.proofs.chains.graph.Goals as goal

pub loop-model-init : goal.loop-model-init
loop-model-init c = built_start c.args.models.now c.in_ok-graph.graph c.models.result c.models.ensures c.in_ok-graph.ensures

pub set_edges-requires-clause-from : goal.set_edges-requires-clause-from
set_edges-requires-clause-from c = rw c.loop-model.invariant.long (search rules)

pub set_edges-requires-clause-to : goal.set_edges-requires-clause-to
set_edges-requires-clause-to c = row_below c.args.models.now c.items.result.now c.deref.result.now c.loop-model.graph c.loop-model.invariant.long (c.deref.ensures.value ∙ c.in_ok-row.ensures)

pub loop-model-preserved : goal.loop-model-preserved
loop-model-preserved c =
    let less : c.loop-model.model < length c.args.models.now = search rules in
    built_more c.args.models.now c.loop-model.model c.loop-model.graph c.set_edges.new.self c.deref.result.now less c.loop-model.invariant (c.deref.ensures.value ∙ (c.in_ok-row.ensures ∙ ap (row_of c.args.models.now) c.items.ensures)) c.in_ok-set_edges.ensures.made

pub returns : goal.returns
returns c =
    let all : c.loop-model.model ≡ length c.args.models.now = search rules in
    let P : ℕ → Type 0 = λ k. IsBuilt c.args.models.now k c.loop-model.graph in
    built_whole c.args.models.now c.loop-model.graph (subst P all c.loop-model.invariant)
