use Rattle.compose_model.proofs.OneValueLemmas.{one_list}
use Rattle.compose_model.proofs.laws.instances_have_one_value_each.Goals as goal

pub returns : goal.returns
returns c = λ top xs is es others a b.
    let fed = is.built.fed in
    one_list top.k top.product top.hierarchy xs es others fed.over.ring fed.over.no_zero_divisors fed.over.given top.rows fed.feeds is.built.blocks a b is.acyclic
