use Rattle.compose_stages.proofs.OneInstanceLemmas.{one_element}
use Rattle.compose_stages.proofs.SomeStageLemmas.{some_element}
use Rattle.compose_stages.proofs.instance_laws.stages_of_instances_have_values.Goals as goal

pub returns-clause-some : goal.returns-clause-some
returns-clause-some c = λ top order built by_level name listed p at. some_element top.k top.product built.fed.over.ring built.fed.over.no_zero_divisors top.hierarchy built.fed.over.given top.rows built.fed.feeds built.blocks order by_level name p at listed

pub returns-clause-only : goal.returns-clause-only
returns-clause-only c = λ top name p is at e other x y.
    let built = is.built in
    one_element top.k top.product built.fed.over.ring built.fed.over.no_zero_divisors top.hierarchy built.fed.over.given top.rows built.fed.feeds built.blocks is.acyclic name p e other at x y
