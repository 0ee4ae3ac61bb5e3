use Rattle.compose_stages.proofs.LevelLemmas.{instance_levels}
use Rattle.compose_stages.proofs.OneInstanceLemmas.{first_not_all, one_first}
use Rattle.compose_stages.proofs.instance_laws.one_first_of_instances.Goals as goal

pub returns-clause-only : goal.returns-clause-only
returns-clause-only c = λ top bound is name other m n x y.
    let built = is.built in
    let levels = instance_levels top.hierarchy top.rows built.fed.feeds is.acyclic in
    one_first top.k top.product built.fed.over.ring built.fed.over.no_zero_divisors top.hierarchy built.fed.over.given top.rows built.fed.feeds built.blocks is.acyclic levels.0 levels.1 bound name other m n x y

pub returns-clause-not_all : goal.returns-clause-not_all
returns-clause-not_all c = λ top bound is name n x within.
    let built = is.built in
    first_not_all top.k top.product built.fed.over.ring built.fed.over.no_zero_divisors top.hierarchy built.fed.over.given top.rows built.fed.feeds built.blocks is.acyclic bound name n x within
