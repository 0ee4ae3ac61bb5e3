use Rattle.compose_stages.proofs.JoinLemmas.{first_not_all, one_first}
use Rattle.compose_stages.proofs.LevelLemmas.{instance_levels}
use Rattle.compose_stages.proofs.composition_laws.one_first_of_composition.Goals as goal

pub returns-clause-only : goal.returns-clause-only
returns-clause-only c = λ top bound is name other m n x y.
    let built = is.built in
    let levels = instance_levels top.hierarchy top.rows built.fed.feeds is.acyclic in
    one_first top.k top.product top.hierarchy top.rows built.fed.over.ring built.fed.over.no_zero_divisors built.fed.over.given built.fed.feeds built.blocks is.acyclic bound levels.0 levels.1 name other m n x y

pub returns-clause-not_all : goal.returns-clause-not_all
returns-clause-not_all c = λ top bound is name n x within.
    let built = is.built in
    first_not_all top.k top.product top.hierarchy top.rows built.fed.over.ring built.fed.over.no_zero_divisors built.fed.over.given built.fed.feeds built.blocks is.acyclic bound name n x within
