use Rattle.std.proofs.Common.{length, refl}
use Rattle.compose_stages.proofs.SizedLemmas.{some_terms}
use Rattle.compose_stages.proofs.instance_laws.stages_of_instances_have_sizes.Goals as goal

pub returns-clause-polynomial : goal.returns-clause-polynomial
returns-clause-polynomial c = λ top order built by_level name listed. some_terms top.k top.product top.hierarchy top.rows built.fed.over.ring built.fed.over.no_zero_divisors built.fed.over.given built.fed.feeds built.blocks order by_level name listed

pub returns-clause-size : goal.returns-clause-size
returns-clause-size c = λ top order built by_level name listed.
    let made = some_terms top.k top.product top.hierarchy top.rows built.fed.over.ring built.fed.over.no_zero_divisors built.fed.over.given built.fed.feeds built.blocks order by_level name listed in
    (length made.0, record { terms = made.0; is = made.1; size = refl })
