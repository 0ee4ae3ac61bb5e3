use Rattle.compose_stages.proofs.StageLemmas.{all_done, refused_first}
use Rattle.compose_stages.proofs.instance_laws.instances_by_level_have_these_stages.Goals as goal

pub returns-clause-over : goal.returns-clause-over
returns-clause-over c = λ top walk name n by first.
    let built = by.built in
    refused_first top.k top.product built.fed.over.ring built.fed.over.no_zero_divisors top.hierarchy built.fed.over.given top.rows built.fed.feeds built.blocks walk.words walk.blocks by.is.blocks_are by.is.words_are by.many walk.bound walk.order by.is.ready by.by_level name n first

pub returns-clause-within : goal.returns-clause-within
returns-clause-within c = λ top walk polys by done.
    let built = by.built in
    all_done top.k top.product built.fed.over.ring built.fed.over.no_zero_divisors top.hierarchy built.fed.over.given top.rows built.fed.feeds built.blocks walk.words walk.blocks by.is.blocks_are by.is.words_are by.many walk.bound walk.order by.is.ready by.by_level polys done
