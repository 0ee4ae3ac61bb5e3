use Rattle.compose_stages.proofs.DecidedBlockLemmas.{blocks_decided, composition_decided}
use Rattle.compose_stages.proofs.DecidedLemmas.{instances_decided}
use Rattle.compose_stages.proofs.existence_laws.some_first_of_composition.Goals as goal

pub returns-clause-instances : goal.returns-clause-instances
returns-clause-instances c = λ top order bound built by_level. instances_decided top.k top.product top.hierarchy top.rows built.fed.over.ring built.fed.over.no_zero_divisors built.fed.over.given built.fed.feeds built.blocks order by_level bound

pub returns-clause-blocks : goal.returns-clause-blocks
returns-clause-blocks c = λ k mul h bound over blocks_are. blocks_decided k mul h over.ring over.no_zero_divisors over.given blocks_are bound

pub returns-clause-both : goal.returns-clause-both
returns-clause-both c = λ top order bound built by_level. composition_decided top.k top.product top.hierarchy built.fed.over.ring built.fed.over.no_zero_divisors built.fed.over.given built.blocks bound top.rows built.fed.feeds order by_level
