use Rattle.compose_polys.proofs.OrderedLemmas.{instances_made, output_made}
use Rattle.compose_polys.proofs.output_laws.instances_in_order_are_composed.Goals as goal

pub returns-clause-instances : goal.returns-clause-instances
returns-clause-instances c = λ top done all is stand.
    let walk = done.walk in
    instances_made top.k top.product top.hierarchy top.rows walk.words walk.blocks done.polys walk.bound walk.order all is.is.blocks_are is.is.words_are is.is.ready stand is.get

pub returns-clause-output : goal.returns-clause-output
returns-clause-output c = λ top done flat feed given is.
    let walk = done.walk in
    let ready = is.walked.is in
    let built = given.top_is.built in
    output_made top.k top.product top.hierarchy top.rows walk.words walk.blocks done.polys walk.bound walk.order built.fed.feeds ready.blocks_are ready.words_are ready.ready is.all is.walked.get
    built.fed.over.ring built.fed.over.no_zero_divisors built.fed.over.given built.blocks given.top_is.acyclic flat feed given.flattened.circuit given.flattened.output is.many
