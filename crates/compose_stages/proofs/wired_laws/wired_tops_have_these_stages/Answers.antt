use Rattle.compose_stages.proofs.StageLemmas.{all_done, refused_first}
use Rattle.compose_stages.proofs.wired_laws.wired_tops_have_these_stages.Goals as goal

pub returns-clause-over : goal.returns-clause-over
returns-clause-over c = λ top bound n name built first.
    let over = first.over in
    refused_first top.k top.product built.fed.over.ring built.fed.over.no_zero_divisors top.hierarchy built.fed.over.given top.rows built.fed.feeds built.blocks over.words first.blocks first.blocks_are over.taken.words_are over.taken.many bound over.order over.taken.ready over.taken.by_level name n over.refused

pub returns-clause-within : goal.returns-clause-within
returns-clause-within c = λ top bound built has.
    let is = has.is in
    all_done top.k top.product built.fed.over.ring built.fed.over.no_zero_divisors top.hierarchy built.fed.over.given top.rows built.fed.feeds built.blocks is.words has.blocks has.blocks_are is.taken.words_are is.taken.many bound is.order is.taken.ready is.taken.by_level is.polys is.done
