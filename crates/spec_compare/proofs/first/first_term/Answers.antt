use Rattle.std.proofs.Common.{arith}
use Rattle.lists.specs.laws.ReadLaws.{got_read}
use Rattle.spec_compare.proofs.StepLemmas.{first_of_all}
use Rattle.spec_compare.proofs.first.first_term.Goals as goal

pub returns : goal.returns
returns c =
    let ts = c.args.terms.now in
    let t = c.index-terms-best.result in
    first_of_all ts c.loop-i.i c.loop-i.best t (omega arith) (got_read ts c.loop-i.best t c.loop-i.invariant.within c.index-terms-best.is) c.loop-i.invariant.first
