use Rattle.rato_reduce.proofs.ShortListLemmas.{one_put}
use Rattle.rato_reduce.proofs.ranks.set_first.Goals as goal

pub returns : goal.returns
returns c = one_put c.args.items.now c.args.rank c.requires
