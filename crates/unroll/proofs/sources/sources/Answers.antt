use Rattle.unroll.proofs.PlanLemmas.{feeds_low}
use Rattle.unroll.proofs.sources.sources.Goals as goal

pub put_sources-requires-clause-nets : goal.put_sources-requires-clause-nets
put_sources-requires-clause-nets c = feeds_low c.args.net.now c.args.binding.now c.feeds.result.now c.nets-nets.result c.nets-nets.ensures.sound c.requires.binding c.feeds.ensures c.nets-nets.ensures.count
