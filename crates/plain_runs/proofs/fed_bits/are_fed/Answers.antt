use Rattle.std.proofs.Common.{arith}
use Rattle.std.proofs.lemmas.Option.{slice_get_within}
use Rattle.plain_runs.proofs.FedBitLemmas.{each_fed}
use Rattle.plain_runs.proofs.fed_bits.are_fed.Goals as goal

pub returns-clause-fed : goal.returns-clause-fed
returns-clause-fed g c = λ hit. each_fed c.args.words.now c.args.xs.now c.args.feeds.now c.args.cycle c.args.bits.now (λ k f got. c.loop-feed.invariant k f (omega (arith, slice_get_within c.args.feeds.now k f got, c.loop-feed-test.false)) got)
