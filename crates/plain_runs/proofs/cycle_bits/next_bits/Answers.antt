use Rattle.plain_runs.proofs.CycleBitLemmas.{inputs_settled, nexts_settled}
use Rattle.plain_runs.proofs.cycle_bits.next_bits.Goals as goal

pub returns-clause-inputs : goal.returns-clause-inputs
returns-clause-inputs g c = inputs_settled c.args.net.now c.args.words.now c.args.xs.now c.args.feeds.now c.args.cycle c.in_ok-bits.bits.items c.set_nexts.new.bits.items c.in_ok-bits-2.bits.items c.in_ok-bits.ensures.inputs c.set_nexts.ensures.kept c.in_ok-bits-2.ensures.sources

pub returns-clause-latches : goal.returns-clause-latches
returns-clause-latches g c = nexts_settled c.args.net.now c.args.words.now c.args.xs.now c.args.feeds.now c.args.cycle c.args.before.now c.set_nexts.new.bits.items c.in_ok-bits-2.bits.items c.set_nexts.ensures.latches c.in_ok-bits-2.ensures.sources
