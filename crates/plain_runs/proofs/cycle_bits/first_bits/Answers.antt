use Rattle.plain_runs.proofs.CycleBitLemmas.{inputs_settled, starts_settled}
use Rattle.plain_runs.proofs.cycle_bits.first_bits.Goals as goal

pub returns-clause-inputs : goal.returns-clause-inputs
returns-clause-inputs g c = inputs_settled c.args.net.now c.args.words.now c.args.xs.now c.args.feeds.now 0 c.in_ok-bits.bits.items c.set_starts.new.bits.items c.in_ok-bits-2.bits.items c.in_ok-bits.ensures.inputs c.set_starts.ensures.kept c.in_ok-bits-2.ensures.sources

pub returns-clause-latches : goal.returns-clause-latches
returns-clause-latches g c = starts_settled c.args.net.now c.args.words.now c.args.xs.now c.args.feeds.now 0 c.set_starts.new.bits.items c.in_ok-bits-2.bits.items c.set_starts.ensures.latches c.in_ok-bits-2.ensures.sources
