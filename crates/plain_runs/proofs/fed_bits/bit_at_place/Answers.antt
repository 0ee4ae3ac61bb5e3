use Rattle.plain_runs.proofs.FedBitLemmas.{high_bit}
use Rattle.plain_runs.proofs.fed_bits.bit_at_place.Goals as goal

pub returns-else-place-lt64 : goal.returns-else-place-lt64
returns-else-place-lt64 c = high_bit c.args.bits c.args.place c.ranges.bits.fits c.if-place-lt64.false
