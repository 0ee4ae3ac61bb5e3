use Rattle.std.proofs.Common.{arith}
use Rattle.net_simplify.proofs.BitLemmas.{bit_low}
use Rattle.net_simplify.proofs.halves.+with_bit.Goals as goal

pub overflow_mul-result-else-place-eq0 : goal.overflow_mul-result-else-place-eq0
overflow_mul-result-else-place-eq0 t c = omega (arith, bit_low c.args.place c.args.bit c.args.index c.with_bit.result c.requires.bit c.requires.place c.requires.index c.with_bit.ensures)

pub overflow_add-result-else-place-eq0 : goal.overflow_add-result-else-place-eq0
overflow_add-result-else-place-eq0 t c = omega (arith, bit_low c.args.place c.args.bit c.args.index c.with_bit.result c.requires.bit c.requires.place c.requires.index c.with_bit.ensures)
