use Rattle.std.proofs.Common.{arith}
use Rattle.net_simplify.proofs.BitLemmas.{with_place_table}
use Rattle.net_simplify.proofs.halves.half.Goals as goal

pub table_bit-value-requires : goal.table_bit-value-requires
table_bit-value-requires c = omega (arith, c.with_bit.ensures, with_place_table c.args.place c.args.bit c.loop-index.index c.args.places c.requires.bit c.requires.place c.requires.places (omega (arith, c.loop-index-test.true, c.rows-index-end.ensures.rows)))
