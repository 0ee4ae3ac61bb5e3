use Rattle.std.proofs.Common.{ap, arith}
use Rattle.lists.specs.laws.ReadLaws.{get_below}
use Rattle.unroll.specs.Places.{fed_bits}
use Rattle.unroll.proofs.plan.Plan.add_word_labels.Goals as goal

pub add_bit_labels-requires-clause-room : goal.add_bit_labels-requires-clause-room
add_bit_labels-requires-clause-room c =
    let got = get_below c.args.self.now.binding.words c.args.w c.requires.word in
    omega (arith, c.requires.room got.0 got.1, ap (fed_bits c.args.self.now.binding.k) (c.in-Fed.ensures got.0 got.1))
