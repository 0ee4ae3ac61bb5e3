use Rattle.std.proofs.Common.{arith}
use Rattle.net_words.proofs.VariableLemmas.{words_few}
use Rattle.net_words.proofs.rebinding.rebound_word.Goals as goal

pub part-nets-requires-clause-few : goal.part-nets-requires-clause-few
part-nets-requires-clause-few c = omega (arith, c.words.ensures.count, words_few c.args.binding.now c.words.ensures.is_binding)
