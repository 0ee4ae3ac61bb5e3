use Rattle.std.proofs.Common.{arith}
use Rattle.net_words.proofs.VariableLemmas.{words_few}
use Rattle.net_words.proofs.bound.Bound.words.Goals as goal

pub overflow_cast-result : goal.overflow_cast-result
overflow_cast-result c = omega (arith, c.len.ensures, words_few _ c.self.invariant.0)
