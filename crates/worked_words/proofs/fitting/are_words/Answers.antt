use Rattle.std.proofs.Common.{arith, rules}
use Rattle.worked_words.proofs.fitting.are_words.Goals as goal

pub returns : goal.returns
returns c = λ all. record { some = omega arith; most = omega arith; one = omega arith; few = omega arith; output = search rules; others = omega arith; each = c.have_nets.ensures.0 all }
