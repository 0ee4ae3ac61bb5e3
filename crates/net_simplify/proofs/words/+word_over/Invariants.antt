use Rattle.std.proofs.Common.{length}
use Rattle.net_simplify.proofs.words.+word_over.Given as goal

abbrev pub decreases-word_over : goal.decreases-word_over
decreases-word_over l = length l.some.now
