use Rattle.std.proofs.Common.{length}
use Rattle.net_simplify.proofs.words.+word_of_taken.Given as goal

abbrev pub decreases-word_of_taken : goal.decreases-word_of_taken
decreases-word_of_taken l = length l.nets.now
