use Rattle.std.proofs.Common.{length}
use Rattle.net_simplify.proofs.words.+leaf_word.Given as goal

abbrev pub decreases-leaf_word : goal.decreases-leaf_word
decreases-leaf_word l = length l.leaves.now
