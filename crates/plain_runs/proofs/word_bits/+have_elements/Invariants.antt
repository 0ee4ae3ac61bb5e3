use Rattle.std.proofs.Common.{length}
use Rattle.plain_runs.proofs.word_bits.+have_elements.Given as goal

abbrev pub decreases-have_elements : goal.decreases-have_elements
decreases-have_elements g l = length l.words.now
