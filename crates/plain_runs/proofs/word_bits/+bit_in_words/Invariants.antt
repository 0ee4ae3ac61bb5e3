use Rattle.std.proofs.Common.{length}
use Rattle.plain_runs.proofs.word_bits.+bit_in_words.Given as goal

abbrev pub decreases-bit_in_words : goal.decreases-bit_in_words
decreases-bit_in_words g l = length l.words.now
