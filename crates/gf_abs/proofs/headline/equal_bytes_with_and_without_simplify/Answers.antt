use Rattle.gf_abs.proofs.BitsHeadlineLemmas.{one_in_bits_of}
use Rattle.gf_abs.proofs.CheckHeadlineLemmas.{one_check}
use Rattle.gf_abs.proofs.HeadlineLemmas.{one_in_words}
use Rattle.gf_abs.proofs.SameHeadlineLemmas.{one_same}
use Rattle.gf_abs.proofs.headline.equal_bytes_with_and_without_simplify.Goals as goal

pub returns-clause-in_bits : goal.returns-clause-in_bits
returns-clause-in_bits c = one_in_bits_of

pub returns-clause-in_words : goal.returns-clause-in_words
returns-clause-in_words c = one_in_words

pub returns-clause-of_check : goal.returns-clause-of_check
returns-clause-of_check c = one_check

pub returns-clause-of_same : goal.returns-clause-of_same
returns-clause-of_same c = one_same
