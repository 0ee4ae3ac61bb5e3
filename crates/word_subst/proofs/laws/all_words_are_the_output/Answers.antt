use Rattle.word_subst.proofs.CallerLemmas.{output_values, words_alone}
use Rattle.word_subst.proofs.laws.all_words_are_the_output.Goals as goal

pub returns-clause-values : goal.returns-clause-values
returns-clause-values c = λ circuit ts p well is at. output_values circuit ts well is p at

pub returns-clause-words : goal.returns-clause-words
returns-clause-words c = λ circuit ts rank well is. words_alone circuit ts well is rank
