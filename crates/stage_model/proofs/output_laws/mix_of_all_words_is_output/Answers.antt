use Rattle.std.proofs.Common.{length, arith}
use Rattle.stage_model.proofs.OutputInWordsLemmas.{all_words_is_output}
use Rattle.stage_model.proofs.SomeStageLemmas.{mix_polynomial}
use Rattle.stage_model.proofs.output_laws.mix_of_all_words_is_output.Goals as goal

pub returns-clause-output : goal.returns-clause-output
returns-clause-output c = λ circuit ts well. all_words_is_output circuit well ts

pub returns-clause-some : goal.returns-clause-some
returns-clause-some c = λ circuit well.
    let made = mix_polynomial circuit well (length circuit.words) (omega arith) in
    (made.0, (all_words_is_output circuit well made.0).0 made.1)
