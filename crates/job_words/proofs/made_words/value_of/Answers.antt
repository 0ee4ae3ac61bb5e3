use Rattle.lists.specs.laws.OptionLaws.{if_none}
use Rattle.job_words.proofs.MadeWordsLemmas.{no_value}
use Rattle.job_words.proofs.made_words.value_of.Goals as goal

pub returns-clause-none : goal.returns-clause-none
returns-clause-none c = if_none c.read_hex.result (no_value c.args.word.now) (rw c.as_bytes.ensures.value at c.read_hex.ensures.none)
