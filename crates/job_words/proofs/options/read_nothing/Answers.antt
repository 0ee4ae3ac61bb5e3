use Rattle.std.proofs.Common.{string_bytes, arith}
use Rattle.job_words.proofs.OptionLemmas.{no_words, some_words}
use Rattle.job_words.proofs.options.read_nothing.Goals as goal

pub returns-in-empty-clause-found : goal.returns-in-empty-clause-found
returns-in-empty-clause-found c = no_words string_bytes c.args.options.now (omega arith)

pub returns-in_default-clause-none : goal.returns-in_default-clause-none
returns-in_default-clause-none c = some_words string_bytes c.args.options.now (omega arith)
