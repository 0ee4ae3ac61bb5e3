use Rattle.std.proofs.Common.{◌≡◌, [], codes, rules}
use Rattle.job_words.proofs.SimplifyLemmas.{first_set, no_options}
use Rattle.job_words.proofs.options.of_simplify.Goals as goal

pub returns-then-eq-clause-found : goal.returns-then-eq-clause-found
returns-then-eq-clause-found c =
    let named : c.args.word.now ≡ codes "--simplify" = search rules in
    first_set c.args.word.now [] 65536 0 named no_options
