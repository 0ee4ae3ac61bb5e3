use Rattle.std.proofs.Common.{◌≡◌, codes, rules}
use Rattle.job_words.proofs.OneCommandLemmas.{no_compose}
use Rattle.job_words.proofs.command.word_task.Goals as goal

pub returns-in-None-over_blif-clause-none : goal.returns-in-None-over_blif-clause-none
returns-in-None-over_blif-clause-none c =
    let named : c.args.name.now ≡ codes "compose" = search rules in
    no_compose c.args.name.now _ named c.in-None-over_blif.ensures.none
