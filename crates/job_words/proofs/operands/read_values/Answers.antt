use Rattle.std.proofs.Common.{◌≡◌, false, true, string_bytes, rules}
use Rattle.job_words.proofs.ValueLemmas.{are_read, no_cycles, not_values}
use Rattle.job_words.proofs.operands.read_values.Goals as goal

pub returns-then-not-are_values-clause-none : goal.returns-then-not-are_values-clause-none
returns-then-not-are_values-clause-none c =
    let off : c.are_values.result ≡ false = search rules in
    not_values string_bytes c.args.words.now c.options_begin-end.result c.options_begin-end.ensures.before (λ all. let yes = c.are_values.ensures.1 all in absurd (cc))

pub returns-in-Some-clause-found : goal.returns-in-Some-clause-found
returns-in-Some-clause-found c =
    let on : c.are_values.result ≡ true = search rules in
    are_read string_bytes c.args.words.now c.options_begin-end.result c.in-Some.cycles (c.are_values.ensures.0 on) c.in-Some.ensures.found

pub returns-in-None-clause-none : goal.returns-in-None-clause-none
returns-in-None-clause-none c = no_cycles string_bytes c.args.words.now c.options_begin-end.result c.options_begin-end.ensures.behind c.in-None.ensures.none
