use Rattle.std.proofs.Common.{◌≡◌, codes, rules}
use Rattle.job_words.proofs.OptionLemmas.{of_cycles_alone, of_terms_alone}
use Rattle.job_words.proofs.options.of_option.Goals as goal

pub returns-in-Some-clause-found : goal.returns-in-Some-clause-found
returns-in-Some-clause-found c =
    let named : c.args.name.now ≡ codes "--terms" = search rules in
    of_terms_alone c.args.limit c.args.default c.args.name.now c.args.number.now c.in-Some.terms named c.in-Some.ensures.found

pub returns-in-Some-cycle_count-clause-found : goal.returns-in-Some-cycle_count-clause-found
returns-in-Some-cycle_count-clause-found c =
    let named : c.args.name.now ≡ codes "--cycles" = search rules in
    of_cycles_alone c.args.limit c.args.default c.args.name.now c.args.number.now c.in-Some-cycle_count.cycles named c.in-Some-cycle_count.ensures.found
