use Rattle.std.proofs.Common.{◌≡◌, codes, rules}
use Rattle.job_words.proofs.OptionLemmas.{cycles_first_found, terms_first_found}
use Rattle.job_words.proofs.options.of_two.Goals as goal

pub returns-then-eq-2-clause-found : goal.returns-then-eq-2-clause-found
returns-then-eq-2-clause-found c =
    let first : c.args.name.now ≡ codes "--terms" = search rules in
    let second : c.args.other.now ≡ codes "--cycles" = search rules in
    terms_first_found c.args.limit c.args.default c.args.name.now c.args.number.now c.args.other.now c.args.second.now c.both.result first second c.both.ensures.found

pub returns-then-eq-4-clause-found : goal.returns-then-eq-4-clause-found
returns-then-eq-4-clause-found c =
    let first : c.args.name.now ≡ codes "--cycles" = search rules in
    let second : c.args.other.now ≡ codes "--terms" = search rules in
    cycles_first_found c.args.limit c.args.default c.args.name.now c.args.number.now c.args.other.now c.args.second.now c.both-then-eq-4.result first second c.both-then-eq-4.ensures.found
