use Rattle.std.proofs.Common.{◌≡◌, [], ◌∷◌, codes, true, rules}
use Rattle.lists.specs.laws.OptionLaws.{if_none, if_some}
use Rattle.job_words.specs.Options.{AreCircuitOptions, AreStageOptions}
use Rattle.job_words.proofs.SimplifyLemmas.{first_set, last_set, no_first, three_not}
use Rattle.job_words.proofs.options.of_three.Goals as goal

pub returns-then-eq-clause-found : goal.returns-then-eq-clause-found
returns-then-eq-clause-found c =
    let named : c.args.first.now ≡ codes "--simplify" = search rules in
    if_some c.of_option.result (λ r. AreStageOptions (c.args.second.now ∷ c.args.third.now ∷ []) r.0 r.1) (λ r. AreCircuitOptions (c.args.first.now ∷ c.args.second.now ∷ c.args.third.now ∷ []) r.0 r.1 true)
    (λ r is. first_set c.args.first.now (c.args.second.now ∷ c.args.third.now ∷ []) r.0 r.1 named is) c.of_option.ensures.found

pub returns-then-eq-clause-none : goal.returns-then-eq-clause-none
returns-then-eq-clause-none c =
    let named : c.args.first.now ≡ codes "--simplify" = search rules in
    if_none c.of_option.result
    (λ none t k. three_not c.args.first.now c.args.second.now c.args.third.now t k (λ e. none t k) (λ e. no_first c.args.first.now (c.args.second.now ∷ []) t k named)) c.of_option.ensures.none

pub returns-then-eq-2-clause-found : goal.returns-then-eq-2-clause-found
returns-then-eq-2-clause-found c =
    let named : c.args.third.now ≡ codes "--simplify" = search rules in
    if_some c.of_option-then-eq-2.result (λ r. AreStageOptions (c.args.first.now ∷ c.args.second.now ∷ []) r.0 r.1) (λ r. AreCircuitOptions (c.args.first.now ∷ c.args.second.now ∷ c.args.third.now ∷ []) r.0 r.1 true)
    (λ r is. last_set (c.args.first.now ∷ c.args.second.now ∷ []) c.args.third.now r.0 r.1 named is) c.of_option-then-eq-2.ensures.found

pub returns-then-eq-2-clause-none : goal.returns-then-eq-2-clause-none
returns-then-eq-2-clause-none c =
    let other : c.args.first.now ≡ codes "--simplify" → ⊥ = search rules in
    if_none c.of_option-then-eq-2.result
    (λ none t k. three_not c.args.first.now c.args.second.now c.args.third.now t k (λ e. absurd (other e)) (λ e. none t k)) c.of_option-then-eq-2.ensures.none
