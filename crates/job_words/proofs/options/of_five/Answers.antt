use Rattle.std.proofs.Common.{◌≡◌, [], ◌∷◌, codes, true, rules}
use Rattle.lists.specs.laws.OptionLaws.{if_none, if_some}
use Rattle.job_words.specs.Options.{AreCircuitOptions, AreStageOptions}
use Rattle.job_words.proofs.SimplifyLemmas.{first_set, five_not, last_set, middle_set, no_first, no_third}
use Rattle.job_words.proofs.options.of_five.Goals as goal

pub returns-then-eq-clause-found : goal.returns-then-eq-clause-found
returns-then-eq-clause-found c =
    let named : c.args.first.now ≡ codes "--simplify" = search rules in
    if_some c.of_two.result (λ r. AreStageOptions (c.args.second.now ∷ c.args.third.now ∷ c.args.fourth.now ∷ c.args.fifth.now ∷ []) r.0 r.1) (λ r. AreCircuitOptions (c.args.first.now ∷ c.args.second.now ∷ c.args.third.now ∷ c.args.fourth.now ∷ c.args.fifth.now ∷ []) r.0 r.1 true)
    (λ r is. first_set c.args.first.now (c.args.second.now ∷ c.args.third.now ∷ c.args.fourth.now ∷ c.args.fifth.now ∷ []) r.0 r.1 named is) c.of_two.ensures.found

pub returns-then-eq-clause-none : goal.returns-then-eq-clause-none
returns-then-eq-clause-none c =
    let named : c.args.first.now ≡ codes "--simplify" = search rules in
    if_none c.of_two.result
    (λ none t k. five_not c.args.first.now c.args.second.now c.args.third.now c.args.fourth.now c.args.fifth.now t k (λ e. none t k) (λ e. no_first c.args.first.now (c.args.second.now ∷ c.args.fourth.now ∷ c.args.fifth.now ∷ []) t k named) (λ e. no_first c.args.first.now (c.args.second.now ∷ c.args.third.now ∷ c.args.fourth.now ∷ []) t k named)) c.of_two.ensures.none

pub returns-then-eq-2-clause-found : goal.returns-then-eq-2-clause-found
returns-then-eq-2-clause-found c =
    let named : c.args.third.now ≡ codes "--simplify" = search rules in
    if_some c.of_two-then-eq-2.result (λ r. AreStageOptions (c.args.first.now ∷ c.args.second.now ∷ c.args.fourth.now ∷ c.args.fifth.now ∷ []) r.0 r.1) (λ r. AreCircuitOptions (c.args.first.now ∷ c.args.second.now ∷ c.args.third.now ∷ c.args.fourth.now ∷ c.args.fifth.now ∷ []) r.0 r.1 true)
    (λ r is. middle_set c.args.first.now c.args.second.now c.args.third.now c.args.fourth.now c.args.fifth.now r.0 r.1 named is) c.of_two-then-eq-2.ensures.found

pub returns-then-eq-2-clause-none : goal.returns-then-eq-2-clause-none
returns-then-eq-2-clause-none c =
    let other : c.args.first.now ≡ codes "--simplify" → ⊥ = search rules in
    let named : c.args.third.now ≡ codes "--simplify" = search rules in
    if_none c.of_two-then-eq-2.result
    (λ none t k. five_not c.args.first.now c.args.second.now c.args.third.now c.args.fourth.now c.args.fifth.now t k (λ e. absurd (other e)) (λ e. none t k) (λ e. no_third c.args.first.now c.args.second.now c.args.third.now (c.args.fourth.now ∷ []) t k named)) c.of_two-then-eq-2.ensures.none

pub returns-then-eq-3-clause-found : goal.returns-then-eq-3-clause-found
returns-then-eq-3-clause-found c =
    let named : c.args.fifth.now ≡ codes "--simplify" = search rules in
    if_some c.of_two-then-eq-3.result (λ r. AreStageOptions (c.args.first.now ∷ c.args.second.now ∷ c.args.third.now ∷ c.args.fourth.now ∷ []) r.0 r.1) (λ r. AreCircuitOptions (c.args.first.now ∷ c.args.second.now ∷ c.args.third.now ∷ c.args.fourth.now ∷ c.args.fifth.now ∷ []) r.0 r.1 true)
    (λ r is. last_set (c.args.first.now ∷ c.args.second.now ∷ c.args.third.now ∷ c.args.fourth.now ∷ []) c.args.fifth.now r.0 r.1 named is) c.of_two-then-eq-3.ensures.found

pub returns-then-eq-3-clause-none : goal.returns-then-eq-3-clause-none
returns-then-eq-3-clause-none c =
    let first : c.args.first.now ≡ codes "--simplify" → ⊥ = search rules in
    let middle : c.args.third.now ≡ codes "--simplify" → ⊥ = search rules in
    if_none c.of_two-then-eq-3.result
    (λ none t k. five_not c.args.first.now c.args.second.now c.args.third.now c.args.fourth.now c.args.fifth.now t k (λ e. absurd (first e)) (λ e. absurd (middle e)) (λ e. none t k)) c.of_two-then-eq-3.ensures.none
