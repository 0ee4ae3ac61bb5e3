use Rattle.std.proofs.Common.{◌≡◌, ◌∷◌, [], List, ℕ, map, subst, sym, ◌∙◌, string_bytes, arith}
use Rattle.std.specs.Prelude.{IfNone, IfSome}
use Rattle.job_words.specs.Operands.{Word}
use Rattle.job_words.specs.Options.{AreOptions}
use Rattle.job_words.proofs.OptionLemmas.{none_set, not_so_long}
use Rattle.job_words.proofs.WordLemmas.{four_whole, two_whole}
use Rattle.job_words.proofs.options.read_options.Goals as goal

pub returns-in-empty-clause-found : goal.returns-in-empty-clause-found
returns-in-empty-clause-found c = none_set c.args.limit c.args.default string_bytes c.args.options.now (omega arith)

pub returns-in-len2 : goal.returns-in-len2
returns-in-len2 c =
    let whole = two_whole string_bytes c.args.options.now c.name-item.result c.number-item.result (omega arith) (omega arith) c.name-item.is c.number-item.is in
    let texts : c.as_str.result.now ∷ c.as_str-in-len2.result.now ∷ [] ≡ map string_bytes c.args.options.now = (λ i. c.as_str.ensures.value i ∷ c.as_str-in-len2.ensures.value i ∷ []) ∙ sym whole in
    let P : List Word → Type 0 = λ words. IfSome c.of_option.result (λ r. AreOptions c.args.limit c.args.default words r.0 r.1) in
    let Q : List Word → Type 0 = λ words. IfNone c.of_option.result ((terms cycles : ℕ) → AreOptions c.args.limit c.args.default words terms cycles → ⊥) in
    record { found = subst P texts c.of_option.ensures.found; none = subst Q texts c.of_option.ensures.none; few = c.of_option.ensures.few }

pub returns-in-len4 : goal.returns-in-len4
returns-in-len4 c =
    let whole = four_whole string_bytes c.args.options.now c.name-item-then-options-lt5.result c.number-item-then-options-lt5.result c.other-item.result c.second-item.result (omega arith) (omega arith) c.name-item-then-options-lt5.is c.number-item-then-options-lt5.is c.other-item.is c.second-item.is in
    let texts : c.as_str-in-len4.result.now ∷ c.as_str-in-len4-2.result.now ∷ c.as_str-in-len4-3.result.now ∷ c.as_str-in-len4-4.result.now ∷ [] ≡ map string_bytes c.args.options.now =
    (λ i. c.as_str-in-len4.ensures.value i ∷ c.as_str-in-len4-2.ensures.value i ∷ c.as_str-in-len4-3.ensures.value i ∷ c.as_str-in-len4-4.ensures.value i ∷ []) ∙ sym whole in
    let P : List Word → Type 0 = λ words. IfSome c.of_two.result (λ r. AreOptions c.args.limit c.args.default words r.0 r.1) in
    let Q : List Word → Type 0 = λ words. IfNone c.of_two.result ((terms cycles : ℕ) → AreOptions c.args.limit c.args.default words terms cycles → ⊥) in
    record { found = subst P texts c.of_two.ensures.found; none = subst Q texts c.of_two.ensures.none; few = c.of_two.ensures.few }

pub returns-in_default-clause-none : goal.returns-in_default-clause-none
returns-in_default-clause-none c = not_so_long c.args.limit c.args.default string_bytes c.args.options.now (λ e. absurd (omega arith)) (λ e. absurd (omega arith)) (λ e. absurd (omega arith))

pub returns-in_default-2-clause-none : goal.returns-in_default-2-clause-none
returns-in_default-2-clause-none c = not_so_long c.args.limit c.args.default string_bytes c.args.options.now (λ e. absurd (omega arith)) (λ e. absurd (omega arith)) (λ e. absurd (omega arith))

pub returns-in_default-3-clause-none : goal.returns-in_default-3-clause-none
returns-in_default-3-clause-none c = not_so_long c.args.limit c.args.default string_bytes c.args.options.now (λ e. absurd (omega arith)) (λ e. absurd (omega arith)) (λ e. absurd (omega arith))
