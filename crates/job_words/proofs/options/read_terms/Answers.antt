use Rattle.std.proofs.Common.{◌≡◌, ◌∷◌, [], List, ℕ, map, subst, sym, ◌∙◌, string_bytes, arith}
use Rattle.std.specs.Prelude.{IfNone}
use Rattle.job_words.specs.Operands.{Word}
use Rattle.job_words.specs.Options.{IsTermsOption}
use Rattle.job_words.proofs.WordLemmas.{two_whole}
use Rattle.job_words.proofs.options.read_terms.Goals as goal

pub returns-in-len2-clause-none : goal.returns-in-len2-clause-none
returns-in-len2-clause-none c =
    let whole = two_whole string_bytes c.args.options.now c.name-item.result c.number-item.result (omega arith) (omega arith) c.name-item.is c.number-item.is in
    let texts : c.as_str.result.now ∷ c.as_str-in-len2.result.now ∷ [] ≡ map string_bytes c.args.options.now = (λ i. c.as_str.ensures.value i ∷ c.as_str-in-len2.ensures.value i ∷ []) ∙ sym whole in
    let P : List Word → Type 0 = λ words. IfNone c.of_terms.result ((terms : ℕ) → IsTermsOption 262144 65536 words terms → ⊥) in
    subst P texts c.of_terms.ensures.none
