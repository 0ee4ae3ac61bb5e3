use Rattle.std.proofs.Common.{◌≡◌, ◌∷◌, [], List, ℕ, true, map, subst, sym, ◌∙◌, string_bytes, arith}
use Rattle.std.specs.Prelude.{IfNone, IfSome}
use Rattle.job_words.specs.Operands.{Word}
use Rattle.job_words.specs.Options.{AreCircuitOptions}
use Rattle.job_words.proofs.SimplifyLemmas.{not_odd}
use Rattle.job_words.proofs.WordLemmas.{five_whole, one_whole, three_whole}
use Rattle.job_words.proofs.options.read_simplify.Goals as goal

pub returns-in-len1 : goal.returns-in-len1
returns-in-len1 c =
    let whole = one_whole string_bytes c.args.options.now c.word-item.result (omega arith) (omega arith) c.word-item.is in
    let texts : c.as_str.result.now ∷ [] ≡ map string_bytes c.args.options.now =
    (λ i. c.as_str.ensures.value i ∷ []) ∙ sym whole in
    let P : List Word → Type 0 = λ words. IfSome c.of_simplify.result (λ r. AreCircuitOptions words r.0 r.1 true) in
    let Q : List Word → Type 0 = λ words. IfNone c.of_simplify.result ((terms cycles : ℕ) → AreCircuitOptions words terms cycles true → ⊥) in
    record { found = subst P texts c.of_simplify.ensures.found; none = subst Q texts c.of_simplify.ensures.none; few = c.of_simplify.ensures.few }

pub returns-in-len3 : goal.returns-in-len3
returns-in-len3 c =
    let whole = three_whole string_bytes c.args.options.now c.first-item.result c.second-item.result c.third-item.result (omega arith) (omega arith) c.first-item.is c.second-item.is c.third-item.is in
    let texts : c.as_str-in-len3.result.now ∷ c.as_str-in-len3-2.result.now ∷ c.as_str-in-len3-3.result.now ∷ [] ≡ map string_bytes c.args.options.now =
    (λ i. c.as_str-in-len3.ensures.value i ∷ c.as_str-in-len3-2.ensures.value i ∷ c.as_str-in-len3-3.ensures.value i ∷ []) ∙ sym whole in
    let P : List Word → Type 0 = λ words. IfSome c.of_three.result (λ r. AreCircuitOptions words r.0 r.1 true) in
    let Q : List Word → Type 0 = λ words. IfNone c.of_three.result ((terms cycles : ℕ) → AreCircuitOptions words terms cycles true → ⊥) in
    record { found = subst P texts c.of_three.ensures.found; none = subst Q texts c.of_three.ensures.none; few = c.of_three.ensures.few }

pub returns-in-len5 : goal.returns-in-len5
returns-in-len5 c =
    let whole = five_whole string_bytes c.args.options.now c.first-item-then-options-lt6.result c.second-item-then-options-lt6.result c.third-item-then-options-lt6.result c.fourth-item.result c.fifth-item.result (omega arith) (omega arith) c.first-item-then-options-lt6.is c.second-item-then-options-lt6.is c.third-item-then-options-lt6.is c.fourth-item.is c.fifth-item.is in
    let texts : c.as_str-in-len5.result.now ∷ c.as_str-in-len5-2.result.now ∷ c.as_str-in-len5-3.result.now ∷ c.as_str-in-len5-4.result.now ∷ c.as_str-in-len5-5.result.now ∷ [] ≡ map string_bytes c.args.options.now =
    (λ i. c.as_str-in-len5.ensures.value i ∷ c.as_str-in-len5-2.ensures.value i ∷ c.as_str-in-len5-3.ensures.value i ∷ c.as_str-in-len5-4.ensures.value i ∷ c.as_str-in-len5-5.ensures.value i ∷ []) ∙ sym whole in
    let P : List Word → Type 0 = λ words. IfSome c.of_five.result (λ r. AreCircuitOptions words r.0 r.1 true) in
    let Q : List Word → Type 0 = λ words. IfNone c.of_five.result ((terms cycles : ℕ) → AreCircuitOptions words terms cycles true → ⊥) in
    record { found = subst P texts c.of_five.ensures.found; none = subst Q texts c.of_five.ensures.none; few = c.of_five.ensures.few }

pub returns-in_default-2-clause-none : goal.returns-in_default-2-clause-none
returns-in_default-2-clause-none c = not_odd string_bytes c.args.options.now (λ e. absurd (omega arith)) (λ e. absurd (omega arith)) (λ e. absurd (omega arith))

pub returns-in_default-3-clause-none : goal.returns-in_default-3-clause-none
returns-in_default-3-clause-none c = not_odd string_bytes c.args.options.now (λ e. absurd (omega arith)) (λ e. absurd (omega arith)) (λ e. absurd (omega arith))

pub returns-in_default-4-clause-none : goal.returns-in_default-4-clause-none
returns-in_default-4-clause-none c = not_odd string_bytes c.args.options.now (λ e. absurd (omega arith)) (λ e. absurd (omega arith)) (λ e. absurd (omega arith))
