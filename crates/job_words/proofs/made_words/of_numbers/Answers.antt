use Rattle.std.proofs.Common.{◌≡◌, ◌∷◌, List, ℕ, map, drop, take, length, ◌-◌, subst, sym, ◌∙◌, string_bytes, arith}
use Rattle.std.specs.Prelude.{IfNone}
use Rattle.job_words.specs.MadeWords.{AreTrialWords}
use Rattle.job_words.specs.Operands.{Word}
use Rattle.job_words.proofs.WordLemmas.{two_first}
use Rattle.job_words.proofs.made_words.of_numbers.Goals as goal

pub returns-in-len2-up-clause-none : goal.returns-in-len2-up-clause-none
returns-in-len2-up-clause-none c =
    let whole = two_first string_bytes c.args.words.now c.number-item.result c.modulus-item.result (omega arith) c.number-item.is c.modulus-item.is in
    let rest : List Word = map string_bytes (take (length c.args.words.now - 2) (drop 2 c.args.words.now)) in
    let texts : c.as_str.result.now ∷ c.as_str-in-len2-up.result.now ∷ rest ≡ map string_bytes c.args.words.now = (λ i. c.as_str.ensures.value i ∷ c.as_str-in-len2-up.ensures.value i ∷ rest) ∙ sym whole in
    let P : List Word → Type 0 = λ words. IfNone c.of_two_numbers.result ((number modulus terms : ℕ) → AreTrialWords words number modulus terms → ⊥) in
    subst P texts c.of_two_numbers.ensures.none
