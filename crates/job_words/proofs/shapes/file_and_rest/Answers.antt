use Rattle.std.proofs.Common.{◌≡◌, ◌∷◌, List, map, drop, take, length, ◌-◌, subst, sym, ◌∙◌, string_bytes, arith}
use Rattle.std.specs.Prelude.{IfNone}
use Rattle.job_words.specs.Operands.{Word}
use Rattle.job_words.specs.Shapes.{IsOverFile}
use Rattle.job_words.specs.private.Rest.{Anything}
use Rattle.job_words.proofs.WordLemmas.{two_first}
use Rattle.job_words.proofs.shapes.file_and_rest.Goals as goal

pub returns-in-len2-up-clause-none : goal.returns-in-len2-up-clause-none
returns-in-len2-up-clause-none c =
    let whole = two_first string_bytes c.args.words.now c.signature-item.result c.file-item.result (omega arith) c.signature-item.is c.file-item.is in
    let rest : List Word = map string_bytes (take (length c.args.words.now - 2) (drop 2 c.args.words.now)) in
    let texts : c.as_str.result.now ∷ c.as_str-in-len2-up.result.now ∷ rest ≡ map string_bytes c.args.words.now = (λ i. c.as_str.ensures.value i ∷ c.as_str-in-len2-up.ensures.value i ∷ rest) ∙ sym whole in
    let P : List Word → Type 0 = λ words. IfNone c.are_file.result ((signature file : Word) → IsOverFile Anything words signature file → ⊥) in
    subst P texts c.are_file.ensures.none
