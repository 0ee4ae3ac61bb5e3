use Rattle.std.proofs.Common.{◌≡◌, ◌∷◌, List, map, drop, take, length, ◌-◌, subst, sym, ◌∙◌, string_bytes, arith}
use Rattle.std.specs.Prelude.{IfNone}
use Rattle.job_words.specs.Operands.{Word}
use Rattle.job_words.specs.Shapes.{IsOverFiles}
use Rattle.job_words.specs.private.Rest.{Anything}
use Rattle.job_words.proofs.WordLemmas.{three_first}
use Rattle.job_words.proofs.shapes.files_and_rest.Goals as goal

pub returns-in-len3-up-clause-none : goal.returns-in-len3-up-clause-none
returns-in-len3-up-clause-none c =
    let whole = three_first string_bytes c.args.words.now c.signature-item.result c.file-item.result c.other-item.result (omega arith) c.signature-item.is c.file-item.is c.other-item.is in
    let rest : List Word = map string_bytes (take (length c.args.words.now - 3) (drop 3 c.args.words.now)) in
    let texts : c.as_str.result.now ∷ c.as_str-in-len3-up.result.now ∷ c.as_str-in-len3-up-2.result.now ∷ rest ≡ map string_bytes c.args.words.now = (λ i. c.as_str.ensures.value i ∷ c.as_str-in-len3-up.ensures.value i ∷ c.as_str-in-len3-up-2.ensures.value i ∷ rest) ∙ sym whole in
    let P : List Word → Type 0 = λ words. IfNone c.are_files.result ((signature file other : Word) → IsOverFiles Anything words signature file other → ⊥) in
    subst P texts c.are_files.ensures.none
