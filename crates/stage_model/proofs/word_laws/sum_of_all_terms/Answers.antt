use Rattle.std.proofs.Common.{◌≡◌, ◌↔◌, ◌+◌, ℕ, suc, length, subst, arith}
use Rattle.stage_model.specs.Mix.{IsMix}
use Rattle.stage_model.specs.WordStage.{IsTermSum}
use Rattle.stage_model.proofs.NextMixLemmas.{all_terms}
use Rattle.stage_model.proofs.word_laws.sum_of_all_terms.Goals as goal

pub returns : goal.returns
returns c = λ circuit w ts well less is p e at.
    let next : suc w ≡ w + 1 = omega arith in
    let P : ℕ → Type 0 = λ v. IsTermSum circuit w (length ts) p e ↔ IsMix circuit v p e in
    subst P next (all_terms circuit well w ts p e at less is)
