use Rattle.std.proofs.Common.{◌∙◌, ◌++◌, ◌∷◌, [], List, arith}
use Rattle.poly_mixed.specs.Steps.{Step}
use Rattle.cert_make.proofs.WrittenLemmas.{step_taken}
use Rattle.cert_make.proofs.upgrading.recorded.Goals as goal

pub loop-n-preserved : goal.loop-n-preserved
loop-n-preserved c =
    let pairs : List Step = c.args.pairs.now.pairs in
    c.in_ok-step.ensures.recorded
    ∙ (λ i. c.loop-n.invariant i ++ (c.generator.result, c.multiplier.result.now.terms) ∷ [])
    ∙ step_taken pairs c.loop-n.n c.generator.result c.multiplier.result.now.terms (omega (arith, c.loop-n-test.true, c.len-n-end.ensures)) c.generator.ensures c.multiplier.ensures
