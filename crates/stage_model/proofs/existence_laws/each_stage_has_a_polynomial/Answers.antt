use Rattle.std.proofs.Common.{length, refl}
use Rattle.stage_model.proofs.SomeStageLemmas.{stage_polynomial}
use Rattle.stage_model.proofs.existence_laws.each_stage_has_a_polynomial.Goals as goal

pub returns-clause-polynomial : goal.returns-clause-polynomial
returns-clause-polynomial c = λ circuit name well listed. stage_polynomial circuit well name listed

pub returns-clause-size : goal.returns-clause-size
returns-clause-size c = λ circuit name well listed.
    let made = stage_polynomial circuit well name listed in
    (length made.0, record { terms = made.0; is = made.1; size = refl })
