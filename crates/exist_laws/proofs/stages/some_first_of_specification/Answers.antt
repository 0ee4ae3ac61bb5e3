use Rattle.exist_laws.proofs.SpecDecided.{spec_decided}
use Rattle.exist_laws.proofs.stages.some_first_of_specification.Goals as goal

pub returns : goal.returns
returns c = λ circuit spec bound well. spec_decided circuit well spec bound
