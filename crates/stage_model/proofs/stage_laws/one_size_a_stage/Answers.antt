use Rattle.stage_model.specs.CircuitListing.{circuit_stages}
use Rattle.stage_model.proofs.SizeLemmas.{same_size}
use Rattle.stage_model.proofs.CircuitListingLemmas.{one_stage}
use Rattle.stage_model.proofs.stage_laws.one_size_a_stage.Goals as goal

pub returns : goal.returns
returns c = λ circuit name well m n a b. same_size circuit.k circuit.product well.ring well.no_zero_divisors ((circuit_stages circuit).stage_of name) (one_stage circuit well name) m n a b
