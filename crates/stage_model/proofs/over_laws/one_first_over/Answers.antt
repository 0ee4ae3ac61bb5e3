use Rattle.stage_model.specs.CircuitListing.{circuit_stages}
use Rattle.stage_model.proofs.CircuitListingLemmas.{stages_ordered, stages_sizes}
use Rattle.stage_model.proofs.ListingLemmas.{one_over, over_not_all}
use Rattle.stage_model.proofs.over_laws.one_first_over.Goals as goal

pub returns-clause-only : goal.returns-clause-only
returns-clause-only c = λ circuit bound well name other m n x y. one_over circuit.k circuit.product (circuit_stages circuit) bound (stages_ordered circuit) (stages_sizes circuit well) name other m n x y

pub returns-clause-not_all : goal.returns-clause-not_all
returns-clause-not_all c = λ circuit bound well name n x all. over_not_all circuit.k circuit.product (circuit_stages circuit) bound (stages_sizes circuit well) name n x all
