use Rattle.stage_model.specs.WordListing.{word_listing}
use Rattle.stage_model.specs.CircuitListing.{circuit_cuts}
use Rattle.stage_model.proofs.ListingLemmas.{earlier_over, later_over, all_of_both}
use Rattle.stage_model.proofs.over_laws.first_of_cuts_and_words.Goals as goal

pub returns-clause-cut : goal.returns-clause-cut
returns-clause-cut c = λ circuit bound n name. earlier_over circuit.k circuit.product (circuit_cuts circuit) (word_listing circuit) bound name n

pub returns-clause-word : goal.returns-clause-word
returns-clause-word c = λ circuit bound n name. later_over circuit.k circuit.product (circuit_cuts circuit) (word_listing circuit) bound name n

pub returns-clause-within : goal.returns-clause-within
returns-clause-within c = λ circuit bound. all_of_both circuit.k circuit.product (circuit_cuts circuit) (word_listing circuit) bound
