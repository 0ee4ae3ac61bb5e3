use Rattle.stage_model.specs.WordListing.{word_listing}
use Rattle.stage_model.proofs.WordListingLemmas.{words_ordered, words_sizes}
use Rattle.stage_model.proofs.ListingLemmas.{one_over, over_not_all}
use Rattle.stage_model.proofs.over_laws.one_first_word_stage_over.Goals as goal

pub returns-clause-only : goal.returns-clause-only
returns-clause-only c = λ circuit bound well name other m n x y. one_over circuit.k circuit.product (word_listing circuit) bound (words_ordered circuit) (words_sizes circuit well) name other m n x y

pub returns-clause-not_all : goal.returns-clause-not_all
returns-clause-not_all c = λ circuit bound well name n x all. over_not_all circuit.k circuit.product (word_listing circuit) bound (words_sizes circuit well) name n x all
