use Rattle.stage_model.specs.Cut.{IsCut}
use Rattle.stage_model.specs.Listing.{cut_listing}
use Rattle.stage_model.proofs.CutListingLemmas.{cuts_ordered, net_cuts_sizes}
use Rattle.stage_model.proofs.ListingLemmas.{one_over, over_not_all}
use Rattle.stage_model.proofs.over_laws.one_first_cut_over.Goals as goal

pub returns-clause-only : goal.returns-clause-only
returns-clause-only c = λ field net variables output sound count bound name other m n x y. one_over field.k field.product (cut_listing count (IsCut net variables output)) bound (cuts_ordered count (IsCut net variables output)) (net_cuts_sizes field.k field.product net variables output count field.ring field.no_zero_divisors sound) name other m n x y

pub returns-clause-not_all : goal.returns-clause-not_all
returns-clause-not_all c = λ field net variables output sound count bound name n x all. over_not_all field.k field.product (cut_listing count (IsCut net variables output)) bound (net_cuts_sizes field.k field.product net variables output count field.ring field.no_zero_divisors sound) name n x all
