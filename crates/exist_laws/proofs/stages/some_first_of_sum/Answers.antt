use Rattle.term_expand.specs.SumListing.{sum_stage_of}
use Rattle.exist_laws.proofs.DecidedSums.{sum_decided}
use Rattle.exist_laws.proofs.stages.some_first_of_sum.Goals as goal

pub returns : goal.returns
returns c = λ k mul feeds sum bound some. sum_decided k mul sum (sum_stage_of mul feeds sum) some bound
