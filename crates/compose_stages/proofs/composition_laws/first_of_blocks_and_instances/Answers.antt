use Rattle.stage_model.proofs.ListingLemmas.{all_of_both, earlier_over, later_over}
use Rattle.compose_stages.specs.BlockStages.{block_stages}
use Rattle.compose_stages.specs.InstanceStages.{instance_stages}
use Rattle.compose_stages.proofs.composition_laws.first_of_blocks_and_instances.Goals as goal

pub returns-clause-block : goal.returns-clause-block
returns-clause-block c = λ top bound n name. earlier_over top.k top.product (block_stages top.k top.product top.hierarchy) (instance_stages top.k top.product top.hierarchy top.rows) bound name n

pub returns-clause-instance : goal.returns-clause-instance
returns-clause-instance c = λ top bound n name. later_over top.k top.product (block_stages top.k top.product top.hierarchy) (instance_stages top.k top.product top.hierarchy top.rows) bound name n

pub returns-clause-within : goal.returns-clause-within
returns-clause-within c = λ top bound. all_of_both top.k top.product (block_stages top.k top.product top.hierarchy) (instance_stages top.k top.product top.hierarchy top.rows) bound
