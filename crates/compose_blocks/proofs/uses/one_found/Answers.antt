use Rattle.std.proofs.Common.{◌∙◌}
use Rattle.compose_blocks.proofs.FoundLemmas.{found_made}
use Rattle.compose_blocks.proofs.uses.one_found.Goals as goal

pub returns-clause-found : goal.returns-clause-found
returns-clause-found c = found_made c.args.design.now c.args._blocks.now c.args.item.now c.model_in-name.result.now c.in-Some.block c.in-Some-model.model c.model_in-name.ensures (c.in-Some.ensures ∙ c.requires.numbers c.model_in-name.result.now) c.in-Some-model.ensures
