use Rattle.std.proofs.Common.{◌∙◌, sym}
use Rattle.lists.specs.laws.ReadLaws.{get_below}
use Rattle.net_blif.specs.Top.{instances_of, model_in}
use Rattle.net_blif.proofs.ChainLemmas.{named_below}
use Rattle.answer_composition.proofs.ComposeStopLemmas.{found_model}
use Rattle.answer_composition.proofs.composition.model_name.Goals as goal

pub name-requires : goal.name-requires
name-requires c =
    let item = get_below (instances_of c.args.design.now) c.args.place c.requires in
    named_below c.args.design.now (model_in item.0) c.instance_model.result (c.instance_model.ensures item.0 item.1)

pub returns : goal.returns
returns c = λ item at.
    let found = found_model c.args.design.now (model_in item) c.instance_model.result (c.instance_model.ensures item at) in
    c.name.ensures found.0 found.1 ∙ sym found.2
