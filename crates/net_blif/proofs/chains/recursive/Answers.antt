use Rattle.std.proofs.Common.{◌∙◌, inr}
use Rattle.net_blif.specs.Chains.{graph_of}
use Rattle.net_blif.proofs.ChainLemmas.{first_below, first_of_cycle, named_is}
use Rattle.net_blif.proofs.chains.recursive.Goals as goal

pub first_point-first-requires : goal.first_point-first-requires
first_point-first-requires c = let h = first_of_cycle (graph_of c.args.models.now) c.args.cycle.now c.requires.cycle in (h.0, h.1)

pub name-requires : goal.name-requires
name-requires c = first_below c.args.models.now c.args.cycle.now c.first_point-first.result c.requires.cycle c.first_point-first.ensures

pub returns-in-Ok : goal.returns-in-Ok
returns-in-Ok c =
    let below = first_below c.args.models.now c.args.cycle.now c.first_point-first.result c.requires.cycle c.first_point-first.ensures in
    inr (c.args.cycle.now, c.first_point-first.result, c.requires.cycle, c.first_point-first.ensures, c.in-Ok.ensures ∙ named_is c.args.models.now c.first_point-first.result c.name.result.now below c.name.ensures)
