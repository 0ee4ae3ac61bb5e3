use Rattle.std.proofs.Common.{rules, ◌≡◌, ◌∙◌, ap, ◌<◌, List, length, map, take, arith}
use Rattle.std.proofs.lemmas.List.{take_all}
use Rattle.net_blif.specs.Design.{ModelValue}
use Rattle.net_blif.specs.Ports.{ports_once}
use Rattle.net_blif.specs.private.Bodies.{body_of}
use Rattle.net_blif.proofs.InstanceLemmas.{made_more}
use Rattle.net_blif.proofs.bodies.all_bodies.Goals as goal

pub loop-model-preserved : goal.loop-model-preserved
loop-model-preserved c =
    let less : c.loop-model.model < length c.args.models.now = search rules in
    made_more ports_once c.args.models.now c.loop-model.model c.items.result.now c.in_ok-body.body c.loop-model.all.items c.push.new.self.items less c.items.ensures c.in_ok-body.ensures c.loop-model.invariant c.in_ok-push.ensures.items

pub returns : goal.returns
returns c =
    let all : c.loop-model.model ≡ length c.args.models.now = search rules in
    c.loop-model.invariant ∙ (ap (λ k. map body_of (take k c.args.models.now)) all ∙ ap (λ (ms : List ModelValue). map body_of ms) (take_all (length c.args.models.now) c.args.models.now (omega arith)))
