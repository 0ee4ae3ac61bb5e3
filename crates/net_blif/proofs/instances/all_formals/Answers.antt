use Rattle.std.proofs.Common.{rules, ◌≡◌, ◌∙◌, ap, ◌<◌, List, length, map, take, arith}
use Rattle.std.proofs.lemmas.List.{map_push, take_all}
use Rattle.net_blif.specs.Design.{ModelValue}
use Rattle.net_blif.specs.private.Connecting.{collected, formals_in}
use Rattle.net_blif.proofs.InstanceLemmas.{made_more}
use Rattle.net_blif.proofs.instances.all_formals.Goals as goal

pub loop-model-preserved : goal.loop-model-preserved
loop-model-preserved c =
    let less : c.loop-model.model < length c.args.models.now = search rules in
    made_more collected c.args.models.now c.loop-model.model c.items.result.now (formals_in c.in_ok-formals.formals) (map formals_in c.loop-model.all.items) (map formals_in c.push.new.self.items) less c.items.ensures c.in_ok-formals.ensures c.loop-model.invariant
    (ap (map formals_in) c.in_ok-push.ensures.items ∙ map_push formals_in c.loop-model.all.items c.in_ok-formals.formals)

pub returns : goal.returns
returns c =
    let all : c.loop-model.model ≡ length c.args.models.now = search rules in
    c.loop-model.invariant ∙ (ap (λ k. map (λ (m : ModelValue). collected m.items) (take k c.args.models.now)) all ∙ ap (λ (ms : List ModelValue). map (λ (m : ModelValue). collected m.items) ms) (take_all (length c.args.models.now) c.args.models.now (omega arith)))
