use Rattle.std.proofs.Common.{rules, ◌≡◌, inr, None, Some}
use Rattle.net_blif.specs.Design.{model_named}
use Rattle.net_blif.specs.private.Connecting.{formals_in}
use Rattle.net_blif.proofs.ChainLemmas.{named_below}
use Rattle.net_blif.proofs.InstanceLemmas.{known_fault, unknown_fault}
use Rattle.net_blif.proofs.instances.check_instance.Goals as goal

pub returns-in-None-clause-fault : goal.returns-in-None-clause-fault
returns-in-None-clause-fault c =
    let none : model_named c.args.models.now c.args.name.now ≡ None = search rules in
    inr (unknown_fault c.args.models.now c.args.line c.args.name.now c.args.connections.now none)

pub formals_at-requires-clause-model : goal.formals_at-requires-clause-model
formals_at-requires-clause-model c =
    let some : model_named c.args.models.now c.args.name.now ≡ Some c.in-Some.model = search rules in
    named_below c.args.models.now c.args.name.now c.in-Some.model some

pub returns-in-Some-clause-right : goal.returns-in-Some-clause-right
returns-in-Some-clause-right c =
    let some : model_named c.args.models.now c.args.name.now ≡ Some c.in-Some.model = search rules in
    let same = known_fault c.args.models.now c.args.line c.in-Some.model c.args.name.now c.args.connections.now (formals_in c.formals_at.result.now) some c.formals_at.ensures in
    rw (← same) c.check_formals.ensures.right

pub returns-in-Some-clause-fault : goal.returns-in-Some-clause-fault
returns-in-Some-clause-fault c =
    let some : model_named c.args.models.now c.args.name.now ≡ Some c.in-Some.model = search rules in
    let same = known_fault c.args.models.now c.args.line c.in-Some.model c.args.name.now c.args.connections.now (formals_in c.formals_at.result.now) some c.formals_at.ensures in
    rw (← same) c.check_formals.ensures.fault
