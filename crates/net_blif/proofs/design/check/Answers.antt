use Rattle.std.proofs.Common.{rules, ◌≡◌, ◌⊎◌, false, Err}
use Rattle.std.specs.List.{list_any}
use Rattle.std.proofs.lemmas.Result.{on_ok_weaker, IfErr-weaker}
use Rattle.net_blif.specs.Models.{AreRight}
use Rattle.net_blif.specs.private.Bare.{has_instances}
use Rattle.net_blif.specs.declared.fault.BlifFault.TheVariants.{OutOfMemory}
use Rattle.net_blif.proofs.BareLemmas.{bare_right}
use Rattle.net_blif.proofs.RightLemmas.{right, wrong_depth, wrong_formals, wrong_walk}
use Rattle.net_blif.proofs.design.check.Goals as goal

pub returns-then-not-have_instances-clause-right : goal.returns-then-not-have_instances-clause-right
returns-then-not-have_instances-clause-right c =
    let none : list_any has_instances c.args.models.now ≡ false = search rules in
    bare_right c.args.models.now none

pub returns-in_err-check_instances-clause-fault : goal.returns-in_err-check_instances-clause-fault
returns-in_err-check_instances-clause-fault c =
    let fault : (c.in_err-check_instances.field-0.0 ≡ OutOfMemory) ⊎ AreRight c.args.models.now (Err c.in_err-check_instances.field-0.0) = wrong_formals c.args.models.now c.in_err-check_instances.field-0.0 OutOfMemory c.in_err-check_instances.ensures.fault in
    search rules

pub returns-in_err-check_walk-clause-fault : goal.returns-in_err-check_walk-clause-fault
returns-in_err-check_walk-clause-fault c =
    let fault : (c.in_err-check_walk.field-0.0 ≡ OutOfMemory) ⊎ AreRight c.args.models.now (Err c.in_err-check_walk.field-0.0) = wrong_walk c.args.models.now c.in_err-check_walk.field-0.0 OutOfMemory c.in_ok-check_instances.ensures.right c.in_err-check_walk.ensures.fault in
    search rules

pub returns-clause-right : goal.returns-clause-right
returns-clause-right c = on_ok_weaker c.check_depth.result (right c.args.models.now c.in_ok-check_instances.ensures.right c.in_ok-check_walk.ensures.ends) c.check_depth.ensures.within

pub returns-clause-fault : goal.returns-clause-fault
returns-clause-fault c = IfErr-weaker c.check_depth.result _ _ (λ fault why. wrong_depth c.args.models.now fault OutOfMemory c.in_ok-check_instances.ensures.right c.in_ok-check_walk.ensures.ends why) c.check_depth.ensures.fault
