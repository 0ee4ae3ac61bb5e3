use Rattle.std.proofs.Common.{◌≡◌, drop}
use Rattle.net_blif.specs.Design.{ModelValue}
use Rattle.net_blif.specs.Instances.{first_found, instance_fault, instances_fault}
use Rattle.net_blif.proofs.instances.check_instances.Given as goal

-- nothing is wrong with the models so far
abbrev pub invariant-loop-model : goal.invariant-loop-model
invariant-loop-model l = instances_fault l.models ≡ first_found (λ (m : ModelValue). first_found (instance_fault l.models) m.items) (drop l.model l.models)
