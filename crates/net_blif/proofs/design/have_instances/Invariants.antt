use Rattle.std.proofs.Common.{◌≡◌, drop}
use Rattle.std.specs.List.{list_any}
use Rattle.net_blif.specs.private.Bare.{has_instances}
use Rattle.net_blif.proofs.design.have_instances.Given as goal

-- no model so far has instances
abbrev pub invariant-loop-model : goal.invariant-loop-model
invariant-loop-model l = list_any has_instances l.models ≡ list_any has_instances (drop l.model l.models)
