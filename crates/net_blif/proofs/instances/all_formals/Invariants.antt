use Rattle.std.proofs.Common.{◌≡◌, map, take}
use Rattle.net_blif.specs.Design.{ModelValue}
use Rattle.net_blif.specs.private.Connecting.{collected, formals_in}
use Rattle.net_blif.proofs.instances.all_formals.Given as goal

-- the formals of the models so far
abbrev pub invariant-loop-model : goal.invariant-loop-model
invariant-loop-model l = map formals_in l.all.items ≡ map (λ (m : ModelValue). collected m.items) (take l.model l.models)
