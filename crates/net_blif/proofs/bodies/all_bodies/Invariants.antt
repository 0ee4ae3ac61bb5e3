use Rattle.std.proofs.Common.{◌≡◌, map, take}
use Rattle.net_blif.specs.private.Bodies.{body_of}
use Rattle.net_blif.proofs.bodies.all_bodies.Given as goal

-- the bodies of the models so far
abbrev pub invariant-loop-model : goal.invariant-loop-model
invariant-loop-model l = l.all.items ≡ map body_of (take l.model l.models)
