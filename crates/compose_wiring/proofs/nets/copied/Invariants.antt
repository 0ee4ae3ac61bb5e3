use Rattle.std.proofs.Common.{◌≡◌, map, take}
use Rattle.compose_wiring.proofs.nets.copied.Given as goal

abbrev pub invariant-loop-place : goal.invariant-loop-place
invariant-loop-place l = l.nets ≡ take l.place (map (λ name. name.now) l.names)
