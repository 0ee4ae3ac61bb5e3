use Rattle.std.proofs.Common.{◌≡◌, take}
use Rattle.compose_wiring.proofs.nets.Nets.of.Given as goal

abbrev pub invariant-loop-place : goal.invariant-loop-place
invariant-loop-place l = l.nets ≡ take l.place l.names
