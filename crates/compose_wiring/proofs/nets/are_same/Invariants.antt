use Rattle.std.proofs.Common.{◌≡◌, drop, map}
use Rattle.compose_wiring.specs.private.Names.{same_names}
use Rattle.compose_wiring.proofs.nets.are_same.Given as goal

abbrev pub invariant-loop-place : goal.invariant-loop-place
invariant-loop-place l = same_names (map (λ name. name.now) l.a) (map (λ name. name.now) l.b) ≡ same_names (drop l.place (map (λ name. name.now) l.a)) (drop l.place (map (λ name. name.now) l.b))
