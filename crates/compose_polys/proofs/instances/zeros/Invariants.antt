use Rattle.std.proofs.Common.{◌≡◌, [], map, replicate}
use Rattle.compose_polys.proofs.instances.zeros.Given as goal

abbrev pub invariant-loop : goal.invariant-loop
invariant-loop l = map (λ q. q.terms) l.polys.items ≡ replicate l.counter []
