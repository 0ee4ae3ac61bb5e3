use Rattle.std.proofs.Common.{◌≡◌, None, replicate}
use Rattle.compose_blocks.proofs.used_circuits.no_circuits.Given as goal

abbrev pub invariant-loop : goal.invariant-loop
invariant-loop l = l.circuits.items ≡ replicate l.counter None
