use Rattle.std.proofs.Common.{◌≡◌, None, replicate}
use Rattle.block_compose.proofs.blocks.no_polys.Given as goal

abbrev pub invariant-loop : goal.invariant-loop
invariant-loop l = l.polys.items ≡ replicate l.counter None
