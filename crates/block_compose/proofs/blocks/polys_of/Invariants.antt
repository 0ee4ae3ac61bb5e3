use Rattle.std.proofs.Common.{map}
use Rattle.block_compose.proofs.blocks.polys_of.Given as goal
use Rattle.block_compose.proofs.TakenPolys.{AreTakenTo}

-- the polynomials so far
abbrev pub invariant-loop-i : goal.invariant-loop-i
invariant-loop-i l = AreTakenTo l.polys l.numbers l.i (map (λ q. q.now) l.list.items)
