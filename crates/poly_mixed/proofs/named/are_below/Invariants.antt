use Rattle.std.proofs.Common.{◌<◌, ◌↔◌, drop}
use Rattle.std.specs.List.{AllByRecursion}
use Rattle.poly_mixed.proofs.named.are_below.Given as goal

abbrev pub invariant-loop-rank : goal.invariant-loop-rank
invariant-loop-rank l = AllByRecursion (λ r. r < l.count) (drop l.rank-index l.ranks) ↔ AllByRecursion (λ r. r < l.count) l.ranks
