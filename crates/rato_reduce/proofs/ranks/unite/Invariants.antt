use Rattle.std.proofs.Common.{◌≡◌, drop}
use Rattle.poly_mixed.specs.Product.{union}
use Rattle.rato_reduce.proofs.ranks.unite.Given as goal

abbrev pub invariant-loop-rank : goal.invariant-loop-rank
invariant-loop-rank l = union l.items.items (drop l.rank-index l.other) ≡ union l.one l.other
