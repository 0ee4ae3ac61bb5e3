use Rattle.std.proofs.Common.{◌≡◌, drop}
use Rattle.rato_reduce.specs.private.CutKey.{first_from}
use Rattle.rato_reduce.proofs.key.first_place.Given as goal

abbrev pub invariant-loop-rank : goal.invariant-loop-rank
invariant-loop-rank l = first_from l.places l.first (drop l.rank-index l.ranks) ≡ first_from l.places 4294967295 l.ranks
