use Rattle.std.proofs.Common.{◌≡◌, drop}
use Rattle.rato_reduce.specs.private.CutKey.{hash_from}
use Rattle.rato_reduce.proofs.key.hash.Given as goal

abbrev pub invariant-loop-rank : goal.invariant-loop-rank
invariant-loop-rank l = hash_from l.hash (drop l.rank-index l.ranks) ≡ hash_from 0 l.ranks
