use Rattle.std.proofs.Common.{◌≡◌, length}
use Rattle.net_words.proofs.VariableLemmas.{AreRanked}
use Rattle.net_words.proofs.variables.ranks.Given as goal

abbrev pub invariant-loop-rank : goal.invariant-loop-rank
invariant-loop-rank l = (length l.ranks.items ≡ l.count) × AreRanked l.count l.order l.ranks.items l.rank
