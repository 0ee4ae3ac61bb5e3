use Rattle.std.proofs.Common.{◌≡◌, max, drop}
use Rattle.make_nets.specs.Prefix.{most_leading}
use Rattle.make_nets.proofs.prefixes.most_leading.Given as goal

abbrev pub invariant-loop-name : goal.invariant-loop-name
invariant-loop-name l = max l.most (most_leading (drop l.name-index l.names)) ≡ most_leading l.names
