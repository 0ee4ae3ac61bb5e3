use Rattle.std.proofs.Common.{◌≡◌, ◌+◌, drop}
use Rattle.make_nets.specs.Prefix.{leading}
use Rattle.make_nets.proofs.prefixes.leading.Given as goal

abbrev pub invariant-loop-byte : goal.invariant-loop-byte
invariant-loop-byte l = (l.count ≡ l.byte-index) × (leading l.name ≡ l.byte-index + leading (drop l.byte-index l.name))
