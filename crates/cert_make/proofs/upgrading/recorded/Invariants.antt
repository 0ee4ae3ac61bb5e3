use Rattle.std.proofs.Common.{◌≡◌, take}
use Rattle.cert_make.proofs.upgrading.recorded.Given as goal

abbrev pub invariant-loop-n : goal.invariant-loop-n
invariant-loop-n l = l.certificate ≡ take l.n l.pairs.pairs
