use Rattle.std.proofs.Common.{◌≡◌, take}
use Rattle.net_simplify.specs.private.Words.{nets_of}
use Rattle.net_simplify.proofs.circuit.word_nets.Given as goal

abbrev pub invariant-loop-w : goal.invariant-loop-w
invariant-loop-w l = l.list.items ≡ nets_of (take l.w l.binding.words)
