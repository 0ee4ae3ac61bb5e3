use Rattle.std.proofs.Common.{◌≡◌}
use Rattle.net_words.specs.Variables.{bits, others}
use Rattle.job_input.proofs.circuit_labels.add_nets.Given as goal

abbrev pub invariant-loop-net : goal.invariant-loop-net
invariant-loop-net l = l.labels ≡ record { output = l.initial.labels.output; words = l.initial.labels.words; nets = others l.net (bits l.circuit.binding.words) }
