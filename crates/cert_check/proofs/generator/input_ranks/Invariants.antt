use Rattle.std.proofs.Common.{◌≡◌, take, map}
use Rattle.net_core.specs.NetList.{nets}
use Rattle.net_words.specs.Variables.{variables}
use Rattle.cert_check.specs.Running.{rank_among}
use Rattle.cert_check.proofs.generator.input_ranks.Given as goal

abbrev pub invariant-loop-input : goal.invariant-loop-input
invariant-loop-input l =
    record {
      items : l.input-items ≡ l.gate.inputs;
      ranks : l.list.items ≡ map (rank_among (variables (nets l.circuit.net) l.circuit.binding.words)) (take l.input-index l.input-items);
    }
