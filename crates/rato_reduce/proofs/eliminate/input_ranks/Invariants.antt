use Rattle.std.proofs.Common.{◌≡◌, take, map}
use Rattle.net_core.specs.NetList.{nets}
use Rattle.net_words.specs.Variables.{variables}
use Rattle.stage_model.specs.Variables.{rank_in}
use Rattle.rato_reduce.proofs.eliminate.input_ranks.Given as goal

abbrev pub invariant-loop-input : goal.invariant-loop-input
invariant-loop-input l =
    record {
      items : l.input-items ≡ l.gate.inputs;
      ranks : l.list.items ≡ map (rank_in (variables (nets l.circuit.net) l.circuit.binding.words)) (take l.input-index l.input-items);
    }
