use Rattle.net_core.specs.NetList.{nets}
use Rattle.net_words.specs.Variables.{variables}
use Rattle.net_words.proofs.ZipLemmas.{map-grow}
use Rattle.stage_model.specs.Variables.{rank_in}
use Rattle.rato_reduce.proofs.InsideLemmas.{read_below}
use Rattle.rato_reduce.proofs.eliminate.input_ranks.Goals as goal

pub loop-input-preserved : goal.loop-input-preserved
loop-input-preserved c =
    let order = variables (nets c.args.circuit.now.net) c.args.circuit.now.binding.words in
    record {
      items = c.loop-input.invariant.items;
      ranks = map-grow (rank_in order) c.inputs-input-items.result.now c.loop-input.input-index 0 c.loop-input.list.items c.push.new.self.items c.rank.result c.loop-input-test.true c.loop-input.invariant.ranks c.rank.ensures c.in_ok-push.ensures.items;
    }

pub rank-requires : goal.rank-requires
rank-requires c = read_below c.args.circuit.now.net c.args.gate.now c.inputs-input-items.result.now c.loop-input.input-index c.requires.sound c.requires.gate c.inputs-input-items.ensures.inputs c.loop-input-test.true
