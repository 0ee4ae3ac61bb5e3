use Rattle.std.proofs.Common.{arith}
use Rattle.lists.specs.laws.ReadLaws.{get_below as some_at}
use Rattle.circuit_model.proofs.OutputNetsLemmas.{one_word}
use Rattle.circuit_model.proofs.output_word.output_nets.Goals as goal

pub loop-w-preserved : goal.loop-w-preserved
loop-w-preserved c =
    let words = c.args.binding.now.words in
    let word = some_at words c.loop-w.w (omega arith) in
    one_word words c.loop-w.w word.0 c.loop-w.list.items c.add_word.new.list.items word.1 (c.in_ok-add_word.ensures word.0 word.1) c.loop-w.invariant
