use Rattle.std.proofs.Common.{arith}
use Rattle.lists.specs.laws.ReadLaws.{get_below}
use Rattle.circuit_model.proofs.PlaceLemmas.{next_word}
use Rattle.circuit_model.proofs.places.word_places.Goals as goal

pub loop-v-preserved : goal.loop-v-preserved
loop-v-preserved c =
    let words = c.args.binding.now.words in
    let word = get_below words c.loop-v.v (omega arith) in
    next_word words c.loop-v.v word.0 c.loop-v.list.items c.add_place.new.list.items word.1 (c.in_ok-add_place.ensures word.0 word.1) c.loop-v.invariant
