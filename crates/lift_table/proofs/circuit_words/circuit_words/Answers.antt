use Rattle.std.proofs.Common.{◌≡◌, ◌<◌, ◌∙◌, ap, map, length, Some, arith}
use Rattle.std.specs.Prelude.{slice_get}
use Rattle.std.specs.Option.{option_map}
use Rattle.std.proofs.lemmas.Option.{slice_get-map}
use Rattle.lists.specs.laws.ReadLaws.{got_read, get_below as some_at}
use Rattle.net_words.specs.Binding.{Binding}
use Rattle.gf_basis.specs.BasisParts.{elements_of}
use Rattle.circuit_model.specs.Flat.{word_of}
use Rattle.lift_table.proofs.CircuitWordLemmas.{one_word}
use Rattle.lift_table.proofs.circuit_words.circuit_words.Goals as goal

pub add_word-requires-clause-basis : goal.add_word-requires-clause-basis
add_word-requires-clause-basis g c =
    let count : c.words-w-end.result ≡ length c.args.circuit.now.binding.words = c.words-w-end.ensures.count ∙ ap (λ (b : Binding). length b.words) c.binding-binding.ensures.binding in
    c.requires.each c.index-bases-w.result (c.loop-w.w, got_read c.args.bases.now c.loop-w.w c.index-bases-w.result (omega (arith, c.requires.long, count, c.loop-w-test.true)) c.index-bases-w.is)

pub loop-w-preserved : goal.loop-w-preserved
loop-w-preserved g c =
    let words = c.args.circuit.now.binding.words in
    let bases = c.args.bases.now in
    let w = c.loop-w.w in
    let count : c.words-w-end.result ≡ length words = c.words-w-end.ensures.count ∙ ap (λ (b : Binding). length b.words) c.binding-binding.ensures.binding in
    let less : w < length words = omega (arith, count, c.loop-w-test.true) in
    let word = some_at words w less in
    let at : slice_get bases w ≡ Some c.index-bases-w.result = got_read bases w c.index-bases-w.result (omega (arith, c.requires.long, less)) c.index-bases-w.is in
    let elements : slice_get (map elements_of bases) w ≡ Some (elements_of c.index-bases-w.result) = slice_get-map elements_of bases w ∙ ap (option_map elements_of) at in
    record {
      words = one_word words (map elements_of bases) w word.0 (elements_of c.index-bases-w.result) (map word_of c.loop-w.list.items) (map word_of c.add_word.new.list.items) word.1 elements
          (c.in_ok-add_word.ensures.added word.0 word.1) c.loop-w.invariant.words;
      over = c.in_ok-add_word.ensures.over c.loop-w.invariant.over;
    }
