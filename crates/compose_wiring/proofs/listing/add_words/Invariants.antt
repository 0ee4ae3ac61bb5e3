use Rattle.std.proofs.Common.{◌≡◌, ◌++◌, length, take}
use Rattle.compose_model.specs.NamedWord.{inputs_among}
use Rattle.compose_wiring.specs.private.Plain.{word_candidates}
use Rattle.compose_wiring.proofs.listing.add_words.Given as goal

abbrev pub invariant-loop-place : goal.invariant-loop-place
invariant-loop-place l = record {
  list : l.list.items ≡ l.fn.list.items ++ word_candidates 0 (inputs_among (take l.place l.top));
  number : l.number ≡ length (inputs_among (take l.place l.top));
}
