use Rattle.std.proofs.Common.{◌≡◌, ◌++◌, drop}
use Rattle.circuit_model.specs.Places.{places_from}
use Rattle.circuit_model.proofs.places.word_places.Given as goal

abbrev pub invariant-loop-v : goal.invariant-loop-v
invariant-loop-v l = l.list.items ++ places_from l.v (drop l.v l.binding.words) ≡ places_from 0 l.binding.words
