use Rattle.std.proofs.Common.{◌≡◌, drop}
use Rattle.compose_model.specs.NamedWord.{outputs_among}
use Rattle.compose_wiring.proofs.listing.output_place.Given as goal

abbrev pub invariant-loop-place : goal.invariant-loop-place
invariant-loop-place l = outputs_among (drop l.place l.words) ≡ outputs_among l.words
