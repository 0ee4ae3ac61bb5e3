use Rattle.std.proofs.Common.{◌≡◌, map, take}
use Rattle.gf_basis.specs.BasisParts.{elements_of}
use Rattle.compose_model.specs.NamedWord.{named_words}
use Rattle.compose_wiring.proofs.named.with_bases.Given as goal

abbrev pub invariant-loop-place : goal.invariant-loop-place
invariant-loop-place l = l.list.items ≡ named_words (take l.place l.words) (map elements_of (take l.place l.bases))
