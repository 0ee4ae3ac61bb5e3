use Rattle.std.proofs.Common.{◌≡◌, map, take}
use Rattle.compose_model.specs.NamedWord.{NamedWord}
use Rattle.compose_wiring.specs.private.Names.{actuals_by}
use Rattle.compose_wiring.proofs.placed.nets_of.Given as goal

abbrev pub invariant-loop-place : goal.invariant-loop-place
invariant-loop-place l = l.list.items ≡ map (λ (word : NamedWord). actuals_by l.connections word.nets) (take l.place l.words)
