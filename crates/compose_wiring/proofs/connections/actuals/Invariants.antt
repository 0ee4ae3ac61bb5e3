use Rattle.std.proofs.Common.{◌≡◌, drop}
use Rattle.compose_wiring.specs.private.Names.{actuals_by}
use Rattle.compose_wiring.proofs.NamesLemmas.{after_names}
use Rattle.compose_wiring.proofs.connections.actuals.Given as goal

abbrev pub invariant-loop-place : goal.invariant-loop-place
invariant-loop-place l = actuals_by l.connections l.formals ≡ after_names l.nets (actuals_by l.connections (drop l.place l.formals))
