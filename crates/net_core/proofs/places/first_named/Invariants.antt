use Rattle.std.proofs.Common.{◌≡◌, ℕ, ◌<◌, true}
use Rattle.net_core.specs.private.Placed.{has_name_at}
use Rattle.net_core.proofs.places.first_named.Given as goal

abbrev pub invariant-loop-net : goal.invariant-loop-net
invariant-loop-net l = (k : ℕ) → k < l.net → has_name_at l.labels k l.name ≡ true → ⊥
