use Rattle.std.proofs.Common.{◌≤◌, ◌-◌, length, take}
use Rattle.std.specs.List.{AllByRecursion}
use Rattle.rato_reduce.specs.private.CutKey.{place_at}
use Rattle.rato_reduce.proofs.key.first_below.Given as goal

abbrev pub invariant-loop-at : goal.invariant-loop-at
invariant-loop-at l = record {
  within : l.at ≤ length l.ranks;
  each : AllByRecursion (λ r. l.first ≤ place_at l.places r) (take l.at l.ranks);
}

abbrev pub decreases-loop-at : goal.decreases-loop-at
decreases-loop-at l = length l.ranks - l.at
