use Rattle.std.proofs.Common.{◌≡◌, ◌+◌, drop}
use Rattle.std.specs.Option.{option_map}
use Rattle.poly_mixed.specs.Labels.{net_of}
use Rattle.poly_mixed.proofs.labels.first_place.Given as goal

abbrev pub invariant-loop-i : goal.invariant-loop-i
invariant-loop-i l = option_map (λ k. l.i + k) (net_of (drop l.i l.nets) l.number) ≡ net_of l.nets l.number
