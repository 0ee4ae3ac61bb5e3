-- The latches are listed up to a place.
use Rattle.std.proofs.Common.{◌≡◌, ◌++◌, ◌∷◌, []}
use Rattle.net_core.specs.declared.latch.Start.TheVariants.{Zero}
use Rattle.make_nets.specs.Plan.{gathered}
use Rattle.make_laws.specs.Held.{net_at}
use Rattle.mult_normal.specs.NormalPlan.{moved_from}
use Rattle.mult_normal.proofs.held.add_moving.Given as goal

abbrev pub invariant-loop-i : goal.invariant-loop-i
invariant-loop-i l =
    l.latches.items ≡ l.fn.latches.items ++ gathered l.i (λ i. record { next = moved_from l.fn.first l.fn.nets i; out = net_at l.fn.nets i; start = Zero } ∷ [])
