-- The latches are listed up to a place.
use Rattle.std.proofs.Common.{◌≡◌, ◌++◌, ◌∷◌, [], length}
use Rattle.net_core.specs.declared.latch.Start.TheVariants.{Unknown}
use Rattle.make_nets.specs.Plan.{gathered}
use Rattle.make_laws.specs.Held.{net_at}
use Rattle.make_laws.specs.NormalNets.{place_before}
use Rattle.mult_normal.proofs.held.add_turning.Given as goal

abbrev pub invariant-loop-i : goal.invariant-loop-i
invariant-loop-i l =
    l.latches.items ≡ l.fn.latches.items ++ gathered l.i (λ i. record { next = net_at l.fn.nets (place_before (length l.fn.nets) i); out = net_at l.fn.nets i; start = Unknown } ∷ [])
