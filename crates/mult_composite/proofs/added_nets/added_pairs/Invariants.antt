use Rattle.std.proofs.Common.{◌≡◌, ◌≤◌, ◌+◌, ◌*◌, ◌-◌, length}
use Rattle.std.specs.Prelude.{slice_index}
use Rattle.make_laws.specs.TowerProduct.{adds_to}
use Rattle.make_nets.specs.Plan.{gathered, where_so}
use Rattle.mult_composite.proofs.added_nets.added_pairs.Given as goal

abbrev pub invariant-loop-i : goal.invariant-loop-i
invariant-loop-i l =
    (l.list.items ≡ gathered l.i (λ i. where_so (adds_to l.m l.d i) (slice_index l.products ((i * l.m + (l.d - i)) * l.n + l.l))))
    × (length l.list.items ≤ l.i)
