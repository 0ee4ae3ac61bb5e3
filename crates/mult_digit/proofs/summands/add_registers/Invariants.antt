-- The bits are listed up to a place.
use Rattle.std.proofs.Common.{◌≡◌, ◌+◌, ◌++◌}
use Rattle.std.specs.Prelude.{◌==◌}
use Rattle.std.specs.Int.{bit_at}
use Rattle.gf_field.specs.Power.{power}
use Rattle.make_nets.specs.Plan.{gathered, where_so}
use Rattle.make_laws.specs.Held.{net_at}
use Rattle.mult_digit.proofs.summands.add_registers.Given as goal

abbrev pub invariant-loop-i : goal.invariant-loop-i
invariant-loop-i g l =
    l.list.items ≡ l.fn.list.items ++ gathered l.i (λ i. where_so (bit_at (power (g.R.Ring.product l.fn.ring) l.fn.x (i + l.fn.width)) l.fn.l == 1) (net_at l.fn.z i))
