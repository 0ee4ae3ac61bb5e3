-- The products are listed up to a place.
use Rattle.std.proofs.Common.{◌≡◌, ◌+◌, ◌++◌}
use Rattle.std.specs.Prelude.{◌==◌}
use Rattle.std.specs.Int.{bit_at}
use Rattle.gf_field.specs.Power.{power}
use Rattle.make_nets.specs.Plan.{gathered, where_so}
use Rattle.mult_digit.specs.private.ProductNets.{product_net}
use Rattle.mult_digit.proofs.summands.add_row.Given as goal

abbrev pub invariant-loop-j : goal.invariant-loop-j
invariant-loop-j g l =
    l.list.items ≡ l.fn.list.items ++ gathered l.j (λ j. where_so (bit_at (power (g.R.Ring.product l.fn.ring) l.fn.x (l.fn.e + j)) l.fn.l == 1) (product_net l.fn.first l.fn.k l.fn.e j))
