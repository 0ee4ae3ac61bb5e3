-- The rows are listed up to a place.
use Rattle.std.proofs.Common.{◌≡◌, ◌+◌, ◌++◌}
use Rattle.std.specs.Prelude.{◌==◌}
use Rattle.std.specs.Int.{bit_at}
use Rattle.gf_field.specs.Power.{power}
use Rattle.make_nets.specs.Plan.{gathered, where_so}
use Rattle.mult_digit.specs.private.ProductNets.{product_net}
use Rattle.mult_digit.proofs.summands.add_products.Given as goal

abbrev pub invariant-loop-e : goal.invariant-loop-e
invariant-loop-e g l =
    l.list.items ≡ l.fn.list.items ++ gathered l.e (λ e. gathered l.fn.k (λ j. where_so (bit_at (power (g.R.Ring.product l.fn.ring) l.fn.x (e + j)) l.fn.l == 1) (product_net l.fn.first l.fn.k e j)))
