use Rattle.std.proofs.Common.{◌≡◌, ◌<◌, ◌^◌}
use Rattle.gf_field.proofs.powers.power.Given as goal
use Rattle.gf_field.specs.Power.{power}

abbrev pub invariant-loop-left : goal.invariant-loop-left
invariant-loop-left g l = record {
  product_below : l.product < 2 ^ g.R.Ring.degree l.ring;
  base_below : l.base < 2 ^ g.R.Ring.degree l.ring;
  same : g.R.Ring.product l.ring l.product (power (g.R.Ring.product l.ring) l.base l.left) ≡ power (g.R.Ring.product l.ring) l.fn.a l.fn.e;
}

abbrev pub decreases-loop-left : goal.decreases-loop-left
decreases-loop-left g l = l.left
