use Rattle.std.proofs.Common.{◌^◌, ◌-◌, ◌/◌, ◌∙◌, ap}
use Rattle.gf_field.specs.Power.{power}
use Rattle.irreducible.proofs.InverseLaws.{inverse_power}
use Rattle.irreducible.proofs.proved_rings.ProvedField.inv.Goals as goal

pub returns-clause-inverse : goal.returns-clause-inverse
unfolding power
returns-clause-inverse g c =
    let law = g.met.R.Ring.laws c.args.self.now.ring in
    ap (g.R.Ring.product c.args.self.now.ring c.args.a) (c.power.ensures.product ∙ ap (power (g.R.Ring.product c.args.self.now.ring) c.args.a) (ap (λ x. 18446744073709551615 / 2 ^ (64 - x) - 1) c.k.ensures))
    ∙ inverse_power _ _ law c.args.self.now.no_zero_divisors c.args.a c.requires.element c.requires.nonzero
