use Rattle.std.proofs.Common.{ℕ, ◌<◌, ◌^◌, sym, subst}
use Rattle.gf_field.specs.Bit.{bit_mul}
use Rattle.gf_field.specs.Quotient.{product}
use Rattle.gf_field.specs.Ring2k.{degree_of, modulus_of}
use Rattle.gf_field.specs.laws.ModulusLaws.{IsRing-from_modulus}
use Rattle.gf_field.specs.laws.PowerLaws.{power_below}
use Rattle.irreducible.specs.Proved.{ring_of}
use Rattle.make_laws.specs.Indeterminate.{x_of}
use Rattle.mult_composite.proofs.powers.x_power.Goals as goal

pub returns-clause-power : goal.returns-clause-power
returns-clause-power c = c.requires.powers c.args.i c.requires.entry

pub returns-clause-element : goal.returns-clause-element
returns-clause-element c =
    let k : ℕ = degree_of (ring_of c.args._base.now) in
    let g : ℕ = modulus_of (ring_of c.args._base.now) in
    let P : ℕ → Type 0 = λ v. v < 2 ^ k in
    subst P (sym (c.requires.powers c.args.i c.requires.entry)) (power_below k (product 1 k bit_mul g) (IsRing-from_modulus k g c.args._base.now.ring.fits) (x_of k g) c.args.i)
