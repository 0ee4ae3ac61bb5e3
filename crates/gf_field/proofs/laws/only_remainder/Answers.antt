use Rattle.std.proofs.Common.{one-mul}
use Rattle.gf_field.specs.Bit.{bit_mul}
use Rattle.gf_field.specs.laws.BitLaws.{IsRing-bit_mul}
use Rattle.gf_field.specs.laws.ModulusLaws.{IsMonic-from_modulus}
use Rattle.gf_field.specs.laws.ProductLaws.{HasOnlyProduct-from_ring}
use Rattle.gf_field.proofs.laws.only_remainder.Goals as goal

pub returns : goal.returns
returns c = λ a b w ha hb.
    let ring = c.args._ring.now in
    HasOnlyProduct-from_ring 1 bit_mul IsRing-bit_mul ring.degree ring.modulus a b w ring.fits.some (IsMonic-from_modulus ring.degree ring.modulus ring.fits) (rw one-mul ha) (rw one-mul hb)
