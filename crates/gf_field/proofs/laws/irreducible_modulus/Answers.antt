use Rattle.gf_field.specs.laws.IrreducibleBitLaws.{field_by_modulus}
use Rattle.gf_field.proofs.laws.irreducible_modulus.Goals as goal

pub returns : goal.returns
returns c = field_by_modulus c.args._ring.now.degree c.args._ring.now.modulus c.args._ring.now.fits
