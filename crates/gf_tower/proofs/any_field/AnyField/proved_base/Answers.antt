use Rattle.std.proofs.Common.{ap, ◌∙◌}
use Rattle.gf_field.specs.Ring2k.{modulus_of}
use Rattle.gf_tower.proofs.FieldNameLaws.{base_field, base_fault}
use Rattle.gf_tower.proofs.any_field.AnyField.proved_base.Goals as goal

pub returns-in-Err-new-clause-fault : goal.returns-in-Err-new-clause-fault
returns-in-Err-new-clause-fault c = λ cs us. base_fault c.in-Ok.ring.degree c.in-Ok.ring.modulus c.args.modulus c.in-Ok.ring.fits c.in-Ok.ensures.modulus (λ h. let bad = c.in-Err-new.ensures.accepted.1 h in cc)

pub returns-in-Ok-new-clause-field : goal.returns-in-Ok-new-clause-field
returns-in-Ok-new-clause-field c =
    base_field _ _ _ c.in-Ok-new.field.ring.fits (ap (λ r. modulus_of r) c.in-Ok-new.ensures.kept ∙ c.in-Ok.ensures.modulus) c.in-Ok-new.field.no_zero_divisors
