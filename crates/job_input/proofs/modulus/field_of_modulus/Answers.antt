use Rattle.std.proofs.Common.{[], refl, subst}
use Rattle.gf_tower.specs.AnyField.{IsMadeOf}
use Rattle.gf_tower.specs.declared.any_field.AnyField.{AnyField}
use Rattle.gf_tower.specs.declared.any_field.AnyField.TheVariants.{Base}
use Rattle.job_input.specs.FieldOf.{field_fault}
use Rattle.job_input.proofs.FieldLemmas.{field_made}
use Rattle.job_input.proofs.modulus.field_of_modulus.Goals as goal

pub returns-in-Ok-Base : goal.returns-in-Ok-Base
returns-in-Ok-Base c =
    let P : AnyField → Type 0 = λ field. IsMadeOf field c.args.modulus [] [] in
    let made = subst P c.in-Ok-Base.field-0-is c.in-Ok-Base.ensures.made in
    record { gives = field_made (Base c.in-Ok-Base.ring) c.args.modulus [] [] (c.in-Ok-Base.ensures.accepted.0 refl) made; refused = tt; modulus = made.0 }

pub returns-in-Err : goal.returns-in-Err
returns-in-Err c = record {
  gives = rw (c.refused.ensures, c.field_fault.ensures) ((field_fault c.in-Err.fault, (c.in-Err.fault, c.in-Err.ensures.fault, refl), refl), λ miss. miss);
  refused = (c.field_fault.result, c.refused.ensures);
  modulus = tt;
}
