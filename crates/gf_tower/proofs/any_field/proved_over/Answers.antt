use Rattle.std.proofs.Common.{ap, refl}
use Rattle.gf_tower.specs.TowerParts.{coefficients_of}
use Rattle.gf_tower.proofs.FieldNameLaws.{field_over, over_fault}
use Rattle.gf_tower.proofs.any_field.proved_over.Goals as goal

pub returns-in-Err-new-clause-fault : goal.returns-in-Err-new-clause-fault
returns-in-Err-new-clause-fault g c =
    let t = c.in-Ok.tower in
    over_fault (g.F.Ring.degree t.base) t.length t.low (coefficients_of t) (g.F.Ring.product t.base) t.fits (g.met.F.Ring.laws t.base) (g.met.F.Field.no_zero_divisors t.base)
    (g.F.Ring.degree c.args.base) (g.F.Ring.product c.args.base) c.args.coefficients.now
    (ap (λ b. g.F.Ring.degree b) c.in-Ok.ensures.base) (ap (λ b. g.F.Ring.product b) c.in-Ok.ensures.base) c.in-Ok.ensures.coefficients
    (λ h. let bad = c.in-Err-new.ensures.accepted.1 h in cc)

pub returns-clause-field : goal.returns-clause-field
returns-clause-field g c =
    let t = c.in-Ok.tower in
    field_over (g.F.Ring.degree t.base) t.length t.low (coefficients_of t) (g.F.Ring.product t.base) t.fits (g.met.F.Ring.laws t.base) (g.met.F.Field.no_zero_divisors t.base)
    (g.F.Ring.degree c.args.base) (g.F.Ring.product c.args.base) c.args.coefficients.now
    (ap (λ b. g.F.Ring.degree b) c.in-Ok.ensures.base) (ap (λ b. g.F.Ring.product b) c.in-Ok.ensures.base) c.in-Ok.ensures.coefficients
    (c.in-Ok-new.ensures.accepted.0 refl)
