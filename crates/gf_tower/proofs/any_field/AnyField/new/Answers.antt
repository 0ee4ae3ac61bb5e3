use Rattle.std.proofs.Common.{rules, ◌≡◌, subst, ap, ◌∙◌, refl, inl, inr, ◌<◌, length}
use Rattle.std.proofs.lemmas.List.{nil_from_length}
use Rattle.gf_field.specs.Bit.{bit_mul}
use Rattle.gf_field.specs.Quotient.{product}
use Rattle.gf_field.specs.Ring2k.{degree_of, modulus_of}
use Rattle.irreducible.specs.Proved.{ring_of}
use Rattle.gf_tower.specs.TowerParts.{base_of, coefficients_of, size_of}
use Rattle.gf_tower.specs.FieldName.{IsFieldOver}
use Rattle.gf_tower.specs.private.OverFault.{IsOverFault}
use Rattle.gf_tower.proofs.FieldNameLaws.{fault_clash, same_tower}
use Rattle.gf_tower.proofs.any_field.AnyField.new.Goals as goal

pub returns-in-Err-clause-fault : goal.returns-in-Err-clause-fault
returns-in-Err-clause-fault c = c.in-Err.ensures.fault c.args.tower.now c.args.upper.now

pub returns-in-Err-clause-accepted : goal.returns-in-Err-clause-accepted
returns-in-Err-clause-accepted c =
    (λ h. cc, λ name. absurd (fault_clash c.args.modulus c.args.tower.now c.args.upper.now c.in-Err.fault (returns-in-Err-clause-fault c) name))

pub returns-in-Err-proved_over-clause-fault : goal.returns-in-Err-proved_over-clause-fault
returns-in-Err-proved_over-clause-fault c =
    let d = degree_of (ring_of c.in-Ok.base) in
    let cs = c.args.tower.now in
    let some : 0 < length cs = search rules in
    c.tower_fault.ensures d c.args.modulus cs c.args.upper.now c.in-Ok.ensures.field some
    (subst (λ g. IsOverFault d (product 1 d bit_mul g) cs c.in-Err-proved_over.fault) c.in-Ok.ensures.modulus c.in-Err-proved_over.ensures.fault)

pub returns-in-Err-proved_over-clause-accepted : goal.returns-in-Err-proved_over-clause-accepted
returns-in-Err-proved_over-clause-accepted c =
    (λ h. cc, λ name. absurd (fault_clash c.args.modulus c.args.tower.now c.args.upper.now c.tower_fault.result (returns-in-Err-proved_over-clause-fault c) name))

pub returns-then-is_empty-2-clause-accepted : goal.returns-then-is_empty-2-clause-accepted
returns-then-is_empty-2-clause-accepted c =
    let d = degree_of (ring_of c.in-Ok.base) in (
      λ h. record {
        degree = d;
        base = c.in-Ok.ensures.field;
        tower = inr (subst (λ g. IsFieldOver d (product 1 d bit_mul g) c.args.tower.now) c.in-Ok.ensures.modulus c.in-Ok-proved_over.ensures.field);
        upper = inl (let none : length c.args.upper.now ≡ 0 = search rules in nil_from_length c.args.upper.now none);
      },
      λ name. refl,
    )

pub returns-in-Err-proved_over-2-clause-fault : goal.returns-in-Err-proved_over-2-clause-fault
returns-in-Err-proved_over-2-clause-fault c =
    let d = degree_of (ring_of c.in-Ok.base) in
    let cs = c.args.tower.now in
    let t = ring_of c.in-Ok-proved_over.field in
    let same = c.in-Ok-proved_over.ensures.base in
    let some : 0 < length c.args.upper.now = search rules in
    c.upper_fault.ensures d c.args.modulus cs c.args.upper.now
    (record { base = c.in-Ok.ensures.field; tower = subst (λ g. IsFieldOver d (product 1 d bit_mul g) cs) c.in-Ok.ensures.modulus c.in-Ok-proved_over.ensures.field })
    some
    (same_tower (λ n f. IsOverFault n f c.args.upper.now c.in-Err-proved_over-2.fault)
    (degree_of (ring_of (base_of t))) (size_of t) (modulus_of (ring_of (base_of t))) (coefficients_of t) d c.args.modulus cs
    (ap (λ b. degree_of (ring_of b)) same) (ap (λ b. modulus_of (ring_of b)) same ∙ c.in-Ok.ensures.modulus) c.in-Ok-proved_over.ensures.size c.in-Ok-proved_over.ensures.coefficients
    c.in-Err-proved_over-2.ensures.fault)

pub returns-in-Err-proved_over-2-clause-accepted : goal.returns-in-Err-proved_over-2-clause-accepted
returns-in-Err-proved_over-2-clause-accepted c =
    (λ h. cc, λ name. absurd (fault_clash c.args.modulus c.args.tower.now c.args.upper.now c.upper_fault.result (returns-in-Err-proved_over-2-clause-fault c) name))
