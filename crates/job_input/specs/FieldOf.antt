-- The field that a modulus over 0 and 1 and the coefficients of a tower name, or why they name none
-- (Lidl and Niederreiter, Finite Fields, chapter 1, section 3).
use Rattle.std.specs.Prelude.{◌≡◌, ℕ, ◌*◌, List, [], ◌∷◌, length, Ok, Err}
use Rattle.outcome.specs.Outcome.{Outcome, Within}
use Rattle.gf_field.specs.Bit.{bit_mul}
use Rattle.gf_field.specs.Quotient.{product as quotient_product}
use Rattle.gf_tower.specs.Tower.{tower_polynomial}
use Rattle.gf_tower.specs.FieldName.{IsFieldName}
use Rattle.gf_tower.specs.FieldFault.{IsFieldFault}
use Rattle.gf_tower.specs.declared.any_field.FieldFault.{FieldFault}
use Rattle.gf_tower.specs.declared.any_field.FieldFault.TheVariants.{BadDegree, NotIrreducible, BadLength, BadCoefficient, TowerNotIrreducible, UpperBadLength, UpperBadCoefficient, UpperNotIrreducible}
use Rattle.job_words.specs.declared.signature_fault.SignatureFault.{SignatureFault}
use Rattle.job_words.specs.declared.signature_fault.SignatureFault.TheVariants.{Degree, Modulus, Tower, TowerPolynomial}

-- a field, by the number of bits of its elements and its product
pub record FieldValue : Type 0 where
  pub k : ℕ
  pub product : ℕ → ℕ → ℕ

-- the polynomials over 0 and 1 modulo g, which has degree d
abbrev pub base_field : ℕ → ℕ → FieldValue
base_field d g = record { k = d; product = quotient_product 1 d bit_mul g }

-- the polynomials over that field modulo the tower's polynomial, whose coefficients below its leading one are cs
abbrev pub tower_field : ℕ → ℕ → List ℕ → FieldValue
tower_field d g cs = record { k = d * length cs; product = quotient_product d (length cs) (quotient_product 1 d bit_mul g) (tower_polynomial d cs) }

-- the polynomials over that tower modulo the polynomial of the second step, whose coefficients below its leading one are us
abbrev pub upper_field : ℕ → ℕ → List ℕ → List ℕ → FieldValue
upper_field d g cs us = record { k = d * length cs * length us; product = quotient_product (d * length cs) (length us) (tower_field d g cs).product (tower_polynomial (d * length cs) us) }

-- the first where there are no coefficients, the second where there is one step, and else the third
abbrev pub field_of : ℕ → ℕ → List ℕ → List ℕ → FieldValue
field_of d g [] us = base_field d g
field_of d g (c ∷ cs) [] = tower_field d g (c ∷ cs)
field_of d g (c ∷ cs) (u ∷ us) = upper_field d g (c ∷ cs) (u ∷ us)

-- the field that the modulus and the coefficients of no, one or two tower steps name, or the reason why they name none
abbrev pub FieldOrFault : ℕ → List ℕ → List ℕ → Outcome FieldFault FieldValue
FieldOrFault g cs us (Ok field) = (name : IsFieldName g cs us) × (field ≡ field_of name.degree g cs us)
FieldOrFault g cs us (Err fault) = IsFieldFault g cs us fault

-- the fault of a signature that this reason is
abbrev pub field_fault : FieldFault → SignatureFault
field_fault BadDegree = Degree
field_fault NotIrreducible = Modulus
field_fault BadLength = Tower
field_fault (BadCoefficient place) = Tower
field_fault TowerNotIrreducible = TowerPolynomial
field_fault UpperBadLength = Tower
field_fault (UpperBadCoefficient place) = Tower
field_fault UpperNotIrreducible = TowerPolynomial

-- the field of a signature with this modulus and these towers, or its fault
abbrev pub FieldOf : ℕ → List ℕ → List ℕ → Outcome SignatureFault FieldValue
FieldOf modulus tower upper = Within field_fault (FieldOrFault modulus tower upper)
