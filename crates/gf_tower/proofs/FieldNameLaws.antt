-- A fault of a modulus and coefficients is one exactly where they name no field.
use Rattle.std.proofs.Common.{◌≡◌, ℕ, sym, refl, ◌<◌, ◌≤◌, ◌*◌, inl, inr, arith, subst, List, [], length, not-suc-le-zero}
use Rattle.std.proofs.lemmas.Bool.{cases_eq, cases_lt}
use Rattle.gf_field.specs.Bit.{bit_mul}
use Rattle.gf_field.specs.Ring.{IsRing}
use Rattle.gf_field.specs.Field.{HasNoZeroDivisors}
use Rattle.gf_field.specs.Element.{AreElements}
use Rattle.gf_field.specs.Modulus.{IsModulus, HasModulusDegree}
use Rattle.gf_field.specs.Polynomial.{IsIrreducible}
use Rattle.gf_field.specs.Quotient.{product}
use Rattle.gf_field.proofs.FirstOutsideLemmas.{first_clash}
use Rattle.gf_field.specs.laws.IrreducibleBitLaws.{field_by_modulus}
use Rattle.gf_tower.specs.Tower.{IsLength, IsTowerList, tower_polynomial}
use Rattle.gf_tower.specs.Digits.{IsPackedList}
use Rattle.gf_tower.specs.laws.TowerLaws.{field_by_polynomial}
use Rattle.gf_tower.specs.FieldName.{IsFieldModulus, IsFieldOver, IsFieldName, IsIrreducibleOver, tower_product}
use Rattle.gf_tower.specs.FieldFault.{IsFieldFault, HasTower}
use Rattle.gf_tower.specs.declared.any_field.FieldFault.{FieldFault}
use Rattle.gf_tower.specs.declared.any_field.FieldFault.TheVariants.{BadDegree, NotIrreducible, BadLength, BadCoefficient, TowerNotIrreducible, UpperBadLength, UpperBadCoefficient, UpperNotIrreducible}

-- ---- the base
pub base_field : (d m g : ℕ) → IsModulus d m → m ≡ g → HasNoZeroDivisors d (product 1 d bit_mul m) → IsFieldModulus d g
base_field d m g ok e h = record {
  modulus = subst (IsModulus d) e ok;
  irreducible = subst (IsIrreducible 1 bit_mul) e ((field_by_modulus d m ok).0 h);
}

pub base_fault : (d m g : ℕ) → IsModulus d m → m ≡ g → (HasNoZeroDivisors d (product 1 d bit_mul m) → ⊥) → HasModulusDegree g × (IsIrreducible 1 bit_mul g → ⊥)
base_fault d m g ok e h = ((d, subst (IsModulus d) e ok), λ i. h ((field_by_modulus d m ok).1 (subst (IsIrreducible 1 bit_mul) (sym e) i)))

-- ---- the tower
IsTowerList-packed : (n m low : ℕ) (cs : List ℕ) → IsPackedList n m low cs → IsTowerList n cs
IsTowerList-packed n m low cs ok = record {
  size = record { two = rw (ok.size) ok.two; small = rw (ok.size) ok.small };
  elements = ok.elements;
}

-- the same over another base of equal product, and for equal coefficients
moved : (P : (n : ℕ) → (ℕ → ℕ → ℕ) → List ℕ → Type 0) {n d : ℕ} {mul mul' : ℕ → ℕ → ℕ} {ks cs : List ℕ} → n ≡ d → mul ≡ mul' → ks ≡ cs → P n mul ks → P d mul' cs
moved P {n} {d} {mul} {mul'} {ks} {cs} a b e p = subst (λ xs. P d mul' xs) e (subst (λ f. P d f ks) b (subst (λ k. P k mul ks) a p))

module _ (n m low : ℕ) (ks : List ℕ) (mul : ℕ → ℕ → ℕ) (ok : IsPackedList n m low ks) (ring : IsRing n mul) (field : HasNoZeroDivisors n mul) (d : ℕ) (mul' : ℕ → ℕ → ℕ) (cs : List ℕ) (same_degree : n ≡ d) (same_product : mul ≡ mul') (same_list : ks ≡ cs) where
  pub field_over : HasNoZeroDivisors (n * m) (product n m mul (tower_polynomial n ks)) → IsFieldOver d mul' cs
  field_over h = record {
    list = moved (λ k f xs. IsTowerList k xs) same_degree same_product same_list (IsTowerList-packed n m low ks ok);
    irreducible = moved (λ k f xs. IsIrreducible k f (tower_polynomial k xs)) same_degree same_product same_list ((field_by_polynomial n m low ks ok mul ring field).0 h);
  }

  pub over_fault : (HasNoZeroDivisors (n * m) (product n m mul (tower_polynomial n ks)) → ⊥) → IsTowerList d cs × (IsIrreducible d mul' (tower_polynomial d cs) → ⊥)
  over_fault h = (
    moved (λ k f xs. IsTowerList k xs) same_degree same_product same_list (IsTowerList-packed n m low ks ok),
    moved (λ k f xs. IsIrreducible k f (tower_polynomial k xs) → ⊥) same_degree same_product same_list (λ i. h ((field_by_polynomial n m low ks ok mul ring field).1 i)),
  )

-- ---- faults and names
pub degree_unique : (d e g : ℕ) → IsModulus d g → IsModulus e g → d ≡ e
degree_unique d e g p q = elim (cases_eq d e) [
  | inl same ↦ same
  | inr other ↦ elim (cases_lt d e) [
    | inl less ↦ absurd (q.degree.leading (p.degree.last e less))
    | inr more ↦ absurd (p.degree.leading (q.degree.last d (omega arith)))
  ]
]

empty_short : (cs : List ℕ) → cs ≡ [] → 0 < length cs → ⊥
empty_short cs e h = not-suc-le-zero (subst (λ (xs : List ℕ). 0 < length xs) e h)

pub fault_clash : (g : ℕ) (cs us : List ℕ) (fault : FieldFault) → IsFieldFault g cs us fault → IsFieldName g cs us → ⊥
fault_clash g cs us BadDegree f name = f (name.degree, name.base.modulus)
fault_clash g cs us NotIrreducible f name = f.1 name.base.irreducible
fault_clash g cs us BadLength f name = elim (name.tower) [
  | inl none ↦ empty_short cs none f.1.1
  | inr tower ↦ f.1.2 (subst (λ (d : ℕ). IsLength d (length cs)) (degree_unique name.degree f.0 g name.base.modulus f.1.0.modulus) tower.list.size)
]
fault_clash g cs us (BadCoefficient place) f name = elim (name.tower) [
  | inl none ↦ empty_short cs none (let two : 2 ≤ length cs = f.1.1.two in omega arith)
  | inr tower ↦ first_clash f.0 cs place (subst (λ (d : ℕ). AreElements d cs) (degree_unique name.degree f.0 g name.base.modulus f.1.0.modulus) tower.list.elements) f.1.2
]
fault_clash g cs us TowerNotIrreducible f name = elim (name.tower) [
  | inl none ↦ empty_short cs none (let two : 2 ≤ length cs = f.1.1.size.two in omega arith)
  | inr tower ↦ f.1.2 (subst (λ (d : ℕ). IsIrreducibleOver d g cs) (degree_unique name.degree f.0 g name.base.modulus f.1.0.modulus) tower.irreducible)
]
fault_clash g cs us UpperBadLength f name = elim (name.upper) [
  | inl none ↦ empty_short us none f.1.1
  | inr upper ↦ f.1.2 (subst (λ (d : ℕ). IsLength (d * length cs) (length us)) (degree_unique name.degree f.0 g name.base.modulus f.1.0.base.modulus) upper.list.size)
]
fault_clash g cs us (UpperBadCoefficient place) f name = elim (name.upper) [
  | inl none ↦ empty_short us none (let two : 2 ≤ length us = f.1.1.two in omega arith)
  | inr upper ↦ first_clash (f.0 * length cs) us place (subst (λ (d : ℕ). AreElements (d * length cs) us) (degree_unique name.degree f.0 g name.base.modulus f.1.0.base.modulus) upper.list.elements) f.1.2
]
fault_clash g cs us UpperNotIrreducible f name = elim (name.upper) [
  | inl none ↦ empty_short us none (let two : 2 ≤ length us = f.1.1.size.two in omega arith)
  | inr upper ↦ f.1.2 (subst (λ (d : ℕ). IsIrreducible (d * length cs) (tower_product d g cs) (tower_polynomial (d * length cs) us)) (degree_unique name.degree f.0 g name.base.modulus f.1.0.base.modulus) upper.irreducible)
]

-- a tower names a field of one step
pub name_of : (d g : ℕ) (cs : List ℕ) → HasTower d g cs → IsFieldName g cs []
name_of d g cs has = record { degree = d; base = has.base; tower = inr has.tower; upper = inl refl }

-- the same over another tower of equal parts
pub same_tower : (P : ℕ → (ℕ → ℕ → ℕ) → Type 0) (n m h : ℕ) (ks : List ℕ) (d g : ℕ) (cs : List ℕ) → n ≡ d → h ≡ g → m ≡ length cs → ks ≡ cs
    → P (n * m) (product n m (product 1 n bit_mul h) (tower_polynomial n ks)) → P (d * length cs) (tower_product d g cs)
same_tower P n m h ks d g cs same_degree same_modulus same_size same_list p =
    subst (λ xs. P (d * length cs) (product d (length cs) (product 1 d bit_mul g) (tower_polynomial d xs))) same_list
    (subst (λ x. P (d * x) (product d x (product 1 d bit_mul g) (tower_polynomial d ks))) same_size
    (subst (λ x. P (d * m) (product d m (product 1 d bit_mul x) (tower_polynomial d ks))) same_modulus
    (subst (λ x. P (x * m) (product x m (product 1 x bit_mul h) (tower_polynomial x ks))) same_degree p)))
